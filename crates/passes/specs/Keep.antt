-- What stays of the pending entries when bytes of one channel leave the queue, in entry order and as many as a window holds.
-- Assumes nothing.
use Rattle.std.specs.Prelude.{ℕ, ◌+◌, ◌-◌, ◌≤◌, ◌≡◌, Bool, true, false, ◌&&◌, not, cond, List, [], ◌∷◌, ◌++◌, length, drop, replicate, leb, eqb}
use Rattle.std.proofs.lemmas.List.Edits.{sets}
use Rattle.octets.specs.Buf.{write}
use Rattle.channel.specs.declared.Entry as E
use Rattle.channel.specs.declared.Table as D
use Rattle.channel.specs.State.{most_entries, Entry, queued}
use Rattle.channel.specs.Raw.{entries_of, pending_of, zero_entry}
use Rattle.channel.specs.Sound.{sum_left}
use Rattle.lookup.specs.Update.{filed}

-- the entry is the channel's, none of the channel was kept yet (`live`), and the window holds it
abbrev pub goes_by : ℕ → Bool → ℕ → ℕ → ℕ → Bool
goes_by n live w number left = (live && eqb number n) && leb left w

-- the bytes that leave an entry that stays
abbrev pub cut_by : ℕ → Bool → ℕ → ℕ → ℕ
cut_by n live w number = cond (live && eqb number n) w 0

abbrev pub still_by : ℕ → Bool → ℕ → Bool
still_by n live number = live && not (eqb number n)

unfoldable pub cut : ℕ → Entry → Entry
cut d e = record { number = e.number; kind = e.kind; bytes = drop d e.bytes }

unfoldable pub keeps : ℕ → Bool → ℕ → List Entry → List Entry
keeps n live w [] = []
keeps n live w (e ∷ es) =
    elim (goes_by n live w e.number (length e.bytes)) [
      | true ↦ keeps n live (w - length e.bytes) es
      | false ↦ cut (cut_by n live w e.number) e ∷ keeps n (still_by n live e.number) w es
    ]

-- the entries from place i on, whose bytes stand in the queue from `off` on
abbrev pub rest : List E.Entry → ℕ → List ℕ → ℕ → ℕ → List Entry
rest es count q i off = entries_of (count - i) (drop i es) (drop off q)

-- the code's entries over its queue
pub record Base (es : List E.Entry) (count : ℕ) (q : List ℕ) (used : ℕ) : Type 0 where
  pub places : length es ≡ most_entries
  pub few : count ≤ most_entries
  pub fits : used ≤ length q
  pub total : sum_left count es ≡ used

-- the queue, the entries and the counts when `ks` stay: the freed ones are zero
unfoldable pub queue_with : List Entry → ℕ → List ℕ → List ℕ
queue_with ks used q = queued ks ++ replicate (used - length (queued ks)) 0 ++ drop used q

unfoldable pub entries_with : List Entry → ℕ → List E.Entry → List E.Entry
entries_with ks count es = pending_of ks ++ replicate (count - length ks) zero_entry ++ drop count es

unfoldable pub table_with : List Entry → D.Table → D.Table
table_with ks t = filed t (entries_with ks t.entry_count t.entries) (length ks) (length (queued ks))

-- places up to i are done: what is left to do, done to the present arrays, is the whole result `ks`
pub record Going (es₀ : List E.Entry) (count : ℕ) (q₀ : List ℕ) (used n : ℕ) (ks : List Entry)
    (es : List E.Entry) (q : List ℕ) (i k off to w : ℕ) (live : Bool) : Type 0 where
  pub within : i ≤ count
  pub behind : k ≤ i
  pub lower : to ≤ off
  pub ahead : off + sum_left (count - i) (drop i es₀) ≡ used
  pub same_q : length q ≡ length q₀
  pub same_e : length es ≡ most_entries
  pub rest_q : drop off q ≡ drop off q₀
  pub rest_e : drop i es ≡ drop i es₀
  pub bytes : write 0 (queued ks) q₀ ≡ write to (queued (keeps n live w (rest es₀ count q₀ i off))) q
  pub places : sets es₀ 0 (pending_of ks) ≡ sets es k (pending_of (keeps n live w (rest es₀ count q₀ i off)))
  pub kept : k + length (keeps n live w (rest es₀ count q₀ i off)) ≡ length ks
  pub room : to + length (queued (keeps n live w (rest es₀ count q₀ i off))) ≡ length (queued ks)
