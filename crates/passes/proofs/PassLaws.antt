-- The passes over a table, by what the definition says of a flush.
-- Assumes nothing.
use Prim.Native.Nat.{ℕ, zero, suc, ◌<◌}
use mathlib.Core.Path.{◌≡◌, sym, ap, ap₂, ◌∙◌}
use mathlib.Core.Bool.{true, false, ◌&&◌, true≢false}
use mathlib.Core.List.{List}
use lib.ListN.{length, take}
use lib.Seq.{length-take-le}
use lib.Dec.{eqb}
use native.Mathlib.Omega.{arith}
use Rattle.laws.proofs.Tests.{by_test}
use Rattle.channel.specs.declared.Record.{Record}
use Rattle.channel.specs.declared.Entry as E
use Rattle.channel.specs.declared.Table as T
use Rattle.channel.specs.State.{number_of, queued, without}
use Rattle.channel.specs.Decide.{flushed, any_byte}
use Rattle.channel.specs.Raw.{entries_of, pending_of}
use Rattle.channel.specs.Sound.{sum_left}
use Rattle.channel.proofs.Faithful.{pending_back, queued_back}
use Rattle.passes.specs.declared.Size.{Size}
use Rattle.passes.specs.Keep.{Base, keeps}
use Rattle.passes.specs.Flush.{sizes, size_of, any_left, stuck_by, positive_of}
use Rattle.passes.specs.Pass.{entries_in, flushed_of, flushed_in}
use Rattle.passes.proofs.Definition.{entries-used, any_left_lem, flushed-limit, sizes-flushed, keeps-flushed, keeps-without}

-- a limit that is not 0
pub positive_limit : (c : Record) → 0 < (positive_of c).recipient_maximum_packet_size
unfolding positive_of
positive_limit c =
    by_test (eqb c.recipient_maximum_packet_size 0)
    (λ s. rw s (omega arith))
    (λ s. rw s (above c.recipient_maximum_packet_size s))
  where
    above : (n : ℕ) → eqb n 0 ≡ false → 0 < n
    above zero e = absurd (true≢false e)
    above (suc n) e = omega arith

module _ (t : T.Table) (q : List ℕ) (b : Base t.entries t.entry_count q t.queue_used) where
  -- the queue past its used part has no entry's bytes
  whole : entries_in t q ≡ entries_of t.entry_count t.entries q
  whole = entries-used t.entry_count t.entries q t.queue_used (omega (arith, b.total))

  front : length (take t.queue_used q) ≡ t.queue_used
  front = length-take-le t.queue_used q b.fits

  pub rows : pending_of (entries_in t q) ≡ take t.entry_count t.entries
  rows = pending_back t.entry_count t.entries (take t.queue_used q) (omega (arith, b.places, b.few)) (omega (arith, b.total, front))

  -- what the compaction keeps with a window that holds all
  pub dropped_by : (n : ℕ) → keeps n true t.queue_used (entries_of t.entry_count t.entries q) ≡ without n (entries_in t q)
  dropped_by n =
      let sum : ℕ = sum_left t.entry_count t.entries in
      let m : queued (entries_in t q) ≡ take sum (take t.queue_used q) = queued_back t.entry_count t.entries (take t.queue_used q) (omega (arith, b.places, b.few)) in
      let k : length (take sum (take t.queue_used q)) ≡ sum = length-take-le sum (take t.queue_used q) (omega (arith, b.total, front)) in
      ap (keeps n true t.queue_used) (sym whole) ∙ keeps-without n t.queue_used (entries_in t q) (omega (arith, ap length m, b.total))

module _ (c : Record) (t : T.Table) (q : List ℕ) (b : Base t.entries t.entry_count q t.queue_used) where
  pub stuck_is : stuck_by c (take t.entry_count t.entries) ≡ eqb c.recipient_maximum_packet_size 0 && any_byte (number_of c) (entries_in t q)
  stuck_is =
      ap (λ x. eqb c.recipient_maximum_packet_size 0 && x) (ap (any_left (number_of c)) (sym (rows t q b)) ∙ any_left_lem (number_of c) (entries_in t q))

  module _ (h : stuck_by c (take t.entry_count t.entries) ≡ false) where
    -- the record with a positive limit flushes alike
    same-flush : flushed (positive_of c) c.recipient_window_size (entries_in t q) ≡ flushed_in t q c
    unfolding positive_of
    same-flush =
        let g : eqb c.recipient_maximum_packet_size 0 && any_byte (number_of c) (entries_in t q) ≡ false = sym stuck_is ∙ h in
        by_test (eqb c.recipient_maximum_packet_size 0)
        (λ s. rw s (flushed-limit c 1 c.recipient_window_size (entries_in t q) (rw s at g)))
        (λ s. rw s)

    same_by : (d : Record) → d ≡ positive_of c → flushed d d.recipient_window_size (entries_in t q) ≡ flushed_in t q c
    unfolding positive_of
    same_by d e = ap (λ x. flushed x x.recipient_window_size (entries_in t q)) e ∙ same-flush

    -- as the framing pass has it
    pub framed_by : (d : Record) → d ≡ positive_of c → flushed d d.recipient_window_size (entries_of t.entry_count t.entries q) ≡ flushed_in t q c
    framed_by d e = ap (flushed d d.recipient_window_size) (sym (whole t q b)) ∙ same_by d e

    -- as the size pass has it
    pub sizes_by : (d : Record) (s : Size) → d ≡ positive_of c → s ≡ sizes d d.recipient_window_size (take t.entry_count t.entries) → s ≡ size_of (flushed_in t q c)
    sizes_by d s e f =
        f
        ∙ ap (sizes d d.recipient_window_size) (sym (rows t q b))
        ∙ sizes-flushed d d.recipient_window_size (entries_in t q) (rw e (positive_limit c))
        ∙ ap size_of (same_by d e)

-- as the compaction has it
pub kept_by : (c : Record) (es : List E.Entry) (count used : ℕ) (q : List ℕ) → Base es count q used
    → (w : ℕ) → w ≡ c.recipient_window_size → keeps (number_of c) true w (entries_of count es q) ≡ (flushed_of es count used q c).kept
kept_by c es count used q b w e =
    let m : entries_of count es (take used q) ≡ entries_of count es q = entries-used count es q used (omega (arith, b.total)) in
    ap₂ (λ v x. keeps (number_of c) true v x) e (sym m) ∙ keeps-flushed c c.recipient_window_size (entries_of count es (take used q))
