-- What taking a 97 in comes to: one law for each way out. Where the channel has no entry none goes.
-- Assumes nothing.
use Rattle.std.proofs.Common.{ℕ, ◌+◌, ◌≤◌, ◌<◌, ◌≡◌, refl, sym, ap, ◌∙◌, true, false, List, [], ◌∷◌, length, Ok, Err, arith}
use lib.Dec.{eqb}
use Rattle.laws.proofs.Tests.{or_neither}
use Rattle.octets.specs.Buf.{write}
use Rattle.channel.specs.declared.Entry as E
use Rattle.channel.specs.declared.Message.TheVariants.{Close}
use Rattle.channel.specs.declared.ChannelId.{ChannelId}
use Rattle.channel.specs.declared.Refusal.{Refusal}
use Rattle.channel.specs.Wire.{frame, frames, close_message}
use Rattle.channel.specs.State.{Table, Entry, peer_of, any_entry, without}
use Rattle.channel.specs.State as S
use Rattle.channel.specs.Call.{message, closed, act, incoming}
use Rattle.channel.specs.Change.{removed, with_entries}
use Rattle.channel.specs.Change as H
use Rattle.channel.specs.Decide.{staging, is_confirmed}
use Rattle.channel.specs.Decide as G
use Rattle.channel.specs.Step.{step, apply}
use Rattle.channel.specs.Raw.{Raw, entries_of, meaning}
use Rattle.channel.specs.Raw as R
use Rattle.channel.specs.Called.{outcome}
use Rattle.channel.specs.Read.{reads, read_message}
use Rattle.channel.specs.Answers.{message_of}
use Rattle.channel.specs.Answers as A
use Rattle.channel.proofs.Entries.{less_without, without_miss}
use Rattle.frames.proofs.Packets.{frames_one, length-close}
use Rattle.lookup.specs.Held.{record_at}
use Rattle.lookup.specs.Update.{filed, place_freed, staged_more}
use Rattle.lookup.proofs.Decided.{confirmed-is, has_is, held_fails, held_passes}
use Rattle.lookup.proofs.Bridge.{Rows, freed_places, same_rows}
use Rattle.lookup.proofs.Framed.{put-frame}
use Rattle.lookup.proofs.Branch as B
use Rattle.soundness.specs.declared.Found.{Found}
use Rattle.soundness.specs.Sees.{Sees}
use Rattle.passes.specs.Keep.{keeps, queue_with, table_with}
use Rattle.passes.specs.Pass.{entries_in}
use Rattle.passes.proofs.Rows.{base_of, kept_rows}
use Rattle.passes.proofs.PassLaws.{dropped_by}
use Rattle.incoming.specs.Takes.{heard, Comes}
use Rattle.incoming.proofs.Taking.{read_is, refuses}

-- a channel with no entry leaves them all
without-none : (n : ℕ) (es : List Entry) → any_entry n es ≡ false → without n es ≡ es
unfolding S.any_entry
without-none n [] h = unfold S.without in refl
without-none n (e ∷ es) h = let z = or_neither (eqb e.number n) _ h in without_miss n e es z.0 ∙ ap (λ l. e ∷ l) (without-none n es z.1)

module _ {r : Raw} {x : Found} (n : ChannelId) (s : Sees r n.0 (Ok x)) where
  pub unconfirmed : (record_at r.held x.place).confirmed ≡ false → Comes r (Close n) (outcome (heard (Close n) (Err Refusal.Unconfirmed)) r.held r.queue r.staged r.sent)
  unfolding G.taken_in A.message_of A.refusal_number
  unconfirmed e = refuses (Close n) s Refusal.Unconfirmed (held_fails r _ x.place s.is.held is_confirmed _ (confirmed-is _ ∙ e))

  module _ (f : (record_at r.held x.place).confirmed ≡ true) where
    -- the CLOSE, of 9 bytes in its frame
    abbrev bytes : List ℕ
    bytes = close_message (peer_of (record_at r.held x.place))

    nine : length (frames (bytes ∷ [])) ≡ 9
    nine = ap length (frames_one bytes) ∙ length-close (peer_of (record_at r.held x.place))

    -- the definition's table after it
    abbrev after : Table
    after = with_entries (removed (meaning r).table (record_at r.held x.place)) (without n.0 (meaning r).table.entries)

    closes : (p : List ℕ) → reads (message_of (Close n)) ≡ read_message p → step (meaning r) (act (incoming p)) ≡ apply (meaning r) false (staging (message (closed n.0)) after (bytes ∷ []))
    unfolding G.taken_in A.message_of
    closes p e = read_is r p (Close n) e ∙ ap (apply (meaning r) false) (held_passes r _ x.place s.is.held is_confirmed _ (confirmed-is _ ∙ f))

    pub full : length r.staged < r.held.staged_used + 9 → Comes r (Close n) (outcome (heard (Close n) (Err Refusal.Room)) r.held r.queue r.staged r.sent)
    unfolding A.answer A.refusal A.refusal_number
    full l p e = sym (B.full r s.typed s.is.sound (act (incoming p)) false (message (closed n.0)) after (bytes ∷ []) (closes p e) (omega (arith, nine)))

    -- with room the CLOSE is staged and the place is free, whatever the entries come to
    put : r.held.staged_used + 9 ≤ length r.staged → {rows : List E.Entry} {a b : ℕ} {q : List ℕ} → Rows r (without n.0 (meaning r).table.entries) rows a b q
        → Comes r (Close n) (outcome (heard (Close n) (Ok tt)) (staged_more (filed (place_freed r.held x.place) rows a b) 9) q (write r.held.staged_used (frame bytes) r.staged) r.sent)
    unfolding A.answer A.message_of H.removed H.with_places H.with_entries R.meaning
    put l rs p e =
        sym (B.control-is r s.typed s.is.sound (act (incoming p)) false (message (closed n.0)) after (bytes ∷ []) (closes p e) (omega (arith, nine))
        (freed_places r s.typed s.is.sound n.0 x.place s.is.held)
        rs
        (put-frame r.held.staged_used r.staged bytes (length-close (peer_of (record_at r.held x.place))) l))

    pub empty : r.held.staged_used + 9 ≤ length r.staged → x.waits ≡ false
        → Comes r (Close n) (outcome (heard (Close n) (Ok tt)) (staged_more (place_freed r.held x.place) 9) r.queue (write r.held.staged_used (frame bytes) r.staged) r.sent)
    empty l w = put l (rw (without-none n.0 (meaning r).table.entries (has_is r n.0 ∙ sym s.is.waits_is ∙ w)) (same_rows r s.typed s.is.sound))

    -- the compaction, with a window of the whole queue, keeps nothing of the channel
    pub drops : r.held.staged_used + 9 ≤ length r.staged
        → let ks = keeps n.0 true r.held.queue_used (entries_of r.held.entry_count r.held.entries r.queue) in
        Comes r (Close n)
        (outcome (heard (Close n) (Ok tt)) (table_with ks (staged_more (place_freed r.held x.place) 9)) (queue_with ks r.held.queue_used r.queue) (write r.held.staged_used (frame bytes) r.staged) r.sent)
    unfolding R.meaning table_with
    drops l =
        rw (dropped_by r.held r.queue (base_of r s.typed s.is.sound) n.0)
        (put l (kept_rows r s.typed s.is.sound (less_without n.0 (entries_in r.held r.queue))))
