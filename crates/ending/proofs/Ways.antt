-- EOF and CLOSE over the code's state: a law for each way out past the record.
-- Assumes nothing.
use Rattle.std.proofs.Common.{refl, sym, Result, Ok, Err, IsErrAnd, ℕ, ◌+◌, ◌<◌, ◌≡◌, ap, ◌∙◌, true, false, [], ◌∷◌, length, arith}
use Rattle.octets.specs.Buf.{write}
use Rattle.channel.specs.declared.Refusal.{Refusal}
use Rattle.channel.specs.Wire.{frame, frames, eof_message, close_message}
use Rattle.channel.specs.State.{number_of, peer_of, any_entry}
use Rattle.channel.specs.Call.{Call, act, eof, close, done, gave}
use Rattle.channel.specs.Change.{with_marks, removed}
use Rattle.channel.specs.Decide.{quiet, staging, eof_on, close_on}
use Rattle.channel.specs.Decide as I
use Rattle.channel.specs.Step.{apply, step}
use Rattle.channel.specs.Raw.{Raw, meaning}
use Rattle.channel.specs.Called.{Typed, called, outcome}
use Rattle.channel.specs.Answers.{refusal, acted}
use Rattle.channel.specs.Answers as A
use Rattle.lookup.specs.Held.{record_at}
use Rattle.lookup.specs.Update.{record_set, place_freed, staged_more}
use Rattle.lookup.proofs.Framed.{put-frame}
use Rattle.lookup.proofs.Decided.{if_true, if_false, by_act}
use Rattle.lookup.proofs.Branch as B
use Rattle.soundness.specs.declared.Found.{Found}
use Rattle.soundness.specs.Sees.{FoundIn, Missed}
use Rattle.soundness.proofs.Told.{Asks, missed, unconfirmed, confirmed, has_entry}
use Rattle.ending.specs.declared.Way.{Way}
use Rattle.ending.specs.Ways.{ServedAt, SendsAt, RefusedBoth, WayOf}
use Rattle.frames.proofs.Packets.{frames_one, length-eof, length-close}

pub eof_asks : (r : Raw) (n : ℕ) → Asks r n (act (eof n)) false (eof_on (meaning r).table)
unfolding I.decide
eof_asks r n = record { by = λ o e. by_act r (eof n) e }

pub close_asks : (r : Raw) (n : ℕ) → Asks r n (act (close n)) false (close_on (meaning r).table)
unfolding I.decide
close_asks r n = record { by = λ o e. by_act r (close n) e }

-- A REFUSAL of both

pub both_missed : {r : Raw} → Typed r → {n : ℕ} {k : Refusal} → Missed r n k → RefusedBoth r n k
both_missed {r} ty {n} m = record { eof_is = missed ty (eof_asks r n) m; close_is = missed ty (close_asks r n) m }

pub both_unconfirmed : {r : Raw} → Typed r → {n : ℕ} {x : Found} → FoundIn r n x → (record_at r.held x.place).confirmed ≡ false → RefusedBoth r n Refusal.Unconfirmed
both_unconfirmed {r} ty {n} h e = record { eof_is = unconfirmed ty (eof_asks r n) h e; close_is = unconfirmed ty (close_asks r n) h e }

-- `?` hands it on
pub way_refused : (r : Raw) (n : ℕ) (x : Result Way Refusal) {k : Refusal} → IsErrAnd x (λ e. e ≡ k) → RefusedBoth r n k → WayOf r n x
way_refused r n (Ok w) e b = absurd e
way_refused r n (Err j) e b = rw e b

pub handed : (r : Raw) (c : Call) (x : Result (Unit {0}) Refusal) (k : Refusal) → IsErrAnd x (λ e. e ≡ k) → called r c ≡ record { answer = refusal k; state = r }
    → record { answer = acted x; state = r } ≡ called r c
unfolding A.answer
handed r c (Ok u) k e h = absurd e
handed r c (Err j) k e h = rw e (sym h)

-- WITH AN ENTRY a mark
module _ {r : Raw} {n i : ℕ} (s : ServedAt r n i true) where
  pub eof_marked : called r (act (eof n)) ≡ outcome (gave done) (record_set r.held i (with_marks (record_at r.held i) true (record_at r.held i).pending_close)) r.queue r.staged r.sent
  unfolding I.eof_on
  eof_marked =
      B.recorded-is r s.typed s.found.sound _ false done n i s.found.held _
      (confirmed s.typed (eof_asks r n) s.found s.confirmed
      ∙ ap (apply (meaning r) false) (if_true (any_entry (number_of (record_at r.held i)) (meaning r).table.entries) _ _ (has_entry s.found refl)))

  pub close_marked : called r (act (close n)) ≡ outcome (gave done) (record_set r.held i (with_marks (record_at r.held i) (record_at r.held i).pending_eof true)) r.queue r.staged r.sent
  unfolding I.close_on
  close_marked =
      B.recorded-is r s.typed s.found.sound _ false done n i s.found.held _
      (confirmed s.typed (close_asks r n) s.found s.confirmed
      ∙ ap (apply (meaning r) false) (if_true (any_entry (number_of (record_at r.held i)) (meaning r).table.entries) _ _ (has_entry s.found refl)))

-- WITHOUT ONE the message
module _ {r : Raw} {n i : ℕ} (s : ServedAt r n i false) where
  eof_stages : step (meaning r) (act (eof n)) ≡ apply (meaning r) false (staging done (meaning r).table (eof_message (peer_of (record_at r.held i)) ∷ []))
  unfolding I.eof_on
  eof_stages =
      confirmed s.typed (eof_asks r n) s.found s.confirmed
      ∙ ap (apply (meaning r) false) (if_false (any_entry (number_of (record_at r.held i)) (meaning r).table.entries) _ _ (has_entry s.found refl))

  close_stages : step (meaning r) (act (close n)) ≡ apply (meaning r) false (staging done (removed (meaning r).table (record_at r.held i)) (close_message (peer_of (record_at r.held i)) ∷ []))
  unfolding I.close_on
  close_stages =
      confirmed s.typed (close_asks r n) s.found s.confirmed
      ∙ ap (apply (meaning r) false) (if_false (any_entry (number_of (record_at r.held i)) (meaning r).table.entries) _ _ (has_entry s.found refl))

  eof_size : length (frames (eof_message (peer_of (record_at r.held i)) ∷ [])) ≡ 9
  eof_size = ap length (frames_one (eof_message (peer_of (record_at r.held i)))) ∙ length-eof (peer_of (record_at r.held i))

  close_size : length (frames (close_message (peer_of (record_at r.held i)) ∷ [])) ≡ 9
  close_size = ap length (frames_one (close_message (peer_of (record_at r.held i)))) ∙ length-close (peer_of (record_at r.held i))

  pub both_full : length r.staged < r.held.staged_used + 9 → RefusedBoth r n Refusal.Room
  unfolding A.refusal A.refusal_number
  both_full l =
      record {
        eof_is = B.full r s.typed s.found.sound _ false done _ _ eof_stages (omega (arith, l, eof_size));
        close_is = B.full r s.typed s.found.sound _ false done _ _ close_stages (omega (arith, l, close_size));
      }

module _ {r : Raw} {n i peer : ℕ} (s : SendsAt r n i peer) where
  pub eof_sent : called r (act (eof n)) ≡ outcome (gave done) (staged_more r.held 9) r.queue (write r.held.staged_used (frame (eof_message peer)) r.staged) r.sent
  eof_sent =
      rw s.peer_is
      (B.put_is r s.served.typed s.served.found.sound _ false done _ (eof_stages s.served) (omega (arith, s.room, eof_size s.served))
      (put-frame r.held.staged_used r.staged (eof_message (peer_of (record_at r.held i))) (length-eof (peer_of (record_at r.held i))) s.room))

  pub close_sent : called r (act (close n))
      ≡ outcome (gave done) (staged_more (place_freed r.held i) 9) r.queue (write r.held.staged_used (frame (close_message peer)) r.staged) r.sent
  close_sent =
      rw s.peer_is
      (B.freed_put-is r s.served.typed s.served.found.sound _ false done n i s.served.found.held _ (close_stages s.served) (omega (arith, s.room, close_size s.served))
      (put-frame r.held.staged_used r.staged (close_message (peer_of (record_at r.held i))) (length-close (peer_of (record_at r.held i))) s.room))
