-- The receive window and the queries over the code's state: a law for each way out past the record.
-- Assumes nothing.
use Rattle.std.proofs.Common.{MatchOption, Option, Some, None, Ok, ℕ, ◌+◌, ◌-◌, ◌/◌, ◌≤◌, ◌<◌, ◌≡◌, sym, ap, ◌∙◌, Bool, true, false, List, [], ◌∷◌, length, arith}
use lib.Dec.{ltb}
use borrow.Author.Tests.{lt-ltb, le-ltb}
use Rattle.octets.specs.Buf.{write}
use Rattle.channel.specs.declared.Record.{Record}
use Rattle.channel.specs.declared.Refusal.{Refusal}
use Rattle.channel.specs.Wire.{frame, frames, adjust_message}
use Rattle.channel.specs.State.{Table, peer_of, nowhere, look, any_entry}
use Rattle.channel.specs.Call.{act, adjust, window_of, has_pending, adjusted, window_is, pending_is, gave}
use Rattle.channel.specs.Change.{altered, with_window}
use Rattle.channel.specs.Decide.{quiet, staging, charged, adjust_on, window_at}
use Rattle.channel.specs.Decide as I
use Rattle.channel.specs.Step.{apply, step}
use Rattle.channel.specs.Raw.{Raw, places_of, meaning}
use Rattle.channel.specs.Sound.{is_sound}
use Rattle.channel.specs.Called.{Typed, called, outcome}
use Rattle.channel.specs.Answers.{refusal}
use Rattle.channel.specs.Answers as A
use Rattle.channel.proofs.Entries.{some, any_own}
use Rattle.channel.proofs.Entries as T
use Rattle.channel.proofs.Sound.{none-own}
use Rattle.channel.proofs.Faithful.{sound-meaning}
use Rattle.lookup.specs.Held.{record_at}
use Rattle.lookup.specs.Update.{record_set, staged_more}
use Rattle.lookup.proofs.Framed.{put-frame}
use Rattle.lookup.proofs.Decided.{if_true, if_false, has_is, none-look, none-used, held-look, by_act}
use Rattle.lookup.proofs.Branch as B
use Rattle.soundness.specs.declared.Found.{Found}
use Rattle.soundness.specs.Sees.{FoundIn, LookedUp}
use Rattle.soundness.proofs.Told.{Asks, confirmed}
use Rattle.frames.proofs.Packets.{frames_one, length-adjust}

-- THE QUERIES

module _ {r : Raw} (ty : Typed r) (sd : is_sound r ≡ true) (n : ℕ) where
  window-is : (w : ℕ) → window_at (look n (meaning r).table.places) ≡ w → called r (act (window_of n)) ≡ record { answer = gave (window_is w); state = r }
  unfolding I.decide
  window-is w e = B.same-is r ty sd (act (window_of n)) false (window_is w) (by_act r (window_of n) (ap (λ x. quiet (window_is x) (meaning r).table) e))

  pending-is : (b : Bool) → any_entry n (meaning r).table.entries ≡ b → called r (act (has_pending n)) ≡ record { answer = gave (pending_is b); state = r }
  unfolding I.decide
  pending-is b e = B.same-is r ty sd (act (has_pending n)) false (pending_is b) (by_act r (has_pending n) (ap (λ x. quiet (pending_is x) (meaning r).table) e))

  -- a number in no record has no window and no entry
  pub window-none : look n (places_of r.held.used r.held.records) ≡ nowhere → called r (act (window_of n)) ≡ record { answer = gave (window_is 0); state = r }
  unfolding I.window_at
  window-none h = window-is 0 (ap window_at (none-look r n h))

  pub pending-none : look n (places_of r.held.used r.held.records) ≡ nowhere → called r (act (has_pending n)) ≡ record { answer = gave (pending_is false); state = r }
  unfolding T.some
  pending-none h =
      pending-is false
      (any_own n (meaning r).table.entries ∙ ap some (none-own (meaning r).table.places (meaning r).table.entries n (sound-meaning r ty sd).table (none-used r n h)))

pub window-found : {r : Raw} → Typed r → {n : ℕ} {x : Found} → FoundIn r n x
    → called r (act (window_of n)) ≡ record { answer = gave (window_is (record_at r.held x.place).sender_window_size); state = r }
unfolding I.window_at
window-found {r} ty {n} {x} h = window-is ty h.sound n _ (ap window_at (held-look r n x.place h.held))

pub pending-found : {r : Raw} → Typed r → {n : ℕ} {x : Found} → FoundIn r n x → called r (act (has_pending n)) ≡ record { answer = gave (pending_is x.waits); state = r }
pending-found {r} ty {n} {x} h = pending-is ty h.sound n x.waits (has_is r n ∙ sym h.waits_is)

-- by what was looked up, and what the answer is of it
pub pending_of : {r : Raw} → Typed r → (n : ℕ) (x : Option Found) → LookedUp r n (Ok x) → (b : Bool) (P : Found → Type 0) → ((f : Found) → P f → b ≡ f.waits) → MatchOption x (b ≡ false) P
    → called r (act (has_pending n)) ≡ record { answer = gave (pending_is b); state = r }
pending_of {r} ty n (Some f) u b P p e = rw (p f e) (pending-found ty u)
pending_of {r} ty n None u b P p e = rw e (pending-none ty u.0 n u.1)

-- THE RECEIVE WINDOW, by the window after the charge

pub asks : (r : Raw) (number n target : ℕ) → Asks r number (act (adjust number n target)) false (adjust_on (meaning r).table n target)
unfolding I.decide
asks r number n target = record { by = λ o e. by_act r (adjust number n target) e }

module _ (t : Table) (c : Record) (n target window : ℕ) (w : window ≡ charged n c.sender_window_size) where
  low_is : (b : Bool) → ltb window (target / 2) ≡ b → ltb (charged n c.sender_window_size) (target / 2) ≡ b
  low_is b l = ap (λ x. ltb x (target / 2)) (sym w) ∙ l

  keeps_on : target / 2 ≤ window → adjust_on t n target c ≡ quiet (adjusted false) (altered t c (with_window c window))
  unfolding I.adjust_on
  keeps_on l =
      if_false (ltb (charged n c.sender_window_size) (target / 2)) _ _ (low_is false (le-ltb window (target / 2) l))
      ∙ ap (λ x. quiet (adjusted false) (altered t c (with_window c x))) (sym w)

  fills_on : window < target / 2 → adjust_on t n target c ≡ staging (adjusted true) (altered t c (with_window c target)) (adjust_message (peer_of c) (target - window) ∷ [])
  unfolding I.adjust_on
  fills_on l =
      if_true (ltb (charged n c.sender_window_size) (target / 2)) _ _ (low_is true (lt-ltb window (target / 2) l))
      ∙ ap (λ x. staging (adjusted true) (altered t c (with_window c target)) (adjust_message (peer_of c) (target - x) ∷ [])) (sym w)

module _ {r : Raw} (ty : Typed r) {number : ℕ} {x : Found} (h : FoundIn r number x) (f : (record_at r.held x.place).confirmed ≡ true) (n target window : ℕ)
    (w : window ≡ charged n (record_at r.held x.place).sender_window_size) where
  abbrev c : Record
  c = record_at r.held x.place

  abbrev message : List ℕ
  message = adjust_message (peer_of c) (target - window)

  fills : window < target / 2 → step (meaning r) (act (adjust number n target)) ≡ apply (meaning r) false (staging (adjusted true) (altered (meaning r).table c (with_window c target)) (message ∷ []))
  fills l = confirmed ty (asks r number n target) h f ∙ ap (apply (meaning r) false) (fills_on (meaning r).table c n target window w l)

  size : length (frames (message ∷ [])) ≡ 13
  size = ap length (frames_one message) ∙ length-adjust (peer_of c) (target - window)

  pub kept : target / 2 ≤ window → called r (act (adjust number n target)) ≡ outcome (gave (adjusted false)) (record_set r.held x.place (with_window c window)) r.queue r.staged r.sent
  kept l =
      B.recorded-is r ty h.sound _ false (adjusted false) number x.place h.held (with_window c window)
      (confirmed ty (asks r number n target) h f ∙ ap (apply (meaning r) false) (keeps_on (meaning r).table c n target window w l))

  pub full : window < target / 2 → length r.staged < r.held.staged_used + 13 → called r (act (adjust number n target)) ≡ record { answer = refusal Refusal.Room; state = r }
  unfolding A.refusal A.refusal_number
  full l g = B.full r ty h.sound _ false (adjusted true) _ _ (fills l) (omega (arith, g, size))

  pub filled : window < target / 2 → r.held.staged_used + 13 ≤ length r.staged
      → called r (act (adjust number n target))
      ≡ outcome (gave (adjusted true)) (staged_more (record_set r.held x.place (with_window c target)) 13) r.queue (write r.held.staged_used (frame message) r.staged) r.sent
  filled l g =
      B.recorded-put-is r ty h.sound _ false (adjusted true) number x.place h.held (with_window c target) (message ∷ [])
      (fills l) (omega (arith, g, size)) (put-frame r.held.staged_used r.staged message (length-adjust (peer_of c) (target - window)) g)
