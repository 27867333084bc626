-- Staged flush and drain over the code's state. What carries the proof: a sound state is its meaning written (written-meaning),
-- so that the fields which the definition leaves alone come back by it, and the others by the laws of the leaf that stores.
-- Assumes nothing.
use Prim.Native.Nat.{ℕ, ◌+◌, ◌-◌, ◌≤◌}
use mathlib.Core.Path.{◌≡◌, sym, ap, ap₂, ◌∙◌}
use mathlib.Core.Bool.{true, false}
use mathlib.Core.List.{List, ◌++◌}
use lib.ListN.{length, take, drop, replicate, length-append, length-drop, length-replicate}
use native.Mathlib.Omega.{arith}
use Rattle.octets.specs.Buf.{write, closed}
use Rattle.octets.proofs.Laws.{write_eq, write-behind}
use Rattle.channel.specs.Wire.{frames}
use Rattle.channel.specs.Call.{flush_staged, drain, gave, done, held, moved}
use Rattle.channel.specs.Step.{fitting, move}
use Rattle.channel.specs.Step as S
use Rattle.channel.specs.Raw.{Raw, meaning, written}
use Rattle.channel.specs.Raw as R
use Rattle.channel.specs.Sound.{is_sound}
use Rattle.channel.specs.Called.{Typed, Outcome, called, outcome}
use Rattle.channel.proofs.Faithful.{written-meaning}
use Rattle.frames.proofs.Staged.{length_split, take_front, closed_front}
use Rattle.lookup.specs.Update.{counted}
use Rattle.lookup.proofs.Limits.{limits}
use Rattle.lookup.proofs.Branch.{sound-step}

module _ (r : Raw) (ty : Typed r) (sd : is_sound r ≡ true) where
  -- HELD
  pub held-is : called r (flush_staged true) ≡ record { answer = gave held; state = r }
  unfolding S.step S.either
  held-is = sound-step r (flush_staged true) sd ∙ ap {B = Outcome} (λ x. record { answer = gave held; state = x }) (written-meaning r ty sd)

  -- MOVED: k frames of n bytes
  moving : (k n : ℕ) → length (frames (take k (meaning r).staged)) ≡ n → n ≤ length (meaning r).sent_rest
      → written (move k (meaning r)).world
      ≡ (outcome (moved k n) (counted r.held (r.held.staged_used - n) (r.held.sent_used + n)) r.queue (closed r.held.staged_used 0 n r.staged) (write r.held.sent_used (take n r.staged) r.sent)).state
  unfolding S.move R.written
  moving k n e h =
      let w = meaning r in
      let z = written-meaning r ty sd in
      let ms = w.staged in
      let bs = frames (take k ms) in
      let used : length (frames ms) ≡ r.held.staged_used = ap (λ x. x.held.staged_used) z in
      let sent : length w.sent ≡ r.held.sent_used = ap (λ x. x.held.sent_used) z in
      let left : length (frames (drop k ms)) ≡ r.held.staged_used - n = omega (arith, length_split k ms) in
      let more : length (w.sent ++ bs) ≡ r.held.sent_used + n = omega (arith, length-append w.sent bs) in
      let out : take n r.staged ≡ bs = ap₂ take (sym e) (sym (ap (λ x. x.staged) z)) ∙ take_front k ms w.staged_rest in
      let st : frames (drop k ms) ++ (replicate (length bs) 0 ++ w.staged_rest) ≡ closed r.held.staged_used 0 n r.staged =
      sym (closed_front k ms w.staged_rest) ∙ ap (λ x. closed x 0 (length bs) (frames ms ++ w.staged_rest)) used ∙ ap₂ (λ x l. closed r.held.staged_used 0 x l) e (ap (λ x. x.staged) z) in
      let se : (w.sent ++ bs) ++ drop (length bs) w.sent_rest ≡ write r.held.sent_used (take n r.staged) r.sent =
      sym (write-behind w.sent bs w.sent_rest (omega arith)) ∙ ap₂ (λ x l. write x bs l) sent (ap (λ x. x.sent) z) ∙ ap (λ x. write r.held.sent_used x r.sent) (sym out) in
      λ i. record {
        held = counted (z i).held (left i) (more i);
        queue = (z i).queue;
        staged = st i;
        sent = se i;
      }

  pub moved-is : (k n : ℕ) → k ≡ fitting (length r.sent - r.held.sent_used) (meaning r).staged → n ≡ length (frames (take k (meaning r).staged)) → n ≤ length r.sent - r.held.sent_used
      → called r (flush_staged false)
      ≡ outcome (moved k n) (counted r.held (r.held.staged_used - n) (r.held.sent_used + n)) r.queue (closed r.held.staged_used 0 n r.staged) (write r.held.sent_used (take n r.staged) r.sent)
  unfolding S.step S.either S.move R.meaning
  moved-is k n count size fits_in =
      let free : length (drop r.held.sent_used r.sent) ≡ length r.sent - r.held.sent_used = length-drop r.held.sent_used r.sent in
      let fits : fitting (length (meaning r).sent_rest) (meaning r).staged ≡ k = ap (λ x. fitting x (meaning r).staged) free ∙ sym count in
      sound-step r (flush_staged false) sd
      ∙ ap {B = Outcome} (λ j. record { answer = moved j (length (frames (take j (meaning r).staged))); state = written (move j (meaning r)).world }) fits
      ∙ ap₂ {C = Outcome} (λ m s. record { answer = moved k m; state = s }) (sym size) (moving k n (sym size) (omega (arith, fits_in)))

  -- DRAINED
  pub drained-is : called r drain ≡ outcome (gave done) (counted r.held r.held.staged_used 0) r.queue r.staged (write 0 (replicate r.held.sent_used 0) r.sent)
  unfolding S.step S.drained R.written R.meaning
  drained-is =
      let w = meaning r in
      let z = written-meaning r ty sd in
      let zs : List ℕ = replicate r.held.sent_used 0 in
      let used : length w.sent ≡ r.held.sent_used = ap (λ x. x.held.sent_used) z in
      let lz : 0 + length zs ≡ r.held.sent_used = omega (arith, length-replicate {A = ℕ} r.held.sent_used 0) in
      let we : write 0 zs r.sent ≡ zs ++ drop r.held.sent_used r.sent = write_eq 0 zs r.sent (omega (arith, (limits r sd).sent_used)) ∙ ap (λ k. zs ++ drop k r.sent) lz in
      let se : replicate (length w.sent) 0 ++ w.sent_rest ≡ write 0 zs r.sent = ap (λ k. replicate k 0 ++ w.sent_rest) used ∙ sym we in
      sound-step r drain sd
      ∙ λ i. outcome (gave done) (counted (z i).held (z i).held.staged_used 0) (z i).queue (z i).staged (se i)
