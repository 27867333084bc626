-- What a call does with what `see` told it: laws over any call that asks for a confirmed record.
-- Assumes nothing.
use Rattle.std.proofs.Common.{ℕ, ◌≡◌, sym, ◌∙◌, Bool, true, false, Option, Some, None, Result, Ok, Err, IsErrAnd}
use Rattle.channel.specs.declared.Record.{Record}
use Rattle.channel.specs.declared.Refusal.{Refusal}
use Rattle.channel.specs.State.{number_of, look, any_entry}
use Rattle.channel.specs.Call.{Call, Answer}
use Rattle.channel.specs.Decide.{Decision, passing, serves}
use Rattle.channel.specs.Step.{apply, step}
use Rattle.channel.specs.Raw.{Raw, meaning}
use Rattle.channel.specs.Sound.{is_sound}
use Rattle.channel.specs.Called.{Typed, called}
use Rattle.channel.specs.Answers.{refusal, answer}
use Rattle.channel.specs.Answers as A
use Rattle.lookup.specs.Held.{record_at}
use Rattle.lookup.proofs.Decided.{serves-is, none_passes, held_fails, held_passes, held_has}
use Rattle.lookup.proofs.Branch as B
use Rattle.soundness.specs.declared.Found.{Found}
use Rattle.soundness.specs.Sees.{FoundIn, LookedUp, TestedAs, SeenAs, Missed, unsound, unknown}

-- `see` hands an unsound state on
pub seen_unsound : (r : Raw) (n : ℕ) (x : Result Found Refusal) {k : Refusal} → IsErrAnd x (λ e. e ≡ k) → (is_sound r ≡ false) × (k ≡ Refusal.State) → SeenAs r n x
seen_unsound r n (Ok f) e u = absurd e
seen_unsound r n (Err j) e u = rw (e ∙ u.1) (unsound u.0)

-- and so does the test
pub tested_unsound : (r : Raw) (x : Result (Unit {0}) Refusal) {k : Refusal} → IsErrAnd x (λ e. e ≡ k) → (is_sound r ≡ false) × (k ≡ Refusal.State) → TestedAs r x
tested_unsound r (Ok u) e v = absurd e
tested_unsound r (Err j) e v = (v.0, e ∙ v.1)

-- what was looked up in it, a record or none, is of a sound state
pub sound_in : (r : Raw) (n : ℕ) (x : Option Found) → LookedUp r n (Ok x) → is_sound r ≡ true
sound_in r n (Some f) u = u.sound
sound_in r n None u = u.0

-- and so does a call
pub passed_unsound : {A : Type 0} (r : Raw) (c : Call) (g : A → Answer) (x : Result A Refusal) {k : Refusal} → IsErrAnd x (λ e. e ≡ k) → (is_sound r ≡ false) × (k ≡ Refusal.State)
    → record { answer = answer g x; state = r } ≡ called r c
unfolding A.answer A.refusal A.refusal_number
passed_unsound r c g (Ok a) e u = absurd e
passed_unsound r c g (Err j) e u = rw (e ∙ u.1) (sym (B.unsound r c u.0))

-- the call is what f decides of the record with the number n, if there is one and it is confirmed
pub record Asks (r : Raw) (n : ℕ) (c : Call) (b : Bool) (f : Record → Decision) : Type 0 where
  pub by : (o : Decision) → passing serves (look n (meaning r).table.places) f ≡ o → step (meaning r) c ≡ apply (meaning r) b o

module _ {r : Raw} (ty : Typed r) {n : ℕ} {c : Call} {b : Bool} {f : Record → Decision} (asks : Asks r n c b f) where
  pub missed : {k : Refusal} → Missed r n k → called r c ≡ record { answer = refusal k; state = r }
  unfolding A.refusal A.refusal_number
  missed (unsound e) = B.unsound r c e
  missed (unknown s e) = B.refusing r ty s c b 2 (asks.by _ (none_passes r n e serves f))

  -- the same where `?` hands it on
  pub passed_on : {A : Type 0} (g : A → Answer) (x : Result A Refusal) {k : Refusal} → IsErrAnd x (λ e. e ≡ k) → Missed r n k → record { answer = answer g x; state = r } ≡ called r c
  unfolding A.answer
  passed_on g (Ok a) e m = absurd e
  passed_on g (Err j) e m = sym (missed (rw (sym e) at m))

  module _ {x : Found} (h : FoundIn r n x) where
    pub unconfirmed : (record_at r.held x.place).confirmed ≡ false → called r c ≡ record { answer = refusal Refusal.Unconfirmed; state = r }
    unfolding A.refusal A.refusal_number
    unconfirmed e = B.refusing r ty h.sound c b 3 (asks.by _ (held_fails r n x.place h.held serves f (serves-is (record_at r.held x.place) ∙ e)))

    pub confirmed : (record_at r.held x.place).confirmed ≡ true → step (meaning r) c ≡ apply (meaning r) b (f (record_at r.held x.place))
    confirmed e = asks.by _ (held_passes r n x.place h.held serves f (serves-is (record_at r.held x.place) ∙ e))

-- whether the channel has an entry, as a decision asks
pub has_entry : {r : Raw} {n : ℕ} {x : Found} → FoundIn r n x → {b : Bool} → x.waits ≡ b → any_entry (number_of (record_at r.held x.place)) (meaning r).table.entries ≡ b
has_entry {r} {n} {x} h w = held_has r n x.place h.held ∙ sym h.waits_is ∙ w
