-- What every promise has: one outcome, a refusal that changes nothing, and sound going to sound.
-- Assumes nothing.
use Prim.Native.Nat.{ℕ}
use mathlib.Core.Path.{◌≡◌, refl, sym, ap, ◌∙◌}
use mathlib.Core.Bool.{Bool, true, false}
use mathlib.Core.List.{List, [], ◌∷◌, ◌++◌}
use native.Mathlib.Omega.{arith}
use Rattle.channel.specs.State.{World}
use Rattle.channel.specs.Call.{Route, flush, Call, act, put, flush_all, flush_staged, drain, Result, done, Answer, refused, stopped, gave, moved}
use Rattle.channel.specs.Decide.{Decision, refuse, go, decide, load}
use Rattle.channel.specs.Step.{Reply, reply, Room, enough, lacks, room_for, with_room, apply, step_act, step_load, numbers, is_refusal, stop_at, either, flush_each, move, step}
use Rattle.channel.specs.Raw.{Raw, meaning, written}
use Rattle.channel.specs.Sound.{is_sound}
use Rattle.channel.specs.Called.{Typed, Outcome, when_sound, called}
use Rattle.channel.proofs.SoundStep.{step-sound}
use Rattle.channel.proofs.Written.{written-sound}
use Rattle.channel.proofs.Faithful.{written-meaning, sound-meaning}

-- THE THEOREM: two outcomes that a promise allows are equal
pub one_outcome : (r : Raw) (c : Call) (o q : Outcome) → o ≡ called r c → q ≡ called r c → o ≡ q
one_outcome r c o q e f = e ∙ sym f

-- answers of different kinds differ
no_gave : {A : Type 0} (r : Result) (k : ℕ) → gave r ≡ refused k → A
no_gave r k e = absurd (let z : ◌≡◌ {A = ℕ} 0 1 = cc in omega arith)

no_moved : {A : Type 0} (n m k : ℕ) → moved n m ≡ refused k → A
no_moved n m k e = absurd (let z : ◌≡◌ {A = ℕ} 0 1 = cc in omega arith)

no_stop : {A : Type 0} (n m k : ℕ) → stopped n m ≡ refused k → A
no_stop n m k e = absurd (let z : ◌≡◌ {A = ℕ} 0 1 = cc in omega arith)

gave-stopped : {A : Type 0} (r : Result) (n k : ℕ) → gave r ≡ stopped n k → A
gave-stopped r n k e = absurd (let z : ◌≡◌ {A = ℕ} 0 1 = cc in omega arith)

-- A REFUSAL CHANGES NOTHING

-- what a decision comes to: a refusal with nothing changed, or a result
pub data Verdict (w : World) : Reply → Type 0 where
  refuses : (k : ℕ) → Verdict w (reply (refused k) w)
  gives : (r : Result) (v : World) → Verdict w (reply (gave r) v)

pub verdict : (w : World) (s : Bool) (o : Decision) → Verdict w (apply w s o)
unfolding apply with_room
verdict w s (refuse k) = refuses k
verdict w s (go p) = at (room_for w p s)
  where
    at : (b : Room) → Verdict w (with_room b w p s)
    at enough = unfold with_room in gives _ _
    at (lacks k) = unfold with_room in refuses k

refusal-here : {w : World} {r : Reply} → Verdict w r → (k : ℕ) → r.answer ≡ refused k → r.world ≡ w
refusal-here (refuses j) k e = refl
refusal-here (gives r v) k e = no_gave r k e

stop_never : (n : ℕ) (a : Answer) (k : ℕ) → stop_at n a ≡ refused k → ⊥
unfolding stop_at
stop_never n (refused j) k e = no_stop n j k e
stop_never n (stopped m j) k e = no_stop m j k e
stop_never n (gave r) k e = no_gave _ k e
stop_never n (moved i j) k e = no_gave _ k e

either_never : (b : Bool) (x y : Reply) (k : ℕ) → (x.answer ≡ refused k → ⊥) → (y.answer ≡ refused k → ⊥) → (either b x y).answer ≡ refused k → ⊥
unfolding either
either_never true x y k f g e = f e
either_never false x y k f g e = g e

-- a flush of all is stopped, and not refused
all_never : (route : Route) (ns : List ℕ) (w : World) (k : ℕ) → (flush_each route ns w).answer ≡ refused k → ⊥
unfolding flush_each
all_never route [] w k e = no_gave _ k e
all_never route (n ∷ ns) w k e =
    either_never (is_refusal (step_load w route (flush n)).answer) _ _ k (stop_never n _ k) (all_never route ns (step_load w route (flush n)).world k) e

refusal-keeps : (w : World) (c : Call) (k : ℕ) → (step w c).answer ≡ refused k → (step w c).world ≡ w
unfolding step step_act step_load either move
refusal-keeps w (act a) k e = refusal-here (verdict w _ (decide w.table a)) k e
refusal-keeps w (put route l) k e = refusal-here (verdict w _ (load w.table route.rekey l)) k e
refusal-keeps w (flush_all route) k e = absurd (all_never route (numbers w.table.places) w k e)
refusal-keeps w (flush_staged true) k e = refl
refusal-keeps w (flush_staged false) k e = no_moved _ _ k e
refusal-keeps w drain k e = no_gave _ k e

-- THE THEOREM: over every byte of the code's state, unsound states too
pub refusal_changes_nothing : (r : Raw) → Typed r → (c : Call) (k : ℕ) → (called r c).answer ≡ refused k → (called r c).state ≡ r
unfolding called when_sound
refusal_changes_nothing r ty c k = go_on (is_sound r) refl
  where
    go_on : (b : Bool) → is_sound r ≡ b → (when_sound b r c).answer ≡ refused k → (when_sound b r c).state ≡ r
    go_on true s e = ap written (refusal-keeps (meaning r) c k e) ∙ written-meaning r ty s
    go_on false s e = refl

-- A FLUSH OF ALL THAT STOPS: the channels in front were flushed, the flush of the one named was refused, and that is all that happened

pub record StoppedAt (route : Route) (ns : List ℕ) (w : World) (n k : ℕ) : Type 0 where
  pub front : List ℕ
  pub behind : List ℕ
  pub order : ns ≡ front ++ n ∷ behind
  pub finished : (flush_each route front w).answer ≡ gave done
  pub refusal : (step_load (flush_each route front w).world route (flush n)).answer ≡ refused k
  pub stands : (flush_each route ns w).world ≡ (flush_each route front w).world

-- THE THEOREM
pub stopped-at : (route : Route) (ns : List ℕ) (w : World) (n k : ℕ) → (flush_each route ns w).answer ≡ stopped n k → StoppedAt route ns w n k
unfolding flush_each either is_refusal stop_at
stopped-at route [] w n k e = gave-stopped done n k e
stopped-at route (m ∷ ns) w n k e = at (λ v. stopped-at route ns v n k) (step_load w route (flush m)) refl (unfold step_load in verdict w _ (load w.table route.rekey (flush m))) e
  where
    -- the flushes of m and of the rest, by what that of m came to
    whole : Reply → Reply
    whole r = either (is_refusal r.answer) (reply (stop_at m r.answer) r.world) (flush_each route ns r.world)

    at : ((v : World) → (flush_each route ns v).answer ≡ stopped n k → StoppedAt route ns v n k) → (r : Reply) → step_load w route (flush m) ≡ r → Verdict w r → (whole (step_load w route (flush m))).answer ≡ stopped n k → StoppedAt route (m ∷ ns) w n k
    at later r q (refuses j) f =
        let g : stopped m j ≡ stopped n k = sym (ap (λ x. (whole x).answer) q) ∙ f in
        let y : m ≡ n = cc in
        let z : j ≡ k = cc in
        record { front = []; behind = ns; order = ap (λ x. x ∷ ns) y; finished = refl; refusal = ap (λ x. (step_load w route (flush x)).answer) (sym y) ∙ ap (λ x. x.answer) q ∙ ap refused z; stands = ap (λ x. (whole x).world) q }
    at later r q (gives x v) f =
        let s = later v (sym (ap (λ x. (whole x).answer) q) ∙ f) in
        let h : flush_each route (m ∷ s.front) w ≡ flush_each route s.front v =
        ap (λ y. either (is_refusal y.answer) (reply (stop_at m y.answer) y.world) (flush_each route s.front y.world)) q in
        record {
          front = m ∷ s.front;
          behind = s.behind;
          order = ap (λ l. m ∷ l) s.order;
          finished = ap (λ y. y.answer) h ∙ s.finished;
          refusal = ap (λ y. (step_load y.world route (flush n)).answer) h ∙ s.refusal;
          stands = ap (λ x. (whole x).world) q ∙ s.stands ∙ sym (ap (λ y. y.world) h);
        }

-- THE THEOREM: sound goes to sound, and an unsound state stays as it is
pub sound_stays : (r : Raw) → Typed r → (c : Call) → is_sound (called r c).state ≡ is_sound r
unfolding called when_sound
sound_stays r ty c = at (is_sound r) refl
  where
    at : (b : Bool) → is_sound r ≡ b → is_sound (when_sound b r c).state ≡ is_sound r
    at true s = written-sound (step (meaning r) c).world (step-sound (meaning r) c (sound-meaning r ty s)) ∙ sym s
    at false s = refl
