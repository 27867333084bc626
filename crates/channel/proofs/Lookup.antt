-- Looking a number up among the places, and what replacing and settling in do to it.
-- Assumes nothing.
use Rattle.channel.specs.declared.Record.{Record}
use Prim.Native.Nat.{ℕ, suc}
use mathlib.Core.Path.{◌≡◌, refl, sym, ap, ◌∙◌}
use mathlib.Core.Bool.{true, false, ◌||◌, true≢false}
use mathlib.Core.List.{List, [], ◌∷◌}
use lib.ListN.{length}
use lib.Dec.{eqb}
use native.Mathlib.Omega.{arith}
use borrow.Author.Tests.{eqb-true, eqb-false, eq-eqb, ne_eqb}
use Rattle.laws.proofs.Tests.{by_test, or_neither}
use Rattle.channel.specs.State.{number_of, Place, vacant, holds, nowhere, found, look, replace, settle_in, any_vacant, is_used}

-- used numbers are distinct
unfoldable pub Apart : List Place → Type 0
Apart [] = Unit {0}
Apart (vacant ∷ ps) = Apart ps
Apart (holds c ∷ ps) = (is_used (number_of c) ps ≡ false) × Apart ps

-- a place that may stand for the number n: vacant, or a record with that number
unfoldable pub For : ℕ → Place → Type 0
For n vacant = Unit {0}
For n (holds d) = number_of d ≡ n

pub nothing-found : {A : Type 0} (c : Record) → nowhere ≡ found c → A
nothing-found c e = absurd (let z : ◌≡◌ {A = ℕ} 0 1 = cc in omega arith)

-- AT A RECORD: hit or missed

pub look_hit : (n : ℕ) (c : Record) (ps : List Place) → eqb (number_of c) n ≡ true → look n (holds c ∷ ps) ≡ found c
unfolding look
look_hit n c ps t = rw (t, look)

pub look_miss : (n : ℕ) (c : Record) (ps : List Place) → eqb (number_of c) n ≡ false → look n (holds c ∷ ps) ≡ look n ps
unfolding look
look_miss n c ps t = rw (t, look)

pub replace_hit : (n : ℕ) (new : Place) (c : Record) (ps : List Place) → eqb (number_of c) n ≡ true → replace n new (holds c ∷ ps) ≡ new ∷ ps
unfolding replace
replace_hit n new c ps t = rw (t, replace)

pub replace_miss : (n : ℕ) (new : Place) (c : Record) (ps : List Place) → eqb (number_of c) n ≡ false → replace n new (holds c ∷ ps) ≡ holds c ∷ replace n new ps
unfolding replace
replace_miss n new c ps t = rw (t, replace)

-- LOOKING UP

pub look-number : (n : ℕ) (ps : List Place) (c : Record) → look n ps ≡ found c → number_of c ≡ n
unfolding look
look-number n [] c e = nothing-found c e
look-number n (vacant ∷ ps) c e = look-number n ps c e
look-number n (holds d ∷ ps) c e =
    by_test (eqb (number_of d) n)
    (λ t. let f : found d ≡ found c = sym (look_hit n d ps t) ∙ e in let g : number_of d ≡ number_of c = cc in sym g ∙ eqb-true (number_of d) n t)
    (λ t. look-number n ps c (sym (look_miss n d ps t) ∙ e))

pub look_unused : (n : ℕ) (ps : List Place) → is_used n ps ≡ false → look n ps ≡ nowhere
unfolding look is_used
look_unused n [] e = refl
look_unused n (vacant ∷ ps) e = look_unused n ps e
look_unused n (holds d ∷ ps) e =
    by_test (eqb (number_of d) n)
    (λ t. absurd (true≢false (rw t at e)))
    (λ t. look_miss n d ps t ∙ look_unused n ps (rw t at e))

pub look-nowhere : (n : ℕ) (ps : List Place) → look n ps ≡ nowhere → is_used n ps ≡ false
unfolding look is_used
look-nowhere n [] e = refl
look-nowhere n (vacant ∷ ps) e = look-nowhere n ps e
look-nowhere n (holds c ∷ ps) e =
    by_test (eqb (number_of c) n)
    (λ t. nothing-found c (sym e ∙ look_hit n c ps t))
    (λ t. rw t (look-nowhere n ps (sym (look_miss n c ps t) ∙ e)))

-- REPLACING

-- a record that was found, with another in its place
pub look_replaced : (n : ℕ) (ps : List Place) (c d : Record) → look n ps ≡ found c → number_of d ≡ n → look n (replace n (holds d) ps) ≡ found d
unfolding look replace
look_replaced n [] c d e h = nothing-found c e
look_replaced n (vacant ∷ ps) c d e h = look_replaced n ps c d e h
look_replaced n (holds x ∷ ps) c d e h =
    by_test (eqb (number_of x) n)
    (λ t. rw (replace_hit n (holds d) x ps t) (look_hit n d ps (eq-eqb (number_of d) n h)))
    (λ t. rw (replace_miss n (holds d) x ps t, look_miss n x (replace n (holds d) ps) t) (look_replaced n ps c d (sym (look_miss n x ps t) ∙ e) h))

-- numbers other than n are looked up as before
look_other_head : (n m : ℕ) (new : Place) (ps : List Place) → For n new → (m ≡ n → ⊥) → look m (new ∷ ps) ≡ look m ps
unfolding For look
look_other_head n m vacant ps f h = refl
look_other_head n m (holds d) ps f h = look_miss m d ps (ne_eqb (number_of d) m (λ e. h (sym e ∙ f)))

pub look_other : (n m : ℕ) (new : Place) (ps : List Place) → For n new → (m ≡ n → ⊥) → look m (replace n new ps) ≡ look m ps
unfolding look replace
look_other n m new [] f h = refl
look_other n m new (vacant ∷ ps) f h = look_other n m new ps f h
look_other n m new (holds x ∷ ps) f h =
    by_test (eqb (number_of x) n)
    (λ t. rw (replace_hit n new x ps t, look_other_head n m new ps f h) (sym (look_miss m x ps (ne_eqb (number_of x) m (λ e. h (sym e ∙ eqb-true (number_of x) n t))))))
    (λ t. rw (replace_miss n new x ps t)
    (by_test (eqb (number_of x) m)
    (λ u. look_hit m x (replace n new ps) u ∙ sym (look_hit m x ps u))
    (λ u. look_miss m x (replace n new ps) u ∙ look_other n m new ps f h ∙ sym (look_miss m x ps u))))

-- a freed number is found nowhere
pub look_freed : (n : ℕ) (ps : List Place) → Apart ps → look n (replace n vacant ps) ≡ nowhere
unfolding look replace Apart
look_freed n [] a = refl
look_freed n (vacant ∷ ps) a = look_freed n ps a
look_freed n (holds x ∷ ps) a =
    by_test (eqb (number_of x) n)
    (λ t. rw (replace_hit n vacant x ps t) (look_unused n ps (rw (eqb-true (number_of x) n t) at a).0))
    (λ t. rw (replace_miss n vacant x ps t) (look_miss n x (replace n vacant ps) t ∙ look_freed n ps a.1))

-- numbers stay apart
used-head : (n m : ℕ) (new : Place) (ps : List Place) → For n new → (m ≡ n → ⊥) → is_used m (new ∷ ps) ≡ is_used m ps
unfolding For is_used
used-head n m vacant ps f h = refl
used-head n m (holds d) ps f h = rw (ne_eqb (number_of d) m (λ e. h (sym e ∙ f)))

used-replace : (n m : ℕ) (new : Place) (ps : List Place) → For n new → (m ≡ n → ⊥) → is_used m (replace n new ps) ≡ is_used m ps
unfolding is_used replace
used-replace n m new [] f h = refl
used-replace n m new (vacant ∷ ps) f h = used-replace n m new ps f h
used-replace n m new (holds x ∷ ps) f h =
    by_test (eqb (number_of x) n)
    (λ t. rw (replace_hit n new x ps t, used-head n m new ps f h, ne_eqb (number_of x) m (λ e. h (sym e ∙ eqb-true (number_of x) n t))))
    (λ t. rw (replace_miss n new x ps t) (ap (λ u. eqb (number_of x) m || u) (used-replace n m new ps f h)))

apart_head : (n : ℕ) (new : Place) (ps : List Place) → For n new → is_used n ps ≡ false → Apart ps → Apart (new ∷ ps)
unfolding For Apart
apart_head n vacant ps f u a = a
apart_head n (holds d) ps f u a = (rw f u, a)

pub apart_replace : (n : ℕ) (new : Place) (ps : List Place) → For n new → Apart ps → Apart (replace n new ps)
unfolding Apart replace
apart_replace n new [] f a = tt
apart_replace n new (vacant ∷ ps) f a = apart_replace n new ps f a
apart_replace n new (holds x ∷ ps) f a =
    by_test (eqb (number_of x) n)
    (λ t. rw (replace_hit n new x ps t) (apart_head n new ps f (rw (eqb-true (number_of x) n t) at a).0 a.1))
    (λ t. rw (replace_miss n new x ps t) (used-replace n (number_of x) new ps f (eqb-false (number_of x) n t) ∙ a.0, apart_replace n new ps f a.1))

pub length-replace : (n : ℕ) (new : Place) (ps : List Place) → length (replace n new ps) ≡ length ps
unfolding replace
length-replace n new [] = refl
length-replace n new (vacant ∷ ps) = ap suc (length-replace n new ps)
length-replace n new (holds x ∷ ps) =
    by_test (eqb (number_of x) n)
    (λ t. rw (replace_hit n new x ps t))
    (λ t. rw (replace_miss n new x ps t) (ap suc (length-replace n new ps)))

-- SETTLING IN

pub look_settled : (m : ℕ) (c : Record) (ps : List Place) → (m ≡ number_of c → ⊥) → look m (settle_in c ps) ≡ look m ps
unfolding look settle_in
look_settled m c [] h = refl
look_settled m c (vacant ∷ ps) h = look_miss m c ps (ne_eqb (number_of c) m (λ e. h (sym e)))
look_settled m c (holds x ∷ ps) h =
    by_test (eqb (number_of x) m)
    (λ u. look_hit m x (settle_in c ps) u ∙ sym (look_hit m x ps u))
    (λ u. look_miss m x (settle_in c ps) u ∙ look_settled m c ps h ∙ sym (look_miss m x ps u))

used_settled : (m : ℕ) (c : Record) (ps : List Place) → (m ≡ number_of c → ⊥) → is_used m (settle_in c ps) ≡ is_used m ps
unfolding is_used settle_in
used_settled m c [] h = refl
used_settled m c (vacant ∷ ps) h = rw (ne_eqb (number_of c) m (λ e. h (sym e)))
used_settled m c (holds x ∷ ps) h = ap (λ u. eqb (number_of x) m || u) (used_settled m c ps h)

-- the number of a place that is passed differs from an unused one
passed : (n : ℕ) (x : Record) (ps : List Place) → is_used n (holds x ∷ ps) ≡ false → (eqb (number_of x) n ≡ false) × (is_used n ps ≡ false)
unfolding is_used
passed n x ps e = or_neither (eqb (number_of x) n) (is_used n ps) e

pub apart_settled : (c : Record) (ps : List Place) → is_used (number_of c) ps ≡ false → Apart ps → Apart (settle_in c ps)
unfolding Apart settle_in is_used
apart_settled c [] u a = tt
apart_settled c (vacant ∷ ps) u a = (u, a)
apart_settled c (holds x ∷ ps) u a =
    let h = passed (number_of c) x ps u in
    (used_settled (number_of x) c ps (eqb-false (number_of x) (number_of c) h.0) ∙ a.0, apart_settled c ps h.1 a.1)

pub length_settled : (c : Record) (ps : List Place) → length (settle_in c ps) ≡ length ps
unfolding settle_in
length_settled c [] = refl
length_settled c (vacant ∷ ps) = refl
length_settled c (holds x ∷ ps) = ap suc (length_settled c ps)

pub look_settled_self : (c : Record) (ps : List Place) → is_used (number_of c) ps ≡ false → any_vacant ps ≡ true → look (number_of c) (settle_in c ps) ≡ found c
unfolding look settle_in is_used any_vacant
look_settled_self c [] u v = absurd (true≢false (sym v))
look_settled_self c (vacant ∷ ps) u v = look_hit (number_of c) c ps (eq-eqb (number_of c) (number_of c) refl)
look_settled_self c (holds x ∷ ps) u v =
    let h = passed (number_of c) x ps u in
    look_miss (number_of c) x (settle_in c ps) h.0 ∙ look_settled_self c ps h.1 v
