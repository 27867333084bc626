-- The number that `new_channel` picks: not in the table, and the first such after the last. Of 34 numbers in a row at most 32 are used.
-- Assumes nothing.
use Prim.Native.Nat.{ℕ, zero, suc, ◌+◌, ◌-◌, ◌≤◌, ◌<◌, ◌%◌}
use mathlib.Core.Path.{◌≡◌, refl, sym, ap, ◌∙◌}
use mathlib.Core.Bool.{Bool, true, false, true≢false}
use mathlib.Core.List.{List, [], ◌∷◌}
use lib.ListN.{length}
use lib.Dec.{ltb, eqb}
use native.Mathlib.Omega.{arith}
use native.Mathlib.Nat.{mod-lt}
use borrow.Author.Tests.{eqb-true, ne_eqb, ltb-false, lt-ltb, le-ltb}
use Rattle.laws.proofs.Tests.{by_test, shut}
use Rattle.channel.specs.State.{place_count, numbers_in_all, number_of, Place, vacant, holds, Table, is_used}
use Rattle.channel.specs.Decide.{after, free_from, next_number}

abbrev count : Bool → ℕ
count true = 1
count false = 0

-- how far m lies past n, round the circle
abbrev pub past : ℕ → ℕ → ℕ
past n m = (m + (numbers_in_all - n)) % numbers_in_all

-- how many places hold one of the k numbers from n on
near : ℕ → ℕ → List Place → ℕ
near k n [] = 0
near k n (vacant ∷ ps) = near k n ps
near k n (holds c ∷ ps) = count (ltb (past n (number_of c)) k) + near k n ps

-- how many hold n itself
exact : ℕ → List Place → ℕ
exact n [] = 0
exact n (vacant ∷ ps) = exact n ps
exact n (holds c ∷ ps) = count (eqb (number_of c) n) + exact n ps

used_exact : (n : ℕ) (ps : List Place) → is_used n ps ≡ true → 1 ≤ exact n ps
unfolding is_used exact
used_exact n [] e = absurd (true≢false (sym e))
used_exact n (vacant ∷ ps) e = used_exact n ps e
used_exact n (holds c ∷ ps) e =
    by_test (eqb (number_of c) n)
    (λ t. rw t (omega arith))
    (λ t. rw t (let h : 1 ≤ exact n ps = used_exact n ps (rw t at e) in omega arith))

point : (k n m : ℕ) → n < numbers_in_all → k < 4294967290 → count (ltb (past (after n) m) (suc k)) + count (eqb m n) ≤ count (ltb (past n m) (suc (suc k)))
point k n m h l =
    by_test (ltb (past n m) (suc (suc k)))
    (λ t. rw t (by_test (eqb m n)
    (λ u. let z : m ≡ n = eqb-true m n u in rw (u, le-ltb (past (after n) m) (suc k) (omega arith)) (omega arith))
    (λ u. rw u (by_test (ltb (past (after n) m) (suc k)) (λ v. rw v (omega arith)) (λ v. rw v (omega arith))))))
    (λ t. let g : suc (suc k) ≤ past n m = ltb-false (past n m) (suc (suc k)) t in
    rw (t, ne_eqb m n (λ z. omega arith), le-ltb (past (after n) m) (suc k) (omega arith)) (omega arith))

points : (k n : ℕ) (ps : List Place) → n < numbers_in_all → k < 4294967290 → near (suc k) (after n) ps + exact n ps ≤ near (suc (suc k)) n ps
unfolding near exact
points k n [] h l = omega arith
points k n (vacant ∷ ps) h l = points k n ps h l
points k n (holds c ∷ ps) h l =
    let a = point k n (number_of c) h l in
    let b = points k n ps h l in
    omega arith

near_all : (k n : ℕ) (ps : List Place) → near k n ps ≤ length ps
unfolding near
near_all k n [] = omega arith
near_all k n (vacant ∷ ps) = let h = near_all k n ps in omega arith
near_all k n (holds c ∷ ps) =
    let h = near_all k n ps in
    by_test (ltb (past n (number_of c)) k) (λ t. rw t (omega arith)) (λ t. rw t (omega arith))

near_none : (n : ℕ) (ps : List Place) → n < numbers_in_all → near 1 n ps ≤ 0 → is_used n ps ≡ false
unfolding near is_used
near_none n [] h e = refl
near_none n (vacant ∷ ps) h e = near_none n ps h e
near_none n (holds c ∷ ps) h e =
    by_test (eqb (number_of c) n)
    (λ t. let z : number_of c ≡ n = eqb-true (number_of c) n t in
    let y : ltb (past n (number_of c)) 1 ≡ true = lt-ltb (past n (number_of c)) 1 (omega arith) in
    let g : count (ltb (past n (number_of c)) 1) + near 1 n ps ≤ 0 = e in
    let f : 1 + near 1 n ps ≤ 0 = rw y at g in
    absurd (omega arith))
    (λ t. rw t (let g : count (ltb (past n (number_of c)) 1) + near 1 n ps ≤ 0 = e in near_none n ps h (omega arith)))

pub free_step : (k n : ℕ) (ps : List Place) → is_used n ps ≡ true → free_from (suc k) n ps ≡ free_from k (after n) ps
unfolding free_from
free_step k n ps t = rw (free_from, t)

pub free-here : (k n : ℕ) (ps : List Place) → is_used n ps ≡ false → free_from (suc k) n ps ≡ n
unfolding free_from
free-here k n ps t = rw (free_from, t)

free : (k n : ℕ) (ps : List Place) → n < numbers_in_all → k < 4294967290 → near (suc k) n ps ≤ k → is_used (free_from k n ps) ps ≡ false
unfolding free_from
free zero n ps h l e = near_none n ps h e
free (suc k) n ps h l e =
    by_test (is_used n ps)
    (λ t. let a = points k n ps h (omega arith) in let b = used_exact n ps t in
    ap (λ m. is_used m ps) (free_step k n ps t) ∙ free k (after n) ps (mod-lt (n + 1) (omega arith)) (omega arith) (omega arith))
    (λ t. ap (λ m. is_used m ps) (free-here k n ps t) ∙ t)

-- 33 tries are enough from any number
enough_tries : (n : ℕ) (ps : List Place) → n < numbers_in_all → length ps ≡ place_count → is_used (free_from 33 n ps) ps ≡ false
enough_tries n ps h c = let a = near_all 34 n ps in free 33 n ps h (omega arith) (omega arith)

-- THE THEOREM: not in the table
pub next_unused : (t : Table) → length t.places ≡ place_count → is_used (next_number t) t.places ≡ false
unfolding next_number
next_unused t c = enough_tries _ t.places (omega arith) c

-- the first from n on that is not in the table: some numbers in a row from n on are used, and the one after them is m
pub data FirstFrom (ps : List Place) : ℕ → ℕ → Type 0 where
  here : {n : ℕ} → is_used n ps ≡ false → FirstFrom ps n n
  later : {n m : ℕ} → is_used n ps ≡ true → FirstFrom ps (after n) m → FirstFrom ps n m

first : (k n : ℕ) (ps : List Place) → is_used (free_from k n ps) ps ≡ false → FirstFrom ps n (free_from k n ps)
unfolding free_from
first zero n ps u = here u
first (suc k) n ps u =
    by_test (is_used n ps)
    (λ t. rw (free_step k n ps t) (later t (first k (after n) ps (ap (λ m. is_used m ps) (sym (free_step k n ps t)) ∙ u))))
    (λ t. rw (free-here k n ps t) (here t))

-- THE THEOREM: and the first such after the last number
pub next_first : (t : Table) → length t.places ≡ place_count → FirstFrom t.places (after t.last) (next_number t)
unfolding next_number
next_first t c = first 33 _ t.places (unfold next_number in next_unused t c)

-- WHAT A SEARCH FOR IT NEEDS: a used number goes on, a free one is it, and each step is one nearer

pub first_go : (ps : List Place) (n m : ℕ) → FirstFrom ps n m → is_used n ps ≡ true → FirstFrom ps (after n) m
first_go ps n m (here u) e = shut _ u e
first_go ps n m (later u f) e = f

pub first_stop : (ps : List Place) (n m : ℕ) → FirstFrom ps n m → is_used n ps ≡ false → n ≡ m
first_stop ps n m (here u) e = refl
first_stop ps n m (later u f) e = shut _ e u

pub first_free : (ps : List Place) (n m : ℕ) → FirstFrom ps n m → is_used m ps ≡ false
first_free ps n m (here u) = u
first_free ps n m (later u f) = first_free ps (after n) m f

pub first_small : (ps : List Place) (n m : ℕ) → n < numbers_in_all → FirstFrom ps n m → m < numbers_in_all
first_small ps n m h (here u) = h
first_small ps n m h (later u f) = first_small ps (after n) m (mod-lt (n + 1) (omega arith)) f

pub nearer : (n m : ℕ) → n < numbers_in_all → m < numbers_in_all → (n ≡ m → ⊥) → past (after n) m < past n m
nearer n m h l d = omega arith
