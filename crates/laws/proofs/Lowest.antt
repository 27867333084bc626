-- The lowest index that passes a test: what it says of itself and of those below, and the lowest clear bit of a word.
-- Assumes nothing.
use Prim.Native.Nat.{ℕ, zero, suc, ◌-◌, ◌*◌, ◌/◌, ◌%◌, ◌^◌, ◌<◌}
use mathlib.Core.Path.{◌≡◌, refl}
use mathlib.Core.Bool.{Bool, true, false, not, cond}
use lib.Dec.{eqb}
use lib.Count.{count_trailing_zeros, under}
use native.Mathlib.Nat.{not-suc-le-zero, le_of_suc-le-suc, pow-suc}
use native.Mathlib.Omega.{arith}
use Rattle.laws.specs.Bits.{bit}
use Rattle.laws.specs.Lowest.{lowest}
use Rattle.laws.proofs.Bits.{half_first}

below-zero : (b : Bool) (m : ℕ) → zero < cond b zero (suc m) → b ≡ false
below-zero true m h = absurd (not-suc-le-zero h)
below-zero false m h = refl

below_suc : (b : Bool) (m k : ℕ) → suc k < cond b zero (suc m) → k < m
below_suc true m k h = absurd (not-suc-le-zero h)
below_suc false m k h = le_of_suc-le-suc h

pub lowest-below : (p : ℕ → Bool) (n k : ℕ) → k < lowest p n → p k ≡ false
unfolding lowest
lowest-below p zero k h = absurd (not-suc-le-zero h)
lowest-below p (suc n) zero h = below-zero (p zero) _ h
lowest-below p (suc n) (suc k) h = lowest-below (λ i. p (suc i)) n k (below_suc (p zero) _ k h)

at-cond : (p : ℕ → Bool) (b : Bool) (m n : ℕ) → p zero ≡ b → cond b zero (suc m) < suc n → (m < n → p (suc m) ≡ true) → p (cond b zero (suc m)) ≡ true
at-cond p true m n e h f = e
at-cond p false m n e h f = f (le_of_suc-le-suc h)

pub lowest-at : (p : ℕ → Bool) (n : ℕ) → lowest p n < n → p (lowest p n) ≡ true
unfolding lowest
lowest-at p zero h = absurd (not-suc-le-zero h)
lowest-at p (suc n) h = at-cond p (p zero) _ n refl h (lowest-at (λ i. p (suc i)) n)

-- THE LOWEST CLEAR BIT

digit : (d t : ℕ) → d < 2 → under (1 - d) t ≡ cond (not (eqb d 1)) zero (suc t)
digit zero t h = refl
digit (suc zero) t h = refl
digit (suc (suc d)) t h = absurd (not-suc-le-zero (le_of_suc-le-suc (le_of_suc-le-suc h)))

digit-zero : (w : ℕ) → w / 2 ^ 0 % 2 ≡ w % 2
digit-zero w = omega arith

-- the trailing zeros of the complement of a word of k bits are its lowest clear bit, and k where all are set
pub trailing_lowest : (k w : ℕ) → w < 2 ^ k → count_trailing_zeros k ((2 ^ k - 1) - w) ≡ lowest (λ i. not (bit w i)) k
unfolding count_trailing_zeros lowest
trailing_lowest zero w h = refl
trailing_lowest (suc k) w h =
    let e : 2 ^ suc k ≡ 2 ^ k * 2 = pow-suc 2 k in
    let lo : ((2 ^ suc k - 1) - w) % 2 ≡ 1 - w % 2 = omega arith in
    let hi : ((2 ^ suc k - 1) - w) / 2 ≡ (2 ^ k - 1) - w / 2 = omega arith in
    let ih = trailing_lowest k (w / 2) (omega arith) in
    let small : w % 2 < 2 = omega arith in
    rw (lo, hi, ih, digit) (simp (← half_first, digit-zero) refl)
