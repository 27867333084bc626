-- One bit of a word set or cleared, by adding its power of two or taking it away.
-- Assumes nothing.
use Prim.Native.Nat.{ℕ, zero, suc, ◌+◌, ◌*◌, ◌/◌, ◌%◌, ◌^◌, ◌≤◌, ◌<◌}
use mathlib.Core.Path.{◌≡◌, ap, ◌∙◌}
use mathlib.Core.Bool.{true, false}
use lib.Dec.{lit<}
use lib.Pow.{shl_exact}
use native.Mathlib.Omega.{arith}
use native.Mathlib.Nat.{pow-suc, one-mul}
use borrow.Author.Tests.{eqb-true, eqb-false}
use Rattle.laws.specs.Bits.{bit}
use Rattle.laws.proofs.Bits.{half_first}

-- a 1 shifted to bit i of a word of 32
pub one_shl : (i : ℕ) → i < 32 → 1 * 2 ^ i % 2 ^ 32 ≡ 2 ^ i
one_shl i h = shl_exact 1 i 32 (lit< tt) (omega arith) ∙ one-mul (2 ^ i)

-- digit i of the half
digit_half : (w i d : ℕ) → w / 2 ^ suc i % 2 ≡ d → w / 2 / 2 ^ i % 2 ≡ d
digit_half w i d e = ap (λ x. x % 2) (half_first w i) ∙ e

power_le : (i w : ℕ) → w / 2 ^ i % 2 ≡ 1 → 2 ^ i ≤ w
power_le zero w e = omega arith
power_le (suc i) w e =
    let ih = power_le i (w / 2) (digit_half w i 1 e) in
    omega (arith, pow-suc 2 i)

-- a set bit can be taken away
pub set_le : (w i : ℕ) → bit w i ≡ true → 2 ^ i ≤ w
set_le w i e = power_le i w (eqb-true (w / 2 ^ i % 2) 1 e)

sum_lt : (k i w : ℕ) → i < k → w < 2 ^ k → w / 2 ^ i % 2 ≡ 0 → w + 2 ^ i < 2 ^ k
sum_lt zero i w l h e = absurd (omega arith)
sum_lt (suc k) zero w l h e = omega (arith, pow-suc 2 k)
sum_lt (suc k) (suc i) w l h e =
    let p : 2 ^ suc k ≡ 2 ^ k * 2 = pow-suc 2 k in
    let ih = sum_lt k i (w / 2) (omega arith) (omega arith) (digit_half w i 0 e) in
    omega (arith, pow-suc 2 i)

-- and a clear one added within the word's width
pub clear_lt : (k i w : ℕ) → i < k → w < 2 ^ k → bit w i ≡ false → w + 2 ^ i < 2 ^ k
clear_lt k i w l h e =
    let n : w / 2 ^ i % 2 ≡ 1 → ⊥ = eqb-false (w / 2 ^ i % 2) 1 e in
    sum_lt k i w l h (omega arith)
