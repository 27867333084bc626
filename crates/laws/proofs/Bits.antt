-- Bits of a word, one after the other.
-- Assumes nothing.
use Prim.Native.Nat.{ℕ, suc, ◌+◌, ◌/◌, ◌^◌}
use mathlib.Core.Path.{◌≡◌, sym, ap, ◌∙◌}
use native.Mathlib.Numerals.{add-one}
use native.Mathlib.Nat.{pow-suc, pow-succ', div-div-eq-div-mul}

-- halving first, or last, is one bit further
pub half_first : (w i : ℕ) → w / 2 / 2 ^ i ≡ w / 2 ^ suc i
half_first w i = div-div-eq-div-mul w 2 (2 ^ i) ∙ ap (λ q. w / q) (sym (pow-succ' 2 i))

pub half_last : (w i : ℕ) → w / 2 ^ i / 2 ≡ w / 2 ^ (i + 1)
half_last w i = rw (add-one i) (div-div-eq-div-mul w (2 ^ i) 2 ∙ ap (λ q. w / q) (sym (pow-suc 2 i)))
