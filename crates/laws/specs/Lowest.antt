-- The lowest index that passes a test.
-- Assumes nothing.
use Rattle.std.specs.Prelude.{ℕ, zero, suc, Bool, cond}

-- the lowest index below n, and n where there is none
unfoldable pub lowest : (ℕ → Bool) → ℕ → ℕ
lowest p zero = zero
lowest p (suc n) = cond (p zero) zero (suc (lowest (λ i. p (suc i)) n))
