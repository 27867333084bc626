-- Bits of a word.
-- Assumes nothing.
use Rattle.std.specs.Prelude.{ℕ, ◌/◌, ◌%◌, ◌^◌, Bool, eqb}

-- bit i is set
abbrev pub bit : ℕ → ℕ → Bool
bit w i = eqb (w / 2 ^ i % 2) 1
