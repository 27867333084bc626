-- What a frame's end keeps to: a length of 4 bytes stands before it, and it is within the input.
-- Assumes nothing.
use Rattle.std.specs.Prelude.{ℕ, ◌+◌, ◌≤◌, List, length, Option, None, Some}

abbrev pub Ends : List ℕ → ℕ → Option ℕ → Type 0
Ends input at None = Unit {0}
Ends input at (Some e) = (at + 4 ≤ e) × (e ≤ length input)
