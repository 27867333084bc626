-- What is left of a script before and after fields were taken off its front, and what stands at its front.
-- Assumes nothing.
use Rattle.std.specs.Prelude.{◌≡◌, ◌<◌, ◌≤◌, ℕ, Bool, true, false, Some, length, take, drop, slice_get}
use Rattle.std.specs.Int.{w32, from_be_bytes}
use Rattle.player.specs.declared.fields.Fields.{Fields}

-- no more than before
abbrev pub NoLonger : Fields → Fields → Type 0
NoLonger old new = length new.0.now ≤ length old.0.now

-- less than before
abbrev pub Shorter : Fields → Fields → Type 0
Shorter old new = length new.0.now < length old.0.now

-- the first byte of what is left
abbrev pub Starts : Fields → ℕ → Type 0
Starts old byte = slice_get old.0.now 0 ≡ Some byte

-- the byte of a switch
abbrev pub switch_byte : Bool → ℕ
switch_byte false = 0
switch_byte true = 1

-- n bytes were taken off the front
abbrev pub Took : ℕ → Fields → Fields → Type 0
Took n old new = new.0.now ≡ drop n old.0.now

-- the integer at the front: four bytes, the most significant first
abbrev pub integer_of : Fields → ℕ
integer_of old = from_be_bytes w32 (take 4 old.0.now)
