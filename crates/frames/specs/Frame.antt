-- What the contracts say beside channel's definitions: the bytes over a packet's data, a frame's front, a frame that stands whole.
-- Assumes nothing.
use Rattle.std.specs.Prelude.{ℕ, ◌+◌, ◌&&◌, cond, List, ◌∷◌, ◌++◌, length, ltb, leb}
use Rattle.channel.specs.declared.Kind.{Kind}
use Rattle.channel.specs.declared.Kind.TheVariants.{Plain, Extended}
use Rattle.channel.specs.Wire.{uint32, read32}

-- the bytes of a data packet over its data
abbrev pub over : Kind → ℕ
over Plain = 13
over (Extended code) = 17

-- what a frame begins with: the message's length, its number and the recipient
unfoldable pub head : ℕ → ℕ → ℕ → List ℕ
head n number peer = uint32 n ++ (number ∷ uint32 peer)

-- what stands before a data packet's string of n bytes
unfoldable pub data_head : Kind → ℕ → ℕ → List ℕ
data_head Plain peer n = head (n + 9) 94 peer
data_head (Extended code) peer n = head (n + 13) 95 peer ++ uint32 code

-- the bytes of the frame at the front, where it is whole and not empty; else 0
unfoldable pub whole_at : List ℕ → ℕ
whole_at bs = cond (ltb 0 (read32 bs) && leb (4 + read32 bs) (length bs)) (4 + read32 bs) 0
