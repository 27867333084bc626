-- The bytes that name the buffers.
-- Assumes nothing.
use Rattle.std.specs.Prelude.{◌≡◌, ℕ, ◌<◌, Result, MatchResult}
use Rattle.player.specs.declared.call.Buffer.{Buffer}
use Rattle.player.specs.declared.call.Buffer.TheVariants.{Queue, Staged, Sent}

-- the byte that names a buffer
abbrev pub byte_of : Buffer → ℕ
byte_of Queue = 0
byte_of Staged = 1
byte_of Sent = 2

-- the result is the buffer that the byte names, or an error with a byte that names none
abbrev pub Decodes : ℕ → Result Buffer ℕ → Type 0
Decodes byte r = MatchResult r (λ buffer. byte_of buffer ≡ byte) (λ e. (e ≡ byte) × (2 < byte))
