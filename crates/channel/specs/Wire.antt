-- The bytes on the wire: RFC 4251 section 5 (integers and strings), RFC 4254 section 5 (messages), docs/RULES.md (frames).
-- Assumes nothing.
use Rattle.channel.specs.declared.Kind.{Kind}
use Rattle.channel.specs.declared.Kind.TheVariants.{Extended, Plain}
use Rattle.std.specs.Prelude.{ℕ, zero, suc, ◌+◌, ◌*◌, ◌/◌, ◌%◌, List, [], ◌∷◌, ◌++◌, map, length, take, drop, get_or}

-- RFC 4251, uint32: four bytes, most significant first
unfoldable pub uint32 : ℕ → List ℕ
uint32 n = n / 16777216 % 256 ∷ n / 65536 % 256 ∷ n / 256 % 256 ∷ n % 256 ∷ []

-- and read from the front of some bytes
unfoldable pub read32 : List ℕ → ℕ
read32 bs = get_or bs 0 0 * 16777216 + get_or bs 1 0 * 65536 + get_or bs 2 0 * 256 + get_or bs 3 0

-- RFC 4251, string: its length and its bytes
abbrev pub string : List ℕ → List ℕ
string bs = uint32 (length bs) ++ bs

-- RFC 4254 section 5.2, SSH_MSG_CHANNEL_DATA and SSH_MSG_CHANNEL_EXTENDED_DATA: recipient channel, (code,) data
unfoldable pub data_message : Kind → ℕ → List ℕ → List ℕ
data_message Plain peer bs = 94 ∷ uint32 peer ++ string bs
data_message (Extended code) peer bs = 95 ∷ uint32 peer ++ uint32 code ++ string bs

-- SSH_MSG_CHANNEL_WINDOW_ADJUST: recipient channel, bytes to add
unfoldable pub adjust_message : ℕ → ℕ → List ℕ
adjust_message peer add = 93 ∷ uint32 peer ++ uint32 add

-- RFC 4254 section 5.3, SSH_MSG_CHANNEL_EOF and SSH_MSG_CHANNEL_CLOSE: recipient channel
unfoldable pub eof_message : ℕ → List ℕ
eof_message peer = 96 ∷ uint32 peer

unfoldable pub close_message : ℕ → List ℕ
close_message peer = 97 ∷ uint32 peer

-- a frame: a 32-bit length and one message
unfoldable pub frame : List ℕ → List ℕ
frame p = uint32 (length p) ++ p

-- the bytes of a run of messages, each in its frame
unfoldable pub frames : List (List ℕ) → List ℕ
frames [] = []
frames (p ∷ ps) = frame p ++ frames ps

-- bytes cut a limit at a time, the last piece shorter; the first argument only bounds the number of pieces
unfoldable pub pieces : ℕ → ℕ → List ℕ → List (List ℕ)
pieces zero limit bs = []
pieces (suc k) limit [] = []
pieces (suc k) limit (b ∷ bs) = let more = pieces k limit (drop limit (b ∷ bs)) in take limit (b ∷ bs) ∷ more

-- the data messages that carry bs in packets of at most limit bytes
unfoldable pub packets : Kind → ℕ → ℕ → List ℕ → List (List ℕ)
packets kind peer limit bs = map (data_message kind peer) (pieces (length bs) limit bs)
