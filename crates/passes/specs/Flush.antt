-- What one channel's flush frames, and the sizes that the code finds before the first store.
-- Assumes nothing.
use Rattle.std.specs.Prelude.{ℕ, ◌+◌, ◌-◌, ◌≤◌, min, ◌≡◌, Bool, true, false, ◌&&◌, ◌||◌, cond, List, [], ◌∷◌, length, take, drop, ltb, eqb}
use Rattle.octets.specs.Buf.{write}
use Rattle.frames.proofs.Packets.{run_size}
use Rattle.channel.specs.declared.Entry as E
use Rattle.channel.specs.declared.Record.{Record}
use Rattle.channel.specs.declared.StoredKind.{StoredKind}
use Rattle.channel.specs.Wire.{frames}
use Rattle.channel.specs.State.{number_of, kind_of}
use Rattle.channel.specs.Decide.{Flushed, flushed}
use Rattle.channel.specs.Raw.{entries_of}
use Rattle.channel.specs.Sound.{sum_left}
use Rattle.channel.specs.Change.{remade, marks_of}
use Rattle.passes.specs.declared.Size.{Size}
use Rattle.passes.specs.Keep.{rest}

-- the bytes of an entry that the window w holds, if it is of channel n; and whether it stops the flush
abbrev pub taken_by : ℕ → ℕ → ℕ → ℕ → ℕ
taken_by n w number left = cond (eqb number n) (min left w) 0

abbrev pub stops_by : ℕ → ℕ → ℕ → ℕ → Bool
stops_by n w number left = eqb number n && ltb w left

-- the bytes that m bytes of data take in packets of the record's limit
abbrev pub size_by : Record → StoredKind → ℕ → ℕ
size_by c kind m = run_size (kind_of kind) c.recipient_maximum_packet_size m

abbrev pub adds : ℕ → ℕ → Size → Size
adds m s r = record { wrote = m + r.wrote; size = s + r.size; all = r.all }

-- the bytes framed, the bytes of their frames, and whether none is left, by the entries' lengths alone
unfoldable pub sizes : Record → ℕ → List E.Entry → Size
sizes c w [] = record { wrote = 0; size = 0; all = true }
sizes c w (p ∷ ps) =
    let m = taken_by (number_of c) w p.number.0 p.left in
    elim (stops_by (number_of c) w p.number.0 p.left) [
      | true ↦ record { wrote = m; size = size_by c p.kind m; all = false }
      | false ↦ adds m (size_by c p.kind m) (sizes c (w - m) ps)
    ]

-- the same of a flush of the definition
abbrev pub size_of : Flushed → Size
size_of f = record { wrote = f.wrote; size = length (frames f.out); all = f.all }

-- the channel has a byte pending, by the lengths
abbrev pub has_byte_by : ℕ → ℕ → ℕ → Bool
has_byte_by n number left = eqb number n && ltb 0 left

unfoldable pub any_left : ℕ → List E.Entry → Bool
any_left n [] = false
any_left n (p ∷ ps) = has_byte_by n p.number.0 p.left || any_left n ps

abbrev pub stuck_by : Record → List E.Entry → Bool
stuck_by c ps = eqb c.recipient_maximum_packet_size 0 && any_left (number_of c) ps

-- the record with another limit, and with one that is not 0
abbrev pub with_limit : Record → ℕ → Record
with_limit c l = remade c (record { number = c.recipient_channel.0; confirmed = c.confirmed; window = c.recipient_window_size; limit = l }) c.sender_window_size (marks_of c)

unfoldable pub positive_of : Record → Record
positive_of c = with_limit c (cond (eqb c.recipient_maximum_packet_size 0) 1 c.recipient_maximum_packet_size)

-- places up to i are framed
pub record Framing (c : Record) (es : List E.Entry) (count : ℕ) (q : List ℕ) (start : ℕ) (dst₀ dst : List ℕ) (i off w pos : ℕ) : Type 0 where
  pub within : i ≤ count
  pub ahead : off + sum_left (count - i) (drop i es) ≡ sum_left count es
  pub same : length dst ≡ length dst₀
  pub next : start + length (frames (flushed c c.recipient_window_size (entries_of count es q)).out) ≡ pos + length (frames (flushed c w (rest es count q i off)).out)
  pub bytes : write start (frames (flushed c c.recipient_window_size (entries_of count es q)).out) dst₀ ≡ write pos (frames (flushed c w (rest es count q i off)).out) dst

-- places up to i are counted
pub record Sizing (c : Record) (es : List E.Entry) (count i w wrote size : ℕ) : Type 0 where
  pub within : i ≤ count
  pub whole : sizes c c.recipient_window_size (take count es) ≡ adds wrote size (sizes c w (take (count - i) (drop i es)))
