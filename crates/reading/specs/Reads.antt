-- What a payload reads as, of the code's answer; and the definition's forms, one by one.
-- Assumes nothing.
use Rattle.std.specs.Prelude.{ℕ, ◌+◌, ◌≡◌, true, false, ◌&&◌, List, length, leb, eqb, Option, Some, None, MatchOption}
use Rattle.channel.specs.declared.ChannelId.{ChannelId}
use Rattle.channel.specs.declared.Kind.{Kind}
use Rattle.channel.specs.declared.Text.{Text}
use Rattle.channel.specs.declared.Message as M
use Rattle.channel.specs.Call.{confirmation, failure, credit, received}
use Rattle.channel.specs.Read as R
use Rattle.channel.specs.Read.{malformed, reads, int, string_ends, or_else}
use Rattle.channel.specs.Answers.{message_of}

unfoldable pub read_of : Option M.Message → R.Read
read_of None = malformed
read_of (Some m) = reads (message_of m)

-- the rest of a payload behind each type byte
abbrev pub confirmation_at : List ℕ → R.Read
confirmation_at p = or_else (leb 17 (length p)) (confirmation (int p 1) (int p 5) (int p 9) (int p 13)) malformed

abbrev pub failure_at : List ℕ → R.Read
failure_at p = or_else (leb 13 (length p) && string_ends p (13 + int p 9)) (failure (int p 1) (int p 5) 13 (int p 9) (13 + int p 9 + 4) (int p (13 + int p 9))) malformed

abbrev pub credit_at : List ℕ → R.Read
credit_at p = or_else (eqb (length p) 9) (credit (int p 1) (int p 5)) malformed

abbrev pub received_at : List ℕ → Kind → ℕ → R.Read
received_at p kind at = or_else (string_ends p at) (received (int p 1) kind (at + 4) (int p at)) malformed

-- a string that ends the payload, and the recipient of a payload of 5 bytes, where they are there
abbrev pub IsLastString : List ℕ → ℕ → Option Text → Type 0
IsLastString p at r = MatchOption r (string_ends p at ≡ false) (λ t. (string_ends p at ≡ true) × (t.start ≡ at + 4) × (t.length ≡ int p at))

abbrev pub IsAlone : List ℕ → Option ChannelId → Type 0
IsAlone p r = MatchOption r (eqb (length p) 5 ≡ false) (λ n. (eqb (length p) 5 ≡ true) × (n.0 ≡ int p 1))
