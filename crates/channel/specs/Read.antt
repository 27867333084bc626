-- What an incoming payload reads as: the forms of docs/RULES.md, "Incoming" (RFC 4254 sections 5.1 to 5.3).
-- Assumes nothing.
use Rattle.channel.specs.declared.Kind.TheVariants.{Extended, Plain}
use Rattle.std.specs.Prelude.{ℕ, ◌+◌, Bool, true, false, ◌&&◌, List, length, drop, get_or, leb, eqb}
use Rattle.channel.specs.Wire.{read32}
use Rattle.channel.specs.Call.{Message, confirmation, failure, credit, received, ended, closed}

pub data Read : Type 0 where
  malformed : Read
  reads : Message → Read

-- the integer at an offset of the payload
unfoldable pub int : List ℕ → ℕ → ℕ
int p at = read32 (drop at p)

-- a string's length stands at the offset, and its bytes end the payload
unfoldable pub string_ends : List ℕ → ℕ → Bool
string_ends p at = leb (at + 4) (length p) && eqb (at + 4 + int p at) (length p)

-- the message, where the payload has its form
unfoldable pub or_else : Bool → Message → Read → Read
or_else true m r = reads m
or_else false m r = r

-- the type byte, then the fields; except in 91 nothing may follow
unfoldable pub read_message : List ℕ → Read
read_message p =
    let type = get_or p 0 0 in
    let language = 13 + int p 9 in
    or_else (eqb type 91 && leb 17 (length p)) (confirmation (int p 1) (int p 5) (int p 9) (int p 13))
    (or_else (eqb type 92 && leb 13 (length p) && string_ends p language) (failure (int p 1) (int p 5) 13 (int p 9) (language + 4) (int p language))
    (or_else (eqb type 93 && eqb (length p) 9) (credit (int p 1) (int p 5))
    (or_else (eqb type 94 && string_ends p 5) (received (int p 1) Plain 9 (int p 5))
    (or_else (eqb type 95 && string_ends p 9) (received (int p 1) (Extended (int p 5)) 13 (int p 9))
    (or_else (eqb type 96 && eqb (length p) 5) (ended (int p 1))
    (or_else (eqb type 97 && eqb (length p) 5) (closed (int p 1)) malformed))))))
