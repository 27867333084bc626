-- The state of the rules as its reader sees it: 32 places, the last number, the pending entries, each with its own bytes, and
-- the three lent buffers. The queue's used part is the entries' bytes in order, and staged's used part a run of frames.
-- Assumes nothing.
use Rattle.channel.specs.declared.Record.{Record}
use Rattle.channel.specs.declared.Kind.{Kind}
use Rattle.channel.specs.declared.Kind.TheVariants.{Extended, Plain}
use Rattle.channel.specs.declared.StoredKind.{StoredKind}
use Rattle.std.specs.Prelude.{ℕ, ◌-◌, Bool, true, false, ◌||◌, List, [], ◌∷◌, ◌++◌, drop, replicate, eqb}

-- LIMITS

abbrev pub place_count : ℕ
place_count = 32

abbrev pub most_entries : ℕ
most_entries = 64

abbrev pub most_bytes : ℕ
most_bytes = 65536

-- numbers and windows are 32 bits wide
abbrev pub numbers_in_all : ℕ
numbers_in_all = 4294967296

abbrev pub most_window : ℕ
most_window = 4294967295

-- THE STATE

pub data Place : Type 0 where
  vacant : Place
  holds : Record → Place

-- a kind as an entry holds it: plain data has code 0
unfoldable pub stored : Kind → StoredKind
stored Plain = record { extended = false; code = 0 }
stored (Extended code) = record { extended = true; code = code }

-- and the kind that it stands for: of plain data the code is not looked at
unfoldable pub kind_of : StoredKind → Kind
kind_of s = elim s.extended [ true ↦ Extended s.code | false ↦ Plain ]

-- a pending entry with its bytes
pub record Entry : Type 0 where
  pub number : ℕ
  pub kind : StoredKind
  pub bytes : List ℕ

pub record Table : Type 0 where
  pub last : ℕ
  pub places : List Place
  pub entries : List Entry

-- the table, and what each lent buffer holds: the bytes past the used part are its rest
pub record World : Type 0 where
  pub table : Table
  pub queue_rest : List ℕ
  pub staged : List (List ℕ)
  pub staged_rest : List ℕ
  pub sent : List ℕ
  pub sent_rest : List ℕ

-- LOOKING UP

-- a record's number at this end
abbrev pub number_of : Record → ℕ
number_of c = c.sender_channel.0

-- and at the peer's
abbrev pub peer_of : Record → ℕ
peer_of c = c.recipient_channel.0

pub data Found : Type 0 where
  nowhere : Found
  found : Record → Found

unfoldable pub look : ℕ → List Place → Found
look n [] = nowhere
look n (vacant ∷ ps) = look n ps
look n (holds c ∷ ps) = elim (eqb (number_of c) n) [ true ↦ found c | false ↦ look n ps ]

unfoldable pub is_used : ℕ → List Place → Bool
is_used n [] = false
is_used n (vacant ∷ ps) = is_used n ps
is_used n (holds c ∷ ps) = eqb (number_of c) n || is_used n ps

unfoldable pub any_vacant : List Place → Bool
any_vacant [] = false
any_vacant (vacant ∷ ps) = true
any_vacant (holds c ∷ ps) = any_vacant ps

unfoldable pub any_entry : ℕ → List Entry → Bool
any_entry n [] = false
any_entry n (e ∷ es) = eqb e.number n || any_entry n es

-- CHANGING

-- the place with that number holds something else now
unfoldable pub replace : ℕ → Place → List Place → List Place
replace n new [] = []
replace n new (vacant ∷ ps) = vacant ∷ replace n new ps
replace n new (holds c ∷ ps) = elim (eqb (number_of c) n) [ true ↦ new ∷ ps | false ↦ holds c ∷ replace n new ps ]

-- the lowest vacant place holds the record now
unfoldable pub settle_in : Record → List Place → List Place
settle_in c [] = []
settle_in c (vacant ∷ ps) = holds c ∷ ps
settle_in c (holds d ∷ ps) = holds d ∷ settle_in c ps

-- a channel's entries dropped
unfoldable pub without : ℕ → List Entry → List Entry
without n [] = []
without n (e ∷ es) = elim (eqb e.number n) [ true ↦ without n es | false ↦ e ∷ without n es ]

-- BYTES

-- the queue's used part
unfoldable pub queued : List Entry → List ℕ
queued [] = []
queued (e ∷ es) = e.bytes ++ queued es

-- the rest of a buffer whose used part went from `old` bytes to `new`: grown over, or zeros where room was freed
unfoldable pub refit : ℕ → ℕ → List ℕ → List ℕ
refit old new rest = drop (new - old) (replicate (old - new) 0 ++ rest)

-- the empty table over three lent buffers
unfoldable pub empty : List ℕ → List ℕ → List ℕ → World
empty q st se =
    record {
      table = record { last = 1; places = replicate place_count vacant; entries = [] };
      queue_rest = q;
      staged = [];
      staged_rest = st;
      sent = [];
      sent_rest = se;
    }
