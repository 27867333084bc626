-- The number that is picked of the code's table, and the place that is free.
-- Assumes nothing.
use Rattle.std.specs.Prelude.{◌≡◌, ℕ, ◌<◌, true, [], Option, Some, None}
use Rattle.laws.specs.Bits.{bit}
use Rattle.channel.specs.declared.Table as D
use Rattle.channel.specs.State.{place_count}
use Rattle.channel.specs.Raw.{places_of}
use Rattle.channel.specs.Decide.{next_number}
use Rattle.lookup.specs.Held.{FreeAt}

-- the definition's next number of the table's places
abbrev pub pick_of : D.Table → ℕ
pick_of t = next_number (record { last = t.last; places = places_of t.used t.records; entries = [] })

-- no place is free
abbrev pub Full : D.Table → Type 0
Full t = (k : ℕ) → k < place_count → bit t.used k ≡ true

-- the lowest free place, if there is one
abbrev pub Frees : D.Table → Option ℕ → Type 0
Frees t (Some i) = FreeAt t i
Frees t None = Full t
