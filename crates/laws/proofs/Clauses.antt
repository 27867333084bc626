-- A list of tests, and its clauses one by one.
-- Assumes nothing.
use mathlib.Core.Path.{◌≡◌, refl, sym}
use mathlib.Core.Bool.{Bool, true, false, true≢false}
use mathlib.Core.List.{List, [], ◌∷◌}
use Rattle.laws.specs.Clauses.{every}

-- the facts behind the tests
unfoldable pub AllTrue : List Bool → Type 0
AllTrue [] = Unit {0}
AllTrue (b ∷ bs) = (b ≡ true) × AllTrue bs

pub every_of : (bs : List Bool) → every bs ≡ true → AllTrue bs
unfolding AllTrue every
every_of [] e = tt
every_of (true ∷ bs) e = (refl, every_of bs e)
every_of (false ∷ bs) e = absurd (true≢false (sym e))
