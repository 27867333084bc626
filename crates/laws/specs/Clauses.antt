-- A list of tests.
-- Assumes nothing.
use Rattle.std.specs.Prelude.{Bool, true, ◌&&◌, List, [], ◌∷◌}

-- every test passes
unfoldable pub every : List Bool → Bool
every [] = true
every (b ∷ bs) = b && every bs
