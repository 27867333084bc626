-- The flush of all: the lowest number that has an entry, the numbers not passed yet, and what one turn of the loop tells.
-- Assumes nothing.
use Rattle.std.specs.Prelude.{ℕ, ◌+◌, ◌≤◌, ◌≡◌, Bool, true, false, ◌&&◌, ◌||◌, not, cond, List, [], ◌∷◌, leb, ltb, Option, Some, None}
use Rattle.channel.specs.declared.ChannelId.{ChannelId}
use Rattle.channel.specs.declared.Entry as E
use Rattle.channel.specs.State.{is_used}
use Rattle.channel.specs.Call.{Route}
use Rattle.channel.specs.Step.{numbers, flush_each}
use Rattle.channel.specs.Raw.{Raw, meaning}
use Rattle.channel.specs.Sound.{is_sound}

-- the lowest number so far, if there is one
pub record Least : Type 0 where
  pub found : Bool
  pub number : ℕ

abbrev pub none_yet : Least
none_yet = record { found = false; number = 0 }

abbrev pub best_of : Option ChannelId → Least
best_of None = none_yet
best_of (Some n) = record { found = true; number = n.0 }

-- the nearer of the number n and the best so far, where n is not passed yet
abbrev pub nearer_by : ℕ → ℕ → Least → Least
nearer_by from n l = cond (leb from n && (not l.found || ltb n l.number)) (record { found = true; number = n }) l

unfoldable pub least_from : ℕ → Least → List E.Entry → Least
least_from from l [] = l
least_from from l (p ∷ ps) = least_from from (nearer_by from p.number.0 l) ps

-- an ascending list without the numbers below `from`
unfoldable pub at_least : ℕ → List ℕ → List ℕ
at_least from [] = []
at_least from (n ∷ ns) = elim (ltb n from) [ true ↦ at_least from ns | false ↦ n ∷ ns ]

unfoldable pub Rising : ℕ → List ℕ → Type 0
Rising lo [] = Unit {0}
Rising lo (n ∷ ns) = (lo ≤ n) × Rising (n + 1) ns

-- the numbers below `from` are done: what is left to do, done to the present state, is the whole
pub record Passed (route : Route) (r₀ r : Raw) (from : ℕ) : Type 0 where
  pub start : is_sound r₀ ≡ true
  pub sound : is_sound r ≡ true
  pub rising : Rising 0 (numbers (meaning r₀).table.places)
  pub used : (m : ℕ) → from ≤ m → is_used m (meaning r).table.places ≡ is_used m (meaning r₀).table.places
  pub same : flush_each route (numbers (meaning r₀).table.places) (meaning r₀) ≡ flush_each route (at_least from (numbers (meaning r₀).table.places)) (meaning r)
