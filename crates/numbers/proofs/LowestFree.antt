-- The lowest clear bit of the word of used marks is the lowest free place.
-- Assumes nothing.
use Rattle.std.proofs.Common.{◌≡◌, ℕ, ◌<◌, ◌≤◌, true, not, ap, ◌∙◌, arith}
use borrow.Author.Tests.{not-true, not-false}
use Rattle.laws.specs.Bits.{bit}
use Rattle.laws.specs.Lowest.{lowest}
use Rattle.laws.proofs.Lowest.{lowest-at, lowest-below}
use Rattle.channel.specs.State.{place_count}
use Rattle.channel.specs.declared.Table as D
use Rattle.lookup.specs.Held.{FreeAt}
use Rattle.numbers.specs.Picks.{Full}

module _ (t : D.Table) (i : ℕ) (e : i ≡ lowest (λ k. not (bit t.used k)) place_count) where
  below : (k : ℕ) → k < i → bit t.used k ≡ true
  below k h = not-false _ (lowest-below (λ k. not (bit t.used k)) place_count k (omega arith))

  pub free-at : i < place_count → FreeAt t i
  free-at h = record { place = h; free = ap (bit t.used) e ∙ not-true _ (lowest-at (λ k. not (bit t.used k)) place_count (omega arith)); below = below }

  pub free-none : place_count ≤ i → Full t
  free-none h k l = below k (omega arith)
