-- Tests, and what follows from their answers.
-- Assumes nothing.
use mathlib.Core.Path.{◌≡◌, refl, sym, ◌∙◌}
pub use Rattle.std.proofs.lemmas.Bool.{and_parts as and_both, and_from as and_of, or_parts as or_neither}
use mathlib.Core.Bool.{Bool, true, false, ◌||◌, not, true≢false}

-- by cases of a test
pub by_test : {A : Type 0} (b : Bool) → (b ≡ true → A) → (b ≡ false → A) → A
by_test true f g = f refl
by_test false f g = g refl

-- a test that answers both ways
pub shut : {A : Type 0} (b : Bool) → b ≡ false → b ≡ true → A
shut b e f = absurd (true≢false (sym f ∙ e))

pub or_second : (a : Bool) {b : Bool} → b ≡ true → a || b ≡ true
or_second true e = refl
or_second false e = e

-- one test implies another
pub implied : (a b : Bool) → not a || b ≡ true → a ≡ true → b ≡ true
implied true b e f = e
implied false b e f = absurd (true≢false (sym f))

pub implies : (a b : Bool) → (a ≡ true → b ≡ true) → not a || b ≡ true
implies true b f = f refl
implies false b f = refl
