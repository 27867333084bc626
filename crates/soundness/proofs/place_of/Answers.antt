-- With no hint the number is not used; where the hinted place has it, its record is the one that is found, since numbers are distinct.
use Rattle.std.proofs.Common.{sym, ap, ◌∙◌, get_or, arith}
use Rattle.soundness.proofs.Places.{unhinted_none, place_found}
use Rattle.soundness.proofs.place_of.Goals as goal

pub returns-then-hint-eq0 : goal.returns-then-hint-eq0
returns-then-hint-eq0 c =
    unhinted_none _ _ _ c.requires.hinted (ap (λ k. get_or c.args.look.now.hints k 0) (sym c.slot.ensures) ∙ c.if-hint-eq0.true)

pub returns-then-place_has : goal.returns-then-place_has
returns-then-place_has c =
    place_found c.args.t.now _ _ (omega arith) c.requires.sized.places c.requires.hinted.apart (sym c.place_has.ensures ∙ c.if-place_has.true)
