-- The first place that `find` gives is where the record stands.
use Rattle.std.proofs.Common.{◌≡◌, true, false, rules, tests}
use Rattle.std.proofs.lemmas.Iterator.{first_from_Range}
use Rattle.soundness.proofs.Places.{has, first_is}
use Rattle.soundness.proofs.scan.Goals as goal

pub returns : goal.returns
returns c =
    first_is c.args.t.now c.args.n.0 c.find.result c.typed.ensures.places
    (first_from_Range _ _ _ _ (λ i. has c.args.t.now c.args.n.0 i ≡ true) (λ i. has c.args.t.now c.args.n.0 i ≡ false) c.find.ensures.ran (λ x q k. search (rules, tests)) (λ x q k. search (rules, tests)))
