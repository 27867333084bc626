-- What `any` answers of the places from `first` on.
use Rattle.std.proofs.Common.{refl, ◌∙◌, ◌-◌, length, arith, rules, tests}
use Rattle.std.proofs.lemmas.Iterator.{YieldsList-from_range}
use Rattle.std.proofs.lemmas.Iterator.Search.{any_from_yields_List}
use Rattle.soundness.proofs.Places.{has, used_listed}
use Rattle.soundness.proofs.used_from.Goals as goal

pub returns : goal.returns
returns c =
    any_from_yields_List (has c.args.t.now c.args.n.0) _ _ _ c.any.ensures.ran (YieldsList-from_range c.args.first (length c.args.t.now.records) (length c.args.t.now.records - c.args.first) (cc) refl) (λ x b q k. search (rules, tests))
    ∙ used_listed c.args.t.now c.args.n.0 c.args.first _ (omega arith)
