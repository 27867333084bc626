-- What the credit by value answers.
use Rattle.std.proofs.Common.{sym, ◌∙◌}
use Rattle.credit.proofs.Ways.{handed_on, stored}
use Rattle.credit.proofs.credit.Goals as goal

pub returns-in_err-r : goal.returns-in_err-r
returns-in_err-r c =
    let h = handed_on c.args.r.now c.args.add c.from_residual.result c.from_residual.ensures.1 (sym c.in_err-r.was ∙ c.add_credit.ensures) in
    record { answer = h.0; left = h.1 }

pub returns : goal.returns
returns c = let h = stored c.args.r.now c.args.add (sym c.in_ok-r.was ∙ c.add_credit.ensures) in record { answer = h.0; left = h.1 }
