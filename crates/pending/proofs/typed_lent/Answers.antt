-- The types say nothing of sent.
use Rattle.pending.proofs.CallLaws.{typed_by}
use Rattle.pending.proofs.typed_lent.Goals as goal

pub returns : goal.returns
returns c = typed_by c.args.form.writer c.args.out.now c.typed.ensures
