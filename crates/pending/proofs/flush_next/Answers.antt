-- An entry of a sound state names a record.
use Rattle.std.proofs.Common.{sym}
use Rattle.channel.specs.Answers as A
use Rattle.lookup.specs.Out.{route}
use Rattle.pending.specs.Plan.{sent_by}
use Rattle.pending.proofs.CallLaws.{unknown_is}
use Rattle.pending.proofs.flush_next.Goals as goal

pub returns-in-None : goal.returns-in-None
unfolding A.answer A.refusal A.refusal_number
returns-in-None c =
    let a = c.args in
    sym (unknown_is (sent_by a.form.writer a.t.now a.queue.now a.staged.now a.out.now a.kept.now) c.typed_lent.ensures c.requires (route a.form.writer a.form.rekey) a.n.0 c.in-None.ensures)
