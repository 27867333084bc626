-- By what was seen.
use Rattle.std.proofs.Common.{sym, ◌∙◌}
use Rattle.channel.specs.Answers as A
use Rattle.lookup.specs.Out.{route}
use Rattle.pending.specs.Plan.{sent_by}
use Rattle.pending.proofs.AllLaws.{idle_is}
use Rattle.pending.proofs.flush.Goals as goal

pub returns : goal.returns
unfolding A.answer A.flush_is
returns c =
    let a = c.args in
    let h = c.requires.is in
    idle_is (sent_by a.form.writer a.t.now a.queue.now a.staged.now a.out.now a.kept.now) c.requires.typed h.sound (route a.form.writer a.form.rekey) a.n.0 _ h.held (sym h.waits_is ∙ c.if-found.false)
