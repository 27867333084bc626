-- Each way out is one law, by what was tested and found free.
use Rattle.std.proofs.Common.{sym, ap, ◌∙◌, not}
use Rattle.channel.specs.Answers as A
use Rattle.soundness.proofs.Told.{passed_unsound}
use Rattle.numbers.proofs.Opens.{id_none, id_some}
use Rattle.numbers.proofs.new_channel_id.Goals as goal

pub returns-in_err-test : goal.returns-in_err-test
returns-in_err-test c = passed_unsound _ _ _ c.from_residual.result c.from_residual.ensures.1 (rw c.in_err-test.was at c.test.ensures.is)

pub returns-then-is_none : goal.returns-then-is_none
unfolding A.answer
returns-then-is_none c =
    let sd = rw c.in_ok-test.was at c.test.ensures.is in
    sym (id_none _ c.test.ensures.typed sd _ c.lowest_free.ensures (c.is_none.ensures ∙ ap not c.if-is_none.true))

pub returns : goal.returns
unfolding A.answer
returns c =
    let sd = rw c.in_ok-test.was at c.test.ensures.is in
    sym (id_some _ c.test.ensures.typed sd _ c.lowest_free.ensures (c.is_none.ensures ∙ ap not c.if-is_none.false) _ c.pick-n.ensures)
