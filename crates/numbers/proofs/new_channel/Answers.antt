-- Each way out is one law, by what was tested and found free.
use Rattle.std.proofs.Common.{sym}
use Rattle.channel.specs.Answers as A
use Rattle.soundness.proofs.Told.{passed_unsound}
use Rattle.numbers.proofs.Opens.{new_full, new_is}
use Rattle.numbers.proofs.new_channel.Goals as goal

pub returns-in_err-test : goal.returns-in_err-test
returns-in_err-test c = passed_unsound _ _ _ c.from_residual.result c.from_residual.ensures.1 (rw c.in_err-test.was at c.test.ensures.is)

pub returns-in_default : goal.returns-in_default
unfolding A.answer
returns-in_default c =
    let sd = rw c.in_ok-test.was at c.test.ensures.is in
    let none = rw c.in_default.is at c.lowest_free.ensures in
    sym (new_full _ c.test.ensures.typed sd none c.args.window_size c.args.maxpacket)

pub returns : goal.returns
unfolding A.answer
returns c =
    let sd = rw c.in_ok-test.was at c.test.ensures.is in
    let f = rw c.in-Some.is at c.lowest_free.ensures in
    rw (c.take_place.ensures, c.fresh_record.ensures)
    (sym (new_is _ c.test.ensures.typed sd _ f c.args.window_size c.args.maxpacket _ c.pick-n.ensures))
