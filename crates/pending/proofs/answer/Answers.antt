-- By its test.
use Rattle.channel.specs.Answers as A
use Rattle.pending.specs.Plan.{result_of}
use Rattle.pending.proofs.answer.Goals as goal

pub returns-then-size : goal.returns-then-size
unfolding A.flush_is result_of
returns-then-size c = rw c.if-size.true

pub returns-else-size : goal.returns-else-size
unfolding A.flush_is result_of
returns-else-size c = rw c.if-size.false
