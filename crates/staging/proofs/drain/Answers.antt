-- Each way out is one law, by what was tested.
use Rattle.std.proofs.Common.{sym, arith}
use Rattle.channel.specs.Answers as A
use Rattle.lookup.proofs.Limits.{limits}
use Rattle.soundness.proofs.Told.{passed_unsound}
use Rattle.staging.proofs.Cases.{drained-is}
use Rattle.staging.proofs.drain.Goals as goal

pub returns-in_err-test : goal.returns-in_err-test
returns-in_err-test c = passed_unsound _ _ _ c.from_residual.result c.from_residual.ensures.1 (rw c.in_err-test.was at c.test.ensures.is)

pub put_zeros-requires : goal.put_zeros-requires
put_zeros-requires c =
    let sd = rw c.in_ok-test.was at c.test.ensures.is in
    omega (arith, (limits _ sd).sent_used)

pub returns : goal.returns
unfolding A.answer
returns c =
    let sd = rw c.in_ok-test.was at c.test.ensures.is in
    rw c.put_zeros.ensures (sym (drained-is _ c.test.ensures.typed sd))
