-- Each way out is one law, by what was tested.
use Rattle.std.proofs.Common.{sym, arith}
use Rattle.channel.specs.Answers as A
use Rattle.channel.specs.Raw as R
use Rattle.channel.proofs.Clauses.{clauses}
use Rattle.lookup.proofs.Limits.{limits}
use Rattle.soundness.proofs.Told.{passed_unsound}
use Rattle.staging.proofs.Cases.{held-is, moved-is}
use Rattle.staging.proofs.flush.Goals as goal

pub returns-in_err-test : goal.returns-in_err-test
returns-in_err-test c = passed_unsound _ _ _ c.from_residual.result c.from_residual.ensures.1 (rw c.in_err-test.was at c.test.ensures.is)

pub returns-then-rekey : goal.returns-then-rekey
unfolding A.answer A.move_is
returns-then-rekey c =
    let sd = rw c.in_ok-test.was at c.test.ensures.is in
    rw c.if-rekey.true (sym (held-is _ c.test.ensures.typed sd))

pub overflow_sub-room : goal.overflow_sub-room
overflow_sub-room c =
    let sd = rw c.in_ok-test.was at c.test.ensures.is in
    (limits _ sd).sent_used

pub front_run-run-requires : goal.front_run-run-requires
front_run-run-requires c =
    let sd = rw c.in_ok-test.was at c.test.ensures.is in
    ((limits _ sd).staged_used, (clauses _ sd).whole)

pub move_out-requires : goal.move_out-requires
move_out-requires c =
    let sd = rw c.in_ok-test.was at c.test.ensures.is in
    omega (arith, limits _ sd, c.front_run-run.ensures.bounds)

pub returns : goal.returns
unfolding A.answer A.move_is R.meaning
returns c =
    let sd = rw c.in_ok-test.was at c.test.ensures.is in
    let e = c.front_run-run.ensures in
    rw (c.if-rekey.false, c.move_out.ensures.staged_after, c.move_out.ensures.sent_after)
    (sym (moved-is _ c.test.ensures.typed sd _ _ e.fitting_run.0 e.fitting_run.1 e.bounds.1))
