-- The invariant: the frames behind the run are whole, and what fits of all is the run and what fits of those (Left).
use native.Mathlib.Omega.{arith}
use lib.Seq.{length-take-le}
use Rattle.frames.proofs.Walk.{left_stop, left-go, left_end}
use Rattle.frames.proofs.front_run.Goals as goal

pub loop-n-preserved : goal.loop-n-preserved
loop-n-preserved c = let a = c.args in
    let l = length-take-le a.used a.staged.now (omega arith) in
    let n = c.in-Some.ensures in
    (omega arith, omega arith, omega arith, left-go c.loop-n.invariant.3 (omega arith) (omega arith) c.in-Some.n n.0 (omega arith))

pub returns-then-room-run-clause-fitting_run : goal.returns-then-room-run-clause-fitting_run
returns-then-room-run-clause-fitting_run c = let a = c.args in
    let l = length-take-le a.used a.staged.now (omega arith) in
    left_stop c.loop-n.invariant.3 (omega arith) (omega arith) (omega (arith, c.in-Some.ensures))

pub returns-in_default-clause-fitting_run : goal.returns-in_default-clause-fitting_run
returns-in_default-clause-fitting_run c = let a = c.args in
    let l = length-take-le a.used a.staged.now (omega arith) in
    left_end c.loop-n.invariant.3 (omega arith) c.in_default.ensures
