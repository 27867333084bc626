-- Every whole frame takes 4 bytes or more of what is left, so that it ends.
use Rattle.std.proofs.Common.{length, ◌-◌, ◌≤◌}
use Rattle.echo.proofs.Echo.run.Given as goal

abbrev pub invariant-loop-end : goal.invariant-loop-end
invariant-loop-end g l = l.at ≤ length l.input

abbrev pub decreases-loop-end : goal.decreases-loop-end
decreases-loop-end g l = length l.input - l.at
