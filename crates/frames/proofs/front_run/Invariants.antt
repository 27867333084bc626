-- The invariant: the frames behind the run are whole, and what fits of all is the run and what fits of those (Left).
use Prim.Native.Nat.{◌-◌, ◌≤◌}
use lib.ListN.{take}
use Rattle.frames.proofs.Walk.{Left}
use Rattle.frames.proofs.front_run.Given as goal

abbrev pub invariant-loop-n : goal.invariant-loop-n
invariant-loop-n l = (l.run.bytes ≤ l.used) × (l.run.bytes ≤ l.room) × (l.run.frames ≤ l.run.bytes) × Left l.used l.room (take l.used l.staged) l.run.bytes l.run.frames

abbrev pub decreases-loop-n : goal.decreases-loop-n
decreases-loop-n l = l.used - l.run.bytes
