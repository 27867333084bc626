-- The used part is whole frames if it is from `at` on: each turn is one law of the walk over frames.
use Prim.Native.Nat.{◌-◌, ◌≤◌}
use mathlib.Core.Path.{◌≡◌}
use lib.ListN.{take, drop}
use Rattle.channel.specs.Sound.{whole_frames}
use Rattle.soundness.proofs.whole_frames.Given as goal

abbrev pub invariant-loop-at : goal.invariant-loop-at
invariant-loop-at l = (l.at ≤ l.used) × (whole_frames l.used (take l.used l.staged) ≡ whole_frames l.used (drop l.at (take l.used l.staged)))

abbrev pub decreases-loop-at : goal.decreases-loop-at
decreases-loop-at l = l.used - l.at
