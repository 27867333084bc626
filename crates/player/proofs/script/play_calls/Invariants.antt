-- Each call takes at least one byte of the script, and none past its end.
use Rattle.std.proofs.Common.{length, ◌-◌}
use Rattle.player.proofs.script.play_calls.Given as goal

abbrev pub decreases-loop-place : goal.decreases-loop-place
decreases-loop-place g l = length l.script - l.place
