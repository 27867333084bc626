-- Marks from place i on.
use Rattle.std.proofs.Common.{◌≡◌, drop}
use Rattle.channel.specs.Sound.{all_marked}
use Rattle.soundness.specs.Tested.{places_in, entries_in, marks_sound}
use Rattle.soundness.proofs.marks_named.Given as goal

abbrev pub invariant-loop-i : goal.invariant-loop-i
invariant-loop-i l = marks_sound l.t ≡ all_marked (entries_in l.t) (drop l.i (places_in l.t))
