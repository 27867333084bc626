-- The places are looked over downwards, so what holds of those from i on is `Seen`; a place more is one law of Places.
use Rattle.std.proofs.Common.{◌≡◌, true, ◌^◌, ◌/◌, length, drop}
use Rattle.channel.specs.Sound.{unused_zero}
use Rattle.soundness.specs.Tested.{places_in}
use Rattle.soundness.proofs.Places.{Seen}
use Rattle.soundness.proofs.look_over.Given as goal

abbrev pub invariant-loop-i : goal.invariant-loop-i
invariant-loop-i l = record {
  slots : length l.hints ≡ 64;
  unused : unused_zero (l.t.used / 2 ^ l.i) (drop l.i l.t.records) ≡ true;
  seen : Seen (drop l.i (places_in l.t)) l.hints l.marked;
}
