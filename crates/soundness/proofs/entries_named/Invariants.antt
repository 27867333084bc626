-- What holds of all the entries, by those from the index on.
use Rattle.std.proofs.Common.{◌≡◌, ◌+◌, ◌-◌, ◌*◌, ◌≤◌, ◌||◌, length, drop}
use Rattle.channel.specs.State.{any_entry, numbers_in_all}
use Rattle.channel.specs.Sound.{all_named, sum_left}
use Rattle.soundness.specs.Tested.{places_in, listed}
use Rattle.soundness.proofs.entries_named.Given as goal

abbrev pub invariant-loop-e : goal.invariant-loop-e
invariant-loop-e l = record {
  small : l.sum ≤ numbers_in_all * l.e-index;
  named : all_named (places_in l.t) (listed l.entries) ≡ all_named (places_in l.t) (drop l.e-index (listed l.entries));
  sum : sum_left (length l.entries) l.entries ≡ l.sum + sum_left (length l.entries - l.e-index) (drop l.e-index l.entries);
  waits : any_entry l.n.0 (listed l.entries) ≡ l.waits || any_entry l.n.0 (drop l.e-index (listed l.entries));
}
