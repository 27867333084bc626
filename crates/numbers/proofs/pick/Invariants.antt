-- The outer loop: the number to pick is the first free one from the number tried on, which comes one nearer with each turn. The inner loop:
-- whether the number tried is used is told by the places from i on.
use Rattle.std.proofs.Common.{◌≡◌, drop}
use Rattle.channel.specs.State.{is_used}
use Rattle.channel.specs.Raw.{places_of}
use Rattle.channel.proofs.Numbers.{past, FirstFrom}
use Rattle.numbers.specs.Picks.{pick_of}
use Rattle.numbers.proofs.pick.Given as goal

abbrev pub invariant-loop-i : goal.invariant-loop-i
invariant-loop-i l = record {
  same : l.n ≡ l.initial.n;
  told : is_used l.n (places_of l.t.used l.t.records) ≡ is_used l.n (drop l.i (places_of l.t.used l.t.records));
}

abbrev pub invariant-next : goal.invariant-next
invariant-next l = FirstFrom (places_of l.t.used l.t.records) l.n (pick_of l.t)

abbrev pub decreases-next : goal.decreases-next
decreases-next l = past l.n (pick_of l.t)
