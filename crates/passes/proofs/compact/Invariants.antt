-- The invariant is `Going`, and that of the table nothing but its entries has changed.
use mathlib.Core.Path.{◌≡◌}
use mathlib.Core.Bool.{true}
use Rattle.channel.specs.Raw.{entries_of}
use Rattle.lookup.specs.Update.{filed}
use Rattle.passes.specs.Keep.{Going, keeps}
use Rattle.passes.proofs.compact.Given as goal

abbrev pub invariant-loop-i : goal.invariant-loop-i
invariant-loop-i l = record {
  going : Going l.initial.t.entries l.initial.t.entry_count l.initial.queue l.initial.t.queue_used l.n.0
      (keeps l.n.0 true l.window (entries_of l.initial.t.entry_count l.initial.t.entries l.initial.queue)) l.t.entries l.queue l.i l.k l.off l.to l.w l.live;
  table : l.t ≡ filed l.initial.t l.t.entries l.initial.t.entry_count l.initial.t.queue_used;
}
