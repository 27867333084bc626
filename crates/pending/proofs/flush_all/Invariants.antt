-- What is left to flush, flushed in the present state, is the whole.
use Prim.Native.Nat.{◌-◌, ◌≤◌}
use Rattle.lookup.specs.Out.{route}
use Rattle.pending.specs.All.{Passed}
use Rattle.pending.specs.Plan.{sent_by}
use Rattle.pending.proofs.flush_all.Given as goal

abbrev pub invariant-loop-n : goal.invariant-loop-n
invariant-loop-n l = record {
  passed : Passed (route l.form.writer l.form.rekey) (sent_by l.form.writer l.initial.t l.initial.queue l.initial.staged l.initial.out l.kept) (sent_by l.form.writer l.t l.queue l.staged l.out l.kept) l.from;
  in_range : l.from ≤ 4294967296;
}

abbrev pub decreases-loop-n : goal.decreases-loop-n
decreases-loop-n l = 4294967296 - l.from
