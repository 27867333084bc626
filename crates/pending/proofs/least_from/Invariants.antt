-- What the rest of the entries leaves of the best so far is the whole answer.
use mathlib.Core.Path.{◌≡◌}
use lib.ListN.{take}
use Rattle.pending.specs.All.{least_from, none_yet, best_of}
use Rattle.passes.proofs.FlushLaws.{ahead}
use Rattle.pending.proofs.least_from.Given as goal

abbrev pub invariant-loop-e : goal.invariant-loop-e
invariant-loop-e l = least_from l.from none_yet (take l.t.entry_count l.t.entries) ≡ least_from l.from (best_of l.best) (ahead l.t.entries l.t.entry_count l.e-index)
