-- The invariant is `Sizing`; a turn is `size_go` or `size_stop` of FlushLaws, and `size_room` keeps the sums in range.
use Rattle.passes.specs.Flush.{Sizing}
use Rattle.passes.proofs.flush_size.Given as goal

abbrev pub invariant-loop-e : goal.invariant-loop-e
invariant-loop-e l = Sizing l.c l.t.entries l.t.entry_count l.e-index l.w l.wrote l.size
