-- The invariant is `Framing`; a turn is `frame-go` or `frame_stop` of FlushLaws.
use Rattle.passes.specs.Flush.{Framing}
use Rattle.passes.proofs.frame_pending.Given as goal

abbrev pub invariant-loop-e : goal.invariant-loop-e
invariant-loop-e l = Framing l.c l.t.entries l.t.entry_count l.queue l.start l.initial.dst l.dst l.e-index l.off l.w l.pos
