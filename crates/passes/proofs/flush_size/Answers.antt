-- The invariant is `Sizing`; a turn is `size_go` or `size_stop` of FlushLaws, and `size_room` keeps the sums in range.
use Rattle.std.proofs.Common.{sym, ◌∙◌, arith}
use Rattle.passes.proofs.FlushLaws.{at_used, size_go, size_stop, size_room, size_end}
use Rattle.passes.proofs.flush_size.Goals as goal

pub overflow_add-size : goal.overflow_add-size
overflow_add-size c =
    let e = at_used c.args.t.now.entries c.args.t.now.entry_count c.loop-e.e-index (omega arith) in
    omega (arith, (size_room (omega arith) c.requires.3 c.loop-e.invariant (omega arith) _ _ (rw e at c.taken-m.ensures.value) (rw e at c.run_size-size.ensures)).0)

pub overflow_add-wrote : goal.overflow_add-wrote
overflow_add-wrote c =
    let e = at_used c.args.t.now.entries c.args.t.now.entry_count c.loop-e.e-index (omega arith) in
    omega (arith, (size_room (omega arith) c.requires.3 c.loop-e.invariant (omega arith) _ _ (rw e at c.taken-m.ensures.value) (rw e at c.run_size-size.ensures)).1)

pub returns-then-stops : goal.returns-then-stops
returns-then-stops c =
    let e = at_used c.args.t.now.entries c.args.t.now.entry_count c.loop-e.e-index (omega arith) in
    sym (size_stop (omega arith) c.requires.3 c.loop-e.invariant (omega arith) _ _ (rw e at c.taken-m.ensures.value) (rw e at c.run_size-size.ensures) (rw e at (sym c.stops.ensures ∙ c.if-stops.true)))

pub loop-e-preserved : goal.loop-e-preserved
loop-e-preserved c =
    let e = at_used c.args.t.now.entries c.args.t.now.entry_count c.loop-e.e-index (omega arith) in
    size_go (omega arith) c.requires.3 c.loop-e.invariant (omega arith) _ _ (rw e at c.taken-m.ensures.value) (rw e at c.run_size-size.ensures) (rw e at (sym c.stops.ensures ∙ c.if-stops.false))

pub returns : goal.returns
returns c = size_end c.loop-e.invariant (omega arith)
