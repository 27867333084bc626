-- The invariant is `Framing`; a turn is `frame-go` or `frame_stop` of FlushLaws.
use Rattle.std.proofs.Common.{sym, ap, ◌∙◌, arith}
use Rattle.passes.proofs.FlushLaws.{at_used, m_left, f_sums, frame-fits, frame-go, frame_stop, frame-end}
use Rattle.passes.proofs.frame_pending.Goals as goal

pub slice_bounds-put_run-end : goal.slice_bounds-put_run-end
slice_bounds-put_run-end c =
    let e = at_used c.args.t.now.entries c.args.t.now.entry_count c.loop-e.e-index (omega arith) in
    let b = c.requires.base in
    let hl = c.requires.room.1 in
    omega (arith, b.fits, f_sums b hl c.loop-e.invariant (omega arith) _ (rw e at c.taken-m.ensures.value), m_left b hl c.loop-e.invariant (omega arith) _ (rw e at c.taken-m.ensures.value))

pub put_run-pos-requires : goal.put_run-pos-requires
put_run-pos-requires c =
    let e = at_used c.args.t.now.entries c.args.t.now.entry_count c.loop-e.e-index (omega arith) in
    let p = c.requires.room in
    let g = c.loop-e.invariant in
    (p.1, omega (arith, p.0, g.same), rw (c.into.ensures, e) (omega (arith, frame-fits c.requires.base p.1 g (omega arith) _ (rw e at c.taken-m.ensures.value), p.2, g.same)))

pub returns-then-stops : goal.returns-then-stops
returns-then-stops c =
    let e = at_used c.args.t.now.entries c.args.t.now.entry_count c.loop-e.e-index (omega arith) in
    let r = c.put_run-pos in
    let k = c.into.ensures in
    let h = frame_stop c.requires.base c.requires.room.1 c.loop-e.invariant (omega arith) _ (rw e at c.taken-m.ensures.value) _ _ (rw e at (sym c.stops.ensures ∙ c.if-stops.true)) (rw (k, e) at r.ensures.dst_after) (rw (k, e) at r.ensures.value) in
    record { dst_after = h.0; value = h.1 }

pub loop-e-preserved : goal.loop-e-preserved
loop-e-preserved c =
    let e = at_used c.args.t.now.entries c.args.t.now.entry_count c.loop-e.e-index (omega arith) in
    let r = c.put_run-pos in
    let k = c.into.ensures in
    frame-go c.requires.base c.requires.room.1 c.loop-e.invariant (omega arith) _ (rw e at c.taken-m.ensures.value) _ _ _ (ap (λ x. x.left) e)
    (rw e at (sym c.stops.ensures ∙ c.if-stops.false)) (rw (k, e) at r.ensures.dst_after) (rw (k, e) at r.ensures.value)

pub returns : goal.returns
returns c = let h = frame-end c.loop-e.invariant (omega arith) in record { dst_after = h.0; value = h.1 }
