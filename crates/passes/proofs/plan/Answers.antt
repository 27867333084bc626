-- The sizes are those of the flush, by `sizes_by`.
use Rattle.std.proofs.Common.{◌≡◌, refl, sym, ap, ◌∙◌, false, take, arith}
use Rattle.passes.specs.Flush.{stuck_by}
use Rattle.passes.specs.Pass.{PlannedBy}
use Rattle.passes.proofs.FlushLaws.{sizes_le}
use Rattle.passes.proofs.PassLaws.{positive_limit, stuck_is, sizes_by}
use Rattle.passes.proofs.plan.Goals as goal

pub returns-then-stuck : goal.returns-then-stuck
unfolding PlannedBy
returns-then-stuck c =
    let a = c.args in
    (sym (stuck_is c.args.c.now a.t.now a.queue.now c.requires.base) ∙ sym c.stuck.ensures ∙ c.if-stuck.true, refl)

pub flush_size-requires : goal.flush_size-requires
flush_size-requires c =
    let p = c.requires in
    (p.base.places, p.base.few, omega (arith, p.base.total, p.queue_used_bound), rw c.positive.ensures (positive_limit _))

pub returns : goal.returns
unfolding PlannedBy
returns c =
    let a = c.args in
    let t = a.t.now in
    let k = c.args.c.now in
    let d = c.positive in
    let st : stuck_by k (take t.entry_count t.entries) ≡ false = sym c.stuck.ensures ∙ c.if-stuck.false in (
      sym (stuck_is k t a.queue.now c.requires.base) ∙ st,
      sizes_by k t a.queue.now c.requires.base st d.result c.flush_size.result d.ensures c.flush_size.ensures,
      omega (arith, ap (λ x. x.size) c.flush_size.ensures, (sizes_le t.entry_count d.result d.result.recipient_window_size t.entries (rw d.ensures (positive_limit _))).0, c.requires.base.total, c.requires.queue_used_bound),
    )
