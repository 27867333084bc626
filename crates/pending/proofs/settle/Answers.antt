-- By its test.
use Rattle.std.proofs.Common.{sym, ap, ◌∙◌}
use Rattle.lookup.specs.Update.{record_set}
use Rattle.pending.proofs.PlanLaws.{settled_closed, settled_open}
use Rattle.pending.proofs.settle.Goals as goal

pub returns-then-size-c : goal.returns-then-size-c
returns-then-size-c c =
    let a = c.args in
    let t = a.t.now in
    c.free.ensures ∙ sym (settled_closed t a.place a.c.now _ _ c.if-size-c.true)

pub returns-else-size-c : goal.returns-else-size-c
returns-else-size-c c =
    let a = c.args in
    let t = a.t.now in
    ap (record_set t a.place) c.charged.ensures ∙ sym (settled_open t a.place a.c.now _ _ c.if-size-c.false)
