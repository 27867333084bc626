-- What the rest of the entries leaves of the best so far is the whole answer.
use Rattle.std.proofs.Common.{sym, ap, ◌∙◌, ◌+◌, arith}
use Rattle.pending.specs.All.{least_from, best_of}
use Rattle.passes.proofs.FlushLaws.{ahead, at_used}
use Rattle.pending.proofs.AllLaws.{least_cons, least_none}
use Rattle.pending.proofs.least_from.Goals as goal

pub loop-e-preserved : goal.loop-e-preserved
loop-e-preserved c =
    let t = c.args.t.now in
    let l = c.loop-e in
    l.invariant
    ∙ least_cons c.args.from (best_of l.best) t.entries t.entry_count l.e-index (omega arith) (omega arith)
    ∙ ap (λ b. least_from c.args.from b (ahead t.entries t.entry_count (l.e-index + 1))) (sym (rw (at_used t.entries t.entry_count l.e-index (omega arith)) at c.nearer-best.ensures))

pub returns : goal.returns
returns c =
    let t = c.args.t.now in
    let l = c.loop-e in
    sym (l.invariant ∙ least_none c.args.from (best_of l.best) t.entries t.entry_count l.e-index (omega arith))
