-- The part is as long as what is in use from k on.
use Rattle.std.proofs.Common.{◌-◌, ap, arith}
use Rattle.lookup.specs.Update.{filed}
use Rattle.passes.proofs.KeepLaws.{sets_filled}
use Rattle.passes.proofs.clear_from.Goals as goal

pub returns : goal.returns
returns c =
    let t = c.args.t.now in
    ap (λ es. filed t es t.entry_count t.queue_used)
    (sets_filled c.args.k (t.entry_count - c.args.k) _ t.entries _ (rw c.zero_entry.ensures at c.fill.ensures.after (λ y e. e)) (omega arith))
