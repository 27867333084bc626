-- What was not found is a refusal.
use Rattle.std.specs.Prelude.{true}
use Rattle.channel.specs.Answers as A
use Rattle.lookup.specs.Out.{route}
use Rattle.pending.proofs.CallLaws.{passed_on}
use Rattle.pending.proofs.flush_pending_with_writer.Goals as goal

pub returns-in_err-found : goal.returns-in_err-found
returns-in_err-found c =
    let m = rw c.in_err-found.was at c.see.ensures.is in
    passed_on _ c.see.ensures.typed (route true c.args.rekey) c.args.n.0 A.flush_is c.from_residual.result c.from_residual.ensures.1 m
