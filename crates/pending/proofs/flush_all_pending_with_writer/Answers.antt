-- A state that is not sound is refused, and no channel is named.
use Rattle.std.specs.Prelude.{true}
use Rattle.lookup.specs.Out.{route}
use Rattle.pending.proofs.AllLaws.{all_unsound}
use Rattle.pending.proofs.flush_all_pending_with_writer.Goals as goal

pub returns-in_err-test : goal.returns-in_err-test
returns-in_err-test c =
    let m = rw c.in_err-test.was at c.test.ensures.is in
    all_unsound _ (route true c.args.rekey) c.from_residual.result c.from_residual.ensures.1 m
