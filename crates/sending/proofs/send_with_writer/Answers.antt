use Rattle.std.proofs.Common.{sym, true}
use borrow.Author.Tests.{eq-eqb, ne_eqb}
use Rattle.sending.proofs.send_with_writer.Goals as goal

pub returns-then-t-eq0 : goal.returns-then-t-eq0
returns-then-t-eq0 c = c.send.ensures true (sym (eq-eqb c.args.t.now.staged_used 0 c.if-t-eq0.true))

pub returns-else-t-eq0 : goal.returns-else-t-eq0
returns-else-t-eq0 c = c.send-else-t-eq0.ensures true (sym (ne_eqb c.args.t.now.staged_used 0 c.if-t-eq0.false))
