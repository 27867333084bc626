-- The sum is tested only where the length can be read.
use Rattle.std.proofs.Common.{arith}
use Rattle.reading.proofs.Forms.{string_is, ends_not}
use Rattle.reading.proofs.last_string.Goals as goal

pub returns-then-p-at : goal.returns-then-p-at
returns-then-p-at c = ends_not c.args.p.now c.args.at (omega arith)

pub returns : goal.returns
returns c = rw c.then_some.ensures (string_is c.args.p.now c.args.at _ (omega arith) c.read_u32-length.ensures)
