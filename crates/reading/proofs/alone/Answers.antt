-- The recipient is read where 5 bytes are there.
use borrow.Author.Tests.{eq-eqb}
use Rattle.reading.proofs.Forms.{int_is}
use Rattle.reading.proofs.alone.Goals as goal

pub returns : goal.returns
returns c = (eq-eqb _ 5 c.if-p-ne5.false, int_is c.args.p.now 1 _ c.read_u32.ensures)
