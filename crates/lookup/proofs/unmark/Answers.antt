-- `lookup::unmark` meets its contract: the shifted 1 is the bit's power, which a set one holds.
use Rattle.laws.proofs.Marks.{one_shl, set_le}
use Rattle.lookup.proofs.unmark.Goals as goal

pub overflow_sub-result : goal.overflow_sub-result
overflow_sub-result c = rw (one_shl c.args.i c.requires.0) (set_le c.args.used c.args.i c.requires.1)

pub returns : goal.returns
returns c = rw (one_shl c.args.i c.requires.0)
