-- `lookup::mark` meets its contract: the shifted 1 is the bit's power, and a clear one fits.
use Rattle.laws.proofs.Marks.{one_shl, clear_lt}
use Rattle.lookup.proofs.mark.Goals as goal

pub overflow_add-result : goal.overflow_add-result
overflow_add-result c =
    let a = c.args in
    rw (one_shl a.i c.requires.0) (record { fits = clear_lt 32 a.i a.used c.requires.0 c.ranges.used.fits c.requires.1 })

pub returns : goal.returns
returns c = rw (one_shl c.args.i c.requires.0)
