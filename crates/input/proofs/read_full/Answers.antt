-- What one read put after the bytes that stood there goes on from them.
use Rattle.input.proofs.Consumed.{filled_more}
use Rattle.input.proofs.read_full.Goals as goal

pub loop-at-preserved : goal.loop-at-preserved
loop-at-preserved g c =
    let read = c.in_ok-n.ensures in
    (read.within, filled_more _ _ _ c.loop-at.buf c.read_at.new.buf c.loop-at.at c.in_ok-n.n read.front c.loop-at.invariant.1 read.bytes)
