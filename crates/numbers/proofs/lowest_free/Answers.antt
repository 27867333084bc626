-- The trailing zeros of a complement are the lowest clear bit: below 32 the lowest free place, otherwise none is.
use Rattle.std.proofs.Common.{arith}
use Rattle.laws.proofs.Lowest.{trailing_lowest}
use Rattle.numbers.proofs.LowestFree.{free-at, free-none}
use Rattle.numbers.proofs.lowest_free.Goals as goal

pub returns-then-place-lt32 : goal.returns-then-place-lt32
returns-then-place-lt32 c = free-at c.args.t.now _ (trailing_lowest 32 c.args.t.now.used (omega arith)) c.if-place-lt32.true

pub returns-else-place-lt32 : goal.returns-else-place-lt32
returns-else-place-lt32 c = free-none c.args.t.now _ (trailing_lowest 32 c.args.t.now.used (omega arith)) c.if-place-lt32.false
