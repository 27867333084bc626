-- The bytes moved down and the zeros behind them are the closed buffer, by closed_by.
use Prim.Native.Nat.{◌-◌}
use native.Mathlib.Omega.{arith}
use Rattle.octets.proofs.Laws.{closed_by}
use Rattle.octets.proofs.close_gap.Goals as goal

pub returns : goal.returns
returns c = let a = c.args in
    closed_by a.used a.at a.n (a.used - a.at - a.n) a.buf.now (omega arith) (omega arith) c.move_down.ensures c.put_zeros.ensures
