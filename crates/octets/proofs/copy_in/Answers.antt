-- One byte more is stored, and at last every one.
use mathlib.Core.Path.{sym, ◌∙◌}
use native.Mathlib.Omega.{arith}
use Rattle.octets.proofs.Laws.{write_step, write_end}
use Rattle.octets.proofs.copy_in.Goals as goal

pub loop-i-preserved : goal.loop-i-preserved
loop-i-preserved c = c.loop-i.invariant ∙ write_step _ _ _ _ c.loop-i-test.true

pub returns : goal.returns
returns c = sym (c.loop-i.invariant ∙ write_end _ _ _ _ (omega arith))
