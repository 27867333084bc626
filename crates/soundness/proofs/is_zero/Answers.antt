-- The tests, one after the other, are the definition's list.
use Rattle.lookup.proofs.Walk.{zero_flat}
use Rattle.soundness.proofs.is_zero.Goals as goal

pub returns : goal.returns
returns c = zero_flat _
