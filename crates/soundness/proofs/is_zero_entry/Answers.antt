-- The tests, one after the other, are the definition's list.
use Rattle.lookup.proofs.Walk.{zero-entry_flat}
use Rattle.soundness.proofs.is_zero_entry.Goals as goal

pub returns : goal.returns
returns c = zero-entry_flat _
