-- `channel::zero_entry` meets its contract: it writes the fields of the definition.
use mathlib.Core.Path.{refl}
use Rattle.channel.specs.Raw.{zero_entry}
use Rattle.channel.proofs.zero_entry.Goals as goal

pub returns : goal.returns
unfolding zero_entry
returns c = refl
