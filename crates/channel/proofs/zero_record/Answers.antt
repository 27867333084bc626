-- `channel::zero_record` meets its contract: it writes the fields of the definition.
use mathlib.Core.Path.{refl}
use Rattle.channel.specs.Raw.{zero_record}
use Rattle.channel.proofs.zero_record.Goals as goal

pub returns : goal.returns
unfolding zero_record
returns c = refl
