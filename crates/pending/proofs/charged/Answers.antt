-- It stores what `charged_by` says.
use mathlib.Core.Path.{refl}
use Rattle.channel.specs.Change as G
use Rattle.pending.specs.Plan.{charged_by}
use Rattle.pending.proofs.charged.Goals as goal

pub returns : goal.returns
unfolding charged_by G.with_marks G.with_peer_window
returns c = refl
