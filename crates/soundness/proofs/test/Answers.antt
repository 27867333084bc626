-- What was looked up, less the record.

use Rattle.soundness.proofs.Told.{sound_in, tested_unsound}
use Rattle.soundness.proofs.test.Goals as goal

pub returns-in_err-look_up : goal.returns-in_err-look_up
returns-in_err-look_up c = record { is = tested_unsound _ c.from_residual.result c.from_residual.ensures.1 (rw c.in_err-look_up.was at c.look_up.ensures.is); typed = c.look_up.ensures.typed }

pub returns : goal.returns
returns c = record { is = sound_in _ _ _ (rw c.in_ok-look_up.was at c.look_up.ensures.is); typed = c.look_up.ensures.typed }
