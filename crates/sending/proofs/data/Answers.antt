use Rattle.std.proofs.Common.{refl, false}
use Rattle.sending.proofs.data.Goals as goal

pub returns : goal.returns
returns c = c.send.ensures false refl
