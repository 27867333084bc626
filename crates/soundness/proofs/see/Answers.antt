-- What was looked up, with a refusal where there is none.
use Rattle.soundness.specs.Sees.{unknown}
use Rattle.soundness.proofs.Told.{seen_unsound}
use Rattle.soundness.proofs.see.Goals as goal

pub returns-in_err-found : goal.returns-in_err-found
returns-in_err-found c =
    record { is = seen_unsound _ _ c.from_residual.result c.from_residual.ensures.1 (rw c.in_err-found.was at c.look_up.ensures.is); typed = c.look_up.ensures.typed }

pub returns-in-None : goal.returns-in-None
returns-in-None c =
    let found = rw c.in_ok-found.was at c.look_up.ensures.is in
    let none = rw c.in-None.is at found in
    record { is = unknown none.0 none.1; typed = c.look_up.ensures.typed }
