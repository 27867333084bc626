-- Each way out is one law, by what was looked up.
use Rattle.std.proofs.Common.{sym}
use Rattle.channel.specs.Answers as A
use Rattle.channel.specs.Raw as R
use Rattle.soundness.proofs.Told.{passed_unsound}
use Rattle.window.proofs.Ways.{window-none, window-found}
use Rattle.window.proofs.sender_window_size.Goals as goal

pub returns-in_err-found : goal.returns-in_err-found
returns-in_err-found c = passed_unsound _ _ _ c.from_residual.result c.from_residual.ensures.1 (rw c.in_err-found.was at c.look_up.ensures.is)

pub returns-in-Some : goal.returns-in-Some
unfolding A.answer R.zero_record
returns-in-Some c =
    let found = rw c.in_ok-found.was at c.look_up.ensures.is in
    sym (window-found c.look_up.ensures.typed (rw c.in-Some.is at found))

pub returns-in-None : goal.returns-in-None
unfolding A.answer
returns-in-None c =
    let found = rw c.in_ok-found.was at c.look_up.ensures.is in
    let none = rw c.in-None.is at found in
    sym (window-none c.look_up.ensures.typed none.0 _ none.1)
