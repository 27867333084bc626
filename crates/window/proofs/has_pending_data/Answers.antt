-- Each way out is one law, by what was looked up.
use Rattle.std.proofs.Common.{rules, sym}
use Rattle.channel.specs.Answers as A
use Rattle.soundness.proofs.Told.{passed_unsound}
use Rattle.window.proofs.Ways.{pending_of}
use Rattle.window.proofs.has_pending_data.Goals as goal

pub returns-in_err-found : goal.returns-in_err-found
returns-in_err-found c = passed_unsound _ _ _ c.from_residual.result c.from_residual.ensures.1 (rw c.in_err-found.was at c.look_up.ensures.is)

pub returns : goal.returns
unfolding A.answer
returns c = sym (pending_of c.look_up.ensures.typed _ _ (rw c.in_ok-found.was at c.look_up.ensures.is) _ _ (λ f k. search rules) c.is_some_and.ensures)
