-- Each way is one law.
use Rattle.std.proofs.Common.{sym}
use Rattle.channel.specs.Answers as A
use Rattle.channel.specs.Change as G
use Rattle.channel.specs.Raw as R
use Rattle.ending.proofs.Ways.{handed, close_marked, close_sent}
use Rattle.ending.proofs.close.Goals as goal

pub returns-in_err-place : goal.returns-in_err-place
returns-in_err-place c =
    let refused = rw c.in_err-place.was at c.way_of.ensures in
    handed _ _ c.from_residual.result _ c.from_residual.ensures.1 refused.close_is

pub returns-in-Mark : goal.returns-in-Mark
unfolding A.answer R.zero_record G.with_marks
returns-in-Mark c = sym (close_marked (rw (c.in_ok-place.was, c.in-Mark.is) at c.way_of.ensures))

pub returns-in-Send : goal.returns-in-Send
unfolding A.answer R.zero_record
returns-in-Send c = rw (c.free.ensures, c.put_close.ensures) (sym (close_sent (rw (c.in_ok-place.was, c.in-Send.is) at c.way_of.ensures)))
