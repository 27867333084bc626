-- Each way out is one law, by what was seen and tested.
use Rattle.std.proofs.Common.{arith}
use Rattle.channel.specs.Raw as R
use Rattle.lookup.proofs.Limits.{limits}
use Rattle.ending.proofs.Ways.{both_missed, both_unconfirmed, both_full, way_refused}
use Rattle.ending.proofs.way_of.Goals as goal

pub returns-in_err-found : goal.returns-in_err-found
returns-in_err-found c =
    let m = rw c.in_err-found.was at c.see.ensures.is in
    way_refused _ _ c.from_residual.result c.from_residual.ensures.1 (both_missed c.see.ensures.typed m)

pub returns-then-not-record : goal.returns-then-not-record
unfolding R.zero_record
returns-then-not-record c =
    let h = rw c.in_ok-found.was at c.see.ensures.is in
    both_unconfirmed c.see.ensures.typed h c.if-not-record.true

pub overflow_sub-rest : goal.overflow_sub-rest
overflow_sub-rest c =
    let h = rw c.in_ok-found.was at c.see.ensures.is in
    (limits _ h.sound).staged_used

pub returns-then-rest-lt9 : goal.returns-then-rest-lt9
unfolding R.zero_record
returns-then-rest-lt9 c =
    let h = rw c.in_ok-found.was at c.see.ensures.is in
    both_full (record { typed = c.see.ensures.typed; found = rw c.if-found.false at h; confirmed = c.if-not-record.false })
    (omega (arith, (limits _ h.sound).staged_used))
