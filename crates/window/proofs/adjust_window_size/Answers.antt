-- Each way out is one law, by what was seen and tested.
use Rattle.std.proofs.Common.{sym, arith}
use Rattle.std.proofs.lemmas.List.{set-get_or}
use Rattle.channel.specs.Answers as A
use Rattle.channel.specs.Change as G
use Rattle.channel.specs.Raw as R
use Rattle.lookup.proofs.Limits.{limits}
use Rattle.soundness.proofs.Told.{passed_on, unconfirmed}
use Rattle.window.proofs.Ways.{asks, kept, full, filled}
use Rattle.window.proofs.adjust_window_size.Goals as goal

pub returns-in_err-found : goal.returns-in_err-found
returns-in_err-found c =
    let m = rw c.in_err-found.was at c.see.ensures.is in
    passed_on c.see.ensures.typed (asks _ _ _ _) _ c.from_residual.result c.from_residual.ensures.1 m

pub returns-then-not-record : goal.returns-then-not-record
unfolding A.answer R.zero_record
returns-then-not-record c =
    let h = rw c.in_ok-found.was at c.see.ensures.is in
    rw set-get_or (sym (unconfirmed c.see.ensures.typed (asks _ _ _ _) h c.if-not-record.true))

pub returns-then-window-target : goal.returns-then-window-target
unfolding A.answer R.zero_record G.with_window
returns-then-window-target c =
    let h = rw c.in_ok-found.was at c.see.ensures.is in
    sym (kept c.see.ensures.typed h c.if-not-record.false c.args.n c.args.target c.charge-window.result c.charge-window.ensures c.if-window-target.true)

pub overflow_sub-rest : goal.overflow_sub-rest
overflow_sub-rest c =
    let h = rw c.in_ok-found.was at c.see.ensures.is in
    (limits _ h.sound).staged_used

pub returns-then-rest-lt13 : goal.returns-then-rest-lt13
unfolding A.answer R.zero_record
returns-then-rest-lt13 c =
    let h = rw c.in_ok-found.was at c.see.ensures.is in
    rw set-get_or
    (sym (full c.see.ensures.typed h c.if-not-record.false c.args.n c.args.target c.charge-window.result c.charge-window.ensures c.if-window-target.false
    (omega (arith, (limits _ h.sound).staged_used))))

pub returns : goal.returns
unfolding A.answer R.zero_record G.with_window
returns c =
    let h = rw c.in_ok-found.was at c.see.ensures.is in
    rw c.put_adjust.ensures
    (sym (filled c.see.ensures.typed h c.if-not-record.false c.args.n c.args.target c.charge-window.result c.charge-window.ensures c.if-window-target.false
    (omega (arith, (limits _ h.sound).staged_used))))
