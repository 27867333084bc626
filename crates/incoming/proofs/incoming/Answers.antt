-- By what was read, seen and taken in.
use Rattle.std.proofs.Common.{sym, ap, ◌∙◌}
use Rattle.channel.specs.Answers as A
use Rattle.channel.specs.Called.{outcome}
use Rattle.reading.specs.Reads as E
use Rattle.soundness.proofs.Told.{passed_unsound}
use Rattle.incoming.proofs.Coming.{handed, malformed-is, missed}
use Rattle.incoming.proofs.incoming.Goals as goal

pub returns-in_err-test : goal.returns-in_err-test
returns-in_err-test c = passed_unsound _ _ _ c.from_residual.result c.from_residual.ensures.1 (rw c.in_err-test.was at c.test.ensures.is)

pub returns-in_default : goal.returns-in_default
unfolding A.answer E.read_of
returns-in_default c =
    let sound = rw c.in_ok-test.was at c.test.ensures.is in
    sym (malformed-is _ c.test.ensures.typed sound _ (rw c.in_default.is at c.read_message.ensures))

pub returns-in_err-found : goal.returns-in_err-found
unfolding E.read_of
returns-in_err-found c =
    let m = rw c.recipient.ensures at (rw c.in_err-found.was at c.see.ensures.is) in
    ap (λ a. outcome a c.args.t.now c.args.queue.now c.args.staged.now c.args.sent.now) (handed c.from_residual-in_err-found.result _ c.from_residual-in_err-found.ensures.1)
    ∙ missed c.see.ensures.typed _ m _ (rw c.in-Some.is at c.read_message.ensures)

pub returns-in_err-take : goal.returns-in_err-take
unfolding A.answer E.read_of
returns-in_err-take c =
    let s = rw (c.recipient.ensures, c.in_ok-found.was) at c.see.ensures in
    let k = rw c.in_err-take.was at c.take.ensures in
    ap (λ a. outcome a c.take.new.t c.take.new.queue c.take.new.staged c.args.sent.now) (handed c.from_residual-in_err-take.result _ c.from_residual-in_err-take.ensures.1)
    ∙ k _ s _ (rw c.in-Some.is at c.read_message.ensures)

pub returns : goal.returns
unfolding A.answer E.read_of
returns c =
    let s = rw (c.recipient.ensures, c.in_ok-found.was) at c.see.ensures in
    let k = rw c.in_ok-take.was at c.take.ensures in
    k _ s _ (rw c.in-Some.is at c.read_message.ensures)
