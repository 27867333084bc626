-- The first string ends where the second one begins, and that one ends the payload.
use Rattle.std.proofs.Common.{arith}
use Rattle.channel.specs.Answers as A
use Rattle.reading.specs.Reads as E
use Rattle.reading.proofs.Forms.{int_is, failure_there, failure-cut, failure_short}
use Rattle.reading.proofs.read_failure.Goals as goal

pub returns-then-p-lt13 : goal.returns-then-p-lt13
unfolding E.read_of
returns-then-p-lt13 c = failure_short c.args.p.now (omega arith)

pub returns-in_err-language : goal.returns-in_err-language
unfolding E.read_of
returns-in_err-language c =
    let p = c.args.p.now in
    let s = rw c.in_err-language.was at c.last_string.ensures in
    rw c.from_residual.ensures (failure-cut p _ (int_is p 9 _ c.read_u32-length.ensures) s)

pub returns : goal.returns
unfolding E.read_of A.message_of
returns c =
    let p = c.args.p.now in
    let s = rw c.in_ok-language.was at c.last_string.ensures in
    failure_there p _ (int_is p 9 _ c.read_u32-length.ensures) (omega arith) (int_is p 1 _ c.read_u32.ensures) (int_is p 5 _ c.read_u32-2.ensures) s.0 s.1 s.2
