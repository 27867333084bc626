-- The four integers are read where 17 bytes are there.
use Rattle.std.proofs.Common.{length, arith}
use borrow.Author.Tests.{le-leb, lt-leb}
use Rattle.channel.specs.Answers as A
use Rattle.channel.specs.Call.{confirmation}
use Rattle.reading.specs.Reads as E
use Rattle.reading.proofs.Forms.{int_is, there, not_there}
use Rattle.reading.proofs.read_confirmation.Goals as goal

pub returns-then-p-lt17 : goal.returns-then-p-lt17
unfolding E.read_of
returns-then-p-lt17 c = not_there _ _ (lt-leb 17 (length c.args.p.now) (omega arith))

pub returns : goal.returns
unfolding E.read_of A.message_of
returns c =
    let p = c.args.p.now in
    let a = int_is p 1 _ c.read_u32.ensures in
    let b = int_is p 5 _ c.read_u32-2.ensures in
    let d = int_is p 9 _ c.read_u32-3.ensures in
    let e = int_is p 13 _ c.read_u32-4.ensures in
    there _ (le-leb 17 (length p) (omega arith)) (λ i. confirmation (a i) (b i) (d i) (e i))
