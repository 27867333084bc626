-- The two integers are read where 9 bytes are there.
use borrow.Author.Tests.{eq-eqb, ne_eqb}
use Rattle.channel.specs.Answers as A
use Rattle.channel.specs.Call.{credit}
use Rattle.reading.specs.Reads as E
use Rattle.reading.proofs.Forms.{int_is, there, not_there}
use Rattle.reading.proofs.read_adjust.Goals as goal

pub returns-then-p-ne9 : goal.returns-then-p-ne9
unfolding E.read_of
returns-then-p-ne9 c = not_there _ _ (ne_eqb _ 9 c.if-p-ne9.true)

pub returns : goal.returns
unfolding E.read_of A.message_of
returns c =
    let p = c.args.p.now in
    let a = int_is p 1 _ c.read_u32.ensures in
    let b = int_is p 5 _ c.read_u32-2.ensures in
    there _ (eq-eqb _ 9 c.if-p-ne9.false) (λ i. credit (a i) (b i))
