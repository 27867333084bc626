-- The string ends the payload, or the form is not there.
use Rattle.std.proofs.Common.{arith}
use Rattle.channel.specs.Answers as A
use Rattle.channel.specs.Call.{received}
use Rattle.reading.specs.Reads as E
use Rattle.reading.proofs.Forms.{int_is, there, not_there, ends_room}
use Rattle.reading.proofs.read_data.Goals as goal

pub returns-in_err-text : goal.returns-in_err-text
unfolding E.read_of
returns-in_err-text c = let s = rw c.in_err-text.was at c.last_string.ensures in rw c.from_residual.ensures (not_there _ _ s)

pub read_u32-requires : goal.read_u32-requires
read_u32-requires c = let s = rw c.in_ok-text.was at c.last_string.ensures in omega (arith, ends_room c.args.p.now c.args.at s.0)

pub returns : goal.returns
unfolding E.read_of A.message_of
returns c =
    let s = rw c.in_ok-text.was at c.last_string.ensures in
    let a = int_is c.args.p.now 1 _ c.read_u32.ensures in
    there _ s.0 (λ i. received (a i) c.args.kind (s.1 i) (s.2 i))
