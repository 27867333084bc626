-- Each way out is one law, by what was seen and tested.
use Rattle.std.proofs.Common.{arith}
use Rattle.channel.specs.Answers as A
use Rattle.channel.specs.Raw as R
use Rattle.lookup.proofs.Limits.{limits}
use Rattle.passes.proofs.Rows.{base_of}
use Rattle.incoming.proofs.Closing.{unconfirmed, full, empty, drops}
use Rattle.incoming.proofs.take_close.Goals as goal

pub returns-then-not-record : goal.returns-then-not-record
unfolding A.to_whom R.zero_record
returns-then-not-record c = λ sent s. unconfirmed c.args.n s c.if-not-record.true

pub overflow_sub-rest : goal.overflow_sub-rest
overflow_sub-rest c = (limits _ c.requires.1.is.sound).staged_used

pub returns-then-rest-lt9 : goal.returns-then-rest-lt9
unfolding A.to_whom R.zero_record
returns-then-rest-lt9 c = λ sent s. full c.args.n s c.if-not-record.false (omega (arith, (limits _ s.is.sound).staged_used))

pub compact-requires : goal.compact-requires
compact-requires c = rw c.free.ensures (base_of _ c.requires.1.typed c.requires.1.is.sound)

pub returns-then-found : goal.returns-then-found
unfolding A.to_whom R.zero_record
returns-then-found c =
    rw (c.compact.ensures.table_after, c.compact.ensures.queue_after, c.put_close.ensures, c.free.ensures)
    (λ sent s. drops c.args.n s c.if-not-record.false (omega (arith, (limits _ s.is.sound).staged_used)))

pub returns-else-found : goal.returns-else-found
unfolding A.to_whom R.zero_record
returns-else-found c =
    rw (c.put_close.ensures, c.free.ensures)
    (λ sent s. empty c.args.n s c.if-not-record.false (omega (arith, (limits _ s.is.sound).staged_used)) c.if-found.false)
