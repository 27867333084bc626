-- The code is read where 9 bytes are there, as the form asks.
use Rattle.std.proofs.Common.{ap, ◌∙◌, arith}
use Rattle.channel.specs.declared.Kind.TheVariants.{Extended}
use Rattle.reading.specs.Reads.{received_at}
use Rattle.reading.specs.Reads as E
use Rattle.reading.proofs.Forms.{int_is, not_there, ends_not}
use Rattle.reading.proofs.read_extended.Goals as goal

pub returns-then-p-lt9 : goal.returns-then-p-lt9
unfolding E.read_of
returns-then-p-lt9 c = not_there _ _ (ends_not c.args.p.now 9 (omega arith))

pub returns : goal.returns
returns c = c.read_data.ensures ∙ ap (λ x. received_at c.args.p.now (Extended x) 9) (int_is c.args.p.now 5 _ c.read_u32.ensures)
