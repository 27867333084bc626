-- Each message is one law.
use Rattle.channel.specs.Answers as A
use Rattle.channel.specs.Raw as R
use Rattle.incoming.specs.Takes.{after}
use Rattle.incoming.proofs.Taking.{confirms, already, fails, credits, hears_either}
use Rattle.incoming.proofs.take.Goals as goal

pub returns-in-OpenConfirmation : goal.returns-in-OpenConfirmation
unfolding A.to_whom R.zero_record
returns-in-OpenConfirmation c = rw c.in-OpenConfirmation.is (λ sent s. confirms _ s (after c.confirm.result c.confirm.new.r) c.confirm.ensures)

pub returns-then-t-found : goal.returns-then-t-found
unfolding A.to_whom R.zero_record
returns-then-t-found c = rw c.in-OpenFailure.is (λ sent s. already _ s c.if-t-found.true)

pub returns-else-t-found : goal.returns-else-t-found
unfolding A.to_whom R.zero_record
returns-else-t-found c = rw (c.in-OpenFailure.is, c.free.ensures) (λ sent s. fails _ s c.if-t-found.false)

pub returns-in-WindowAdjust : goal.returns-in-WindowAdjust
unfolding A.to_whom R.zero_record
returns-in-WindowAdjust c = rw c.in-WindowAdjust.is (λ sent s. credits _ s (after c.take_credit.result c.take_credit.new.r) c.take_credit.ensures)

pub take_close-requires : goal.take_close-requires
unfolding A.to_whom
take_close-requires c = rw c.in-Close.is at c.requires

pub returns-in-Data : goal.returns-in-Data
unfolding R.zero_record
returns-in-Data c = λ sent s. hears_either c.in-Data.is s _ c.hear.ensures
