-- What the caller is told of a call whose answer is in numbers, and that one call goes on from the other.
-- Assumes nothing.
use Rattle.std.proofs.Common.{◌≡◌, ℕ, List, refl, ap, ◌∙◌}
use Rattle.channel.specs.declared.Table.{Table}
use Rattle.channel.specs.Call.{Answer}
use Rattle.channel.specs.Called.{Outcome, lent, outcome}
use Rattle.answers.specs.declared.Numbers.{Numbers}
use Rattle.answers.specs.Numbers.{numbers_of}
use Rattle.exports.specs.declared.Reply.{Reply}
use Rattle.exports.specs.Told.{Left, left, told}

-- an outcome that the code gives back, as it is told
told_is : (a : Answer) (t : Table) (q s x : List ℕ) → left (record { answer = numbers_of a; table = t }) q s x ≡ told (outcome a t q s x)
unfolding told
told_is a t q s x = refl

-- the call below, with its answer in numbers, is what the caller is told
pub answered : {a : Answer} {t : Table} {q s x : List ℕ} {o : Outcome} {n : Numbers} → outcome a t q s x ≡ o → n ≡ numbers_of a
    → left (record { answer = n; table = t }) q s x ≡ told o
answered {a} {t} {q} {s} {x} call numbers =
    ap (λ (m : Numbers). left (record { answer = m; table = t }) q s x) numbers ∙ told_is a t q s x ∙ ap told call

-- a reply's table, given back with the same buffers, is the definition's state after the call
pub goes_on : (r : Reply) (q s x : List ℕ) (o : Outcome) → left r q s x ≡ told o → lent r.table q s x ≡ o.state
unfolding told
goes_on r q s x o e = ap (λ (l : Left). lent l.reply.table l.queue l.staged l.sent) e
