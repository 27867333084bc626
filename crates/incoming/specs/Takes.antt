-- What taking a message in comes to: for its record, and over the code's state.
-- Assumes nothing.
use Rattle.std.specs.Prelude.{ℕ, ◌≡◌, cond, List, Result, Ok, Err}
use Rattle.channel.specs.declared.Message as M
use Rattle.channel.specs.declared.Confirmation.{Confirmation}
use Rattle.channel.specs.declared.Record.{Record}
use Rattle.channel.specs.declared.Table.{Table}
use Rattle.channel.specs.declared.Refusal.{Refusal}
use Rattle.channel.specs.Call.{Answer, gave, message, act, incoming}
use Rattle.channel.specs.Change.{confirm}
use Rattle.channel.specs.Raw.{Raw}
use Rattle.channel.specs.Read.{reads, read_message}
use Rattle.channel.specs.Called.{Outcome, called, lent, outcome}
use Rattle.channel.specs.Answers.{message_of, to_whom, answer}
use Rattle.soundness.specs.declared.Found.{Found}
use Rattle.soundness.specs.Sees.{Sees}
use Rattle.credit.specs.Credit.{credit_answer, credit_record}

-- what an act on one record answers, and the record that it leaves
pub record After : Type 0 where
  pub answer : Result (Unit {0}) Refusal
  pub left : Record

abbrev pub after : Result (Unit {0}) Refusal → Record → After
after a c = record { answer = a; left = c }

abbrev pub done : Record → After
done c = after (Ok tt) c

abbrev pub refused : Refusal → Record → After
refused k c = after (Err k) c

-- A RECORD after a 91 and a 93, and what it answers to a 94, 95 or 96

unfoldable pub confirming : Record → Confirmation → After
confirming c m = cond c.confirmed (refused Refusal.Already c) (done (confirm c m.sender.0 m.window m.limit))

unfoldable pub crediting : Record → ℕ → After
crediting c add = cond c.confirmed (after (credit_answer c add) (credit_record c add)) (refused Refusal.Unconfirmed c)

unfoldable pub hearing : Record → Result (Unit {0}) Refusal
hearing c = cond c.confirmed (Ok tt) (Err Refusal.Unconfirmed)

-- THE STATE

-- the answer of a call that took the message in, or why it is refused
abbrev pub heard : M.Message → Result (Unit {0}) Refusal → Answer
heard m r = answer (λ u. gave (message (message_of m))) r

-- that is what any payload that reads as the message comes to
abbrev pub Comes : Raw → M.Message → Outcome → Type 0
Comes r m o = (p : List ℕ) → reads (message_of m) ≡ read_message p → o ≡ called r (act (incoming p))

-- the channel's record was seen, whatever stands in sent
abbrev pub Seen : Table → List ℕ → List ℕ → ℕ → Found → Type 0
Seen t queue staged n f = (sent : List ℕ) × Sees (lent t queue staged sent) n (Ok f)

-- the message was taken in, whatever stands in sent, which stays
abbrev pub Takes : Table → List ℕ → List ℕ → Found → M.Message → Result (Unit {0}) Refusal → Table → List ℕ → List ℕ → Type 0
Takes t queue staged f m answer new_t new_queue new_staged =
    (sent : List ℕ) → Sees (lent t queue staged sent) (to_whom m) (Ok f)
    → Comes (lent t queue staged sent) m (outcome (heard m answer) new_t new_queue new_staged sent)
