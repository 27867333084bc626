-- What a caller in another language is told of a call: one reply, and the three lent buffers.
-- Assumes nothing.
use Rattle.std.specs.Prelude.{ℕ, List}
use Rattle.channel.specs.Called.{Outcome}
use Rattle.answers.specs.Numbers.{numbers_of}
use Rattle.exports.specs.declared.Reply.{Reply}

-- what a call leaves
pub record Left : Type 0 where
  pub reply : Reply
  pub queue : List ℕ
  pub staged : List ℕ
  pub sent : List ℕ

abbrev pub left : Reply → List ℕ → List ℕ → List ℕ → Left
left r queue staged sent = record { reply = r; queue = queue; staged = staged; sent = sent }

-- the definition's outcome, as it is told: the answer in numbers, the table as it is
unfoldable pub told : Outcome → Left
told o = left (record { answer = numbers_of o.answer; table = o.state.held }) o.state.queue o.state.staged o.state.sent
