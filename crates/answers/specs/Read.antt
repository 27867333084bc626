-- The answer that a reply's numbers stand for, given what kind of answer the call has.
-- Assumes nothing.
use Rattle.std.specs.Prelude.{ℕ, Bool, cond, eqb, get_or}
use Rattle.channel.specs.declared.Kind.TheVariants.{Plain, Extended}
use Rattle.channel.specs.Call as C
use Rattle.answers.specs.declared.Numbers.{Numbers}

abbrev pub value : Numbers → ℕ → ℕ
value n i = get_or n.values i 0

abbrev pub is_one : Numbers → ℕ → Bool
is_one n i = eqb (value n i) 1

-- refusal 0 is the kind's own; any other is a refusal, at a channel where there is a value
unfoldable pub read_as : (Numbers → C.Answer) → Numbers → C.Answer
read_as own n = cond (eqb n.refusal 0) (own n) (cond (eqb n.count 0) (C.refused n.refusal) (C.stopped (value n 0) n.refusal))

-- one definition for each kind of answer, as channel's `Answers` names them

unfoldable pub as_picked : Numbers → C.Answer
as_picked n = C.gave (C.number (value n 0))

unfoldable pub as_acted : Numbers → C.Answer
as_acted n = C.gave C.done

unfoldable pub as_sent : Numbers → C.Answer
as_sent n = C.gave (C.framed (value n 0))

unfoldable pub as_charged : Numbers → C.Answer
as_charged n = C.gave (C.adjusted (is_one n 0))

unfoldable pub as_flushed : Numbers → C.Answer
as_flushed n = cond (is_one n 0) (C.gave (C.complete (value n 1) (is_one n 2) (is_one n 3))) (C.gave (C.incomplete (value n 1)))

unfoldable pub as_moved : Numbers → C.Answer
as_moved n = cond (is_one n 0) (C.moved (value n 1) (value n 2)) (C.gave C.held)

unfoldable pub as_window : Numbers → C.Answer
as_window n = C.gave (C.window_is (value n 0))

unfoldable pub as_pending : Numbers → C.Answer
as_pending n = C.gave (C.pending_is (is_one n 0))

abbrev pub typed : Numbers → ℕ → Bool
typed n type = eqb (value n 0) type

-- by the message's type
unfoldable pub as_taken : Numbers → C.Answer
as_taken n =
    C.gave
    (C.message
    (cond (typed n 91) (C.confirmation (value n 1) (value n 2) (value n 3) (value n 4))
    (cond (typed n 92) (C.failure (value n 1) (value n 2) (value n 3) (value n 4) (value n 5) (value n 6))
    (cond (typed n 93) (C.credit (value n 1) (value n 2))
    (cond (typed n 94) (C.received (value n 1) Plain (value n 2) (value n 3))
    (cond (typed n 95) (C.received (value n 1) (Extended (value n 2)) (value n 3) (value n 4)) (cond (typed n 96) (C.ended (value n 1)) (C.closed (value n 1)))))))))
