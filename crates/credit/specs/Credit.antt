-- What a credit comes to: the peer window grows, every other field stays, and nothing changes where the window would pass its limit.
-- Assumes nothing.
use Rattle.std.specs.Prelude.{ℕ, ◌+◌, Bool, cond, leb, Result, Ok, Err}
use Rattle.channel.specs.declared.Record.{Record}
use Rattle.channel.specs.declared.Refusal.{Refusal}
use Rattle.channel.specs.State.{most_window}
use Rattle.channel.specs.Change.{with_peer_window}

-- the window after the credit is one that 32 bits hold
abbrev pub fits : Record → ℕ → Bool
fits r add = leb (r.recipient_window_size + add) most_window

unfoldable pub credit_answer : Record → ℕ → Result (Unit {0}) Refusal
credit_answer r add = cond (fits r add) (Ok tt) (Err Refusal.Credit)

unfoldable pub credit_record : Record → ℕ → Record
credit_record r add = cond (fits r add) (with_peer_window r (r.recipient_window_size + add)) r

-- the record by value, or why there is none
unfoldable pub credited : Record → ℕ → Result Record Refusal
credited r add = cond (fits r add) (Ok (credit_record r add)) (Err Refusal.Credit)
