-- A run of the rules' own steps, beside the run of the code's states that demand 3 speaks of.
-- Assumes nothing.
use Prim.Native.Nat.{ℕ}
use mathlib.Core.Path.{◌≡◌}
use mathlib.Core.Bool.{false}
use mathlib.Core.List.{List, [], ◌∷◌, ◌++◌}
use Rattle.channel.specs.Wire.{frames}
use Rattle.channel.specs.State.{World}
use Rattle.channel.specs.Call.{Call, act, put, flush_all, flush_staged, drain, Answer, gave, done}
use Rattle.channel.specs.Step.{step}
use Rattle.channel.specs.Demand.{is_room, apart_from_counts}

unfoldable pub taken_by : World → Call → List ℕ
taken_by w (act a) = []
taken_by w (put route l) = []
taken_by w (flush_all route) = []
taken_by w (flush_staged rekey) = []
taken_by w drain = w.sent

pub record Seen : Type 0 where
  pub answer : Answer
  pub world : World
  pub gone : List ℕ

unfoldable pub next : Seen → Call → Seen
next s c = record { answer = (step s.world c).answer; world = (step s.world c).world; gone = s.gone ++ taken_by s.world c }

unfoldable pub run : Seen → List Call → List Seen
run s [] = []
run s (c ∷ cs) = next s c ∷ run (next s c) cs

unfoldable pub final : Seen → List Call → Seen
final s [] = s
final s (c ∷ cs) = final (next s c) cs

unfoldable pub before : World → Seen
before w = record { answer = gave done; world = w; gone = [] }

unfoldable pub NoRoom : List Seen → Type 0
NoRoom [] = Unit {0}
NoRoom (s ∷ ss) = (is_room s.answer ≡ false) × NoRoom ss

-- two states with the same table and queue, and the same bytes sent (g and h gone before), then staged
pub record Same (w v : World) (g h : List ℕ) : Type 0 where
  pub tables : w.table ≡ v.table
  pub queues : w.queue_rest ≡ v.queue_rest
  pub bytes : g ++ w.sent ++ frames w.staged ≡ h ++ v.sent ++ frames v.staged

pub record Alike (s r : Seen) : Type 0 where
  pub answers : apart_from_counts s.answer ≡ apart_from_counts r.answer
  pub worlds : Same s.world r.world s.gone r.gone

unfoldable pub AllAlike : List Seen → List Seen → Type 0
AllAlike [] [] = Unit {0}
AllAlike [] (r ∷ rs) = ⊥
AllAlike (s ∷ ss) [] = ⊥
AllAlike (s ∷ ss) (r ∷ rs) = Alike s r × AllAlike ss rs
