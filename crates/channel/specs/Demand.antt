-- Demand 3, over the state as the code holds it: any list of calls, in the forms chosen and in staged forms only.
-- Assumes nothing.
use Rattle.std.specs.Prelude.{ℕ, ◌≡◌, Bool, true, false, cond, List, [], ◌∷◌, ◌++◌, take, eqb}
use Rattle.channel.specs.Call.{staged, Route, Call, act, put, flush_all, flush_staged, drain, Answer, refused, stopped, gave, moved, done}
use Rattle.channel.specs.Raw.{Raw, empty_table}
use Rattle.channel.specs.Sound.{is_sound}
use Rattle.channel.specs.Called.{lent, called}

-- A RUN

-- the used parts of two buffers
unfoldable pub sent_part : Raw → List ℕ
sent_part r = take r.held.sent_used r.sent

unfoldable pub staged_part : Raw → List ℕ
staged_part r = take r.held.staged_used r.staged

-- what is seen after a call: its answer, the state, and all bytes that drains took so far
pub record Shown : Type 0 where
  pub answer : Answer
  pub state : Raw
  pub gone : List ℕ

-- the bytes that a call takes out of sent for the cipher: a drain that is not refused takes them all
unfoldable pub takes : Raw → Call → List ℕ
takes r (act a) = []
takes r (put route l) = []
takes r (flush_all route) = []
takes r (flush_staged rekey) = []
takes r drain = cond (is_sound r) (sent_part r) []

unfoldable pub following : Shown → Call → Shown
following s c = record { answer = (called s.state c).answer; state = (called s.state c).state; gone = s.gone ++ takes s.state c }

-- what is seen after each call of a list
unfoldable pub calls : Shown → List Call → List Shown
calls s [] = []
calls s (c ∷ cs) = following s c ∷ calls (following s c) cs

-- and after the last
unfoldable pub finally : Shown → List Call → Shown
finally s [] = s
finally s (c ∷ cs) = finally (following s c) cs

-- before the first: the empty table over any three lent buffers
unfoldable pub start : List ℕ → List ℕ → List ℕ → Shown
start q st se = record { answer = gave done; state = lent empty_table q st se; gone = [] }

-- all bytes ever sent
unfoldable pub ever_sent : Shown → List ℕ
ever_sent s = s.gone ++ sent_part s.state

-- STAGED FORMS ONLY

unfoldable pub staged_route : Route → Route
staged_route r = record { form = staged; rekey = r.rekey }

unfoldable pub staged_call : Call → Call
staged_call (act a) = act a
staged_call (put route l) = put (staged_route route) l
staged_call (flush_all route) = flush_all (staged_route route)
staged_call (flush_staged rekey) = flush_staged rekey
staged_call drain = drain

unfoldable pub staged_calls : List Call → List Call
staged_calls [] = []
staged_calls (c ∷ cs) = staged_call c ∷ staged_calls cs

-- NO ROOM

unfoldable pub room_number : ℕ → Bool
room_number k = eqb k 5

-- also where a flush of all stopped at it
unfoldable pub is_room : Answer → Bool
is_room (refused k) = room_number k
is_room (stopped n k) = room_number k
is_room (gave r) = false
is_room (moved n m) = false

-- no answer of a run is Room
unfoldable pub NeverRoom : List Shown → Type 0
NeverRoom [] = Unit {0}
NeverRoom (s ∷ ss) = (is_room s.answer ≡ false) × NeverRoom ss

-- EQUAL

-- an answer, apart from the staged flush's counts
unfoldable pub apart_from_counts : Answer → Answer
apart_from_counts (refused k) = refused k
apart_from_counts (stopped n k) = stopped n k
apart_from_counts (gave r) = gave r
apart_from_counts (moved n m) = moved 0 0

-- after one call: answers, records, the queue to its last byte, and all bytes ever sent, then those staged
pub record Equal (s r : Shown) : Type 0 where
  pub answers : apart_from_counts s.answer ≡ apart_from_counts r.answer
  pub last : s.state.held.last ≡ r.state.held.last
  pub used : s.state.held.used ≡ r.state.held.used
  pub records : s.state.held.records ≡ r.state.held.records
  pub entries : s.state.held.entries ≡ r.state.held.entries
  pub count : s.state.held.entry_count ≡ r.state.held.entry_count
  pub queued : s.state.held.queue_used ≡ r.state.held.queue_used
  pub queue : s.state.queue ≡ r.state.queue
  pub bytes : ever_sent s ++ staged_part s.state ≡ ever_sent r ++ staged_part r.state

-- after every call
unfoldable pub AllEqual : List Shown → List Shown → Type 0
AllEqual [] [] = Unit {0}
AllEqual [] (r ∷ rs) = ⊥
AllEqual (s ∷ ss) [] = ⊥
AllEqual (s ∷ ss) (r ∷ rs) = Equal s r × AllEqual ss rs

-- DURING REKEY

-- a call that says so, or that has nothing to say of rekey and so may be made during it
unfoldable pub during_rekey : Call → Bool
during_rekey (act a) = true
during_rekey (put route l) = route.rekey
during_rekey (flush_all route) = route.rekey
during_rekey (flush_staged rekey) = rekey
during_rekey drain = true
