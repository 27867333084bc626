-- One call on the whole state: the decision of the table, the room for it, and where its messages go.
-- Assumes nothing.
use Rattle.std.specs.Prelude.{ℕ, suc, ◌+◌, ◌-◌, Bool, true, false, ◌&&◌, List, [], ◌∷◌, ◌++◌, length, take, drop, replicate, leb}
use Rattle.channel.specs.Wire.{frame, frames}
use Rattle.channel.specs.State.{most_entries, number_of, Place, vacant, holds, Table, World, queued, refit}
use Rattle.channel.specs.Call.{Route, direct, Act, Load, flush, Call, act, put, flush_all, flush_staged, drain, done, held, Answer, refused, stopped, gave, moved}
use Rattle.channel.specs.Decide.{Queues, none, for, Plan, Decision, refuse, go, decide, load}

pub record Reply : Type 0 where
  pub answer : Answer
  pub world : World

abbrev pub reply : Answer → World → Reply
reply a w = record { answer = a; world = w }

-- WHERE MESSAGES GO

unfoldable pub none_staged : List (List ℕ) → Bool
none_staged [] = true
none_staged (p ∷ ps) = false

-- straight only past nothing staged
unfoldable pub goes_straight : Bool → World → Bool
goes_straight want w = want && none_staged w.staged

unfoldable pub to_sent : Bool → Plan → List ℕ
to_sent true p = frames p.payload
to_sent false p = []

unfoldable pub to_staged : Bool → Plan → List (List ℕ)
to_staged true p = p.control
to_staged false p = p.payload ++ p.control

-- ROOM

-- room for the whole result, or the number of the refusal
pub data Room : Type 0 where
  enough : Room
  lacks : ℕ → Room

unfoldable pub needs : Bool → ℕ → Room → Room
needs true k more = more
needs false k more = lacks k

-- what is queued finds an entry, and its bytes a queue of that size
unfoldable pub within : ℕ → Table → Queues → Bool
within size t none = true
within size t (for n) = leb (length t.entries) most_entries && leb (length (queued t.entries)) size

-- sent first, then staged, then the queue
unfoldable pub room_for : World → Plan → Bool → Room
room_for w p straight =
    needs (leb (length (to_sent straight p)) (length w.sent_rest)) 5
    (needs (leb (length (frames (to_staged straight p))) (length w.staged_rest)) 5
    (needs (within (length (queued w.table.entries) + length w.queue_rest) p.table p.queues) 5 enough))

-- ONE CALL

unfoldable pub carried_out : World → Plan → Bool → World
carried_out w p straight =
    record {
      table = p.table;
      queue_rest = refit (length (queued w.table.entries)) (length (queued p.table.entries)) w.queue_rest;
      staged = w.staged ++ to_staged straight p;
      staged_rest = drop (length (frames (to_staged straight p))) w.staged_rest;
      sent = w.sent ++ to_sent straight p;
      sent_rest = drop (length (to_sent straight p)) w.sent_rest;
    }

unfoldable pub with_room : Room → World → Plan → Bool → Reply
with_room enough w p straight = reply (gave p.answer) (carried_out w p straight)
with_room (lacks k) w p straight = reply (refused k) w

unfoldable pub apply : World → Bool → Decision → Reply
apply w straight (refuse k) = reply (refused k) w
apply w straight (go p) = with_room (room_for w p straight) w p straight

unfoldable pub step_act : World → Act → Reply
step_act w a = apply w false (decide w.table a)

unfoldable pub step_load : World → Route → Load → Reply
step_load w r l = apply w (goes_straight (direct r) w) (load w.table r.rekey l)

-- FLUSH OF ALL: in ascending number, stopping at the first refusal

unfoldable pub insert : ℕ → List ℕ → List ℕ
insert n [] = n ∷ []
insert n (m ∷ ms) = elim (leb n m) [ true ↦ n ∷ m ∷ ms | false ↦ m ∷ insert n ms ]

-- the numbers in use, ascending
unfoldable pub numbers : List Place → List ℕ
numbers [] = []
numbers (vacant ∷ ps) = numbers ps
numbers (holds c ∷ ps) = insert (number_of c) (numbers ps)

unfoldable pub is_refusal : Answer → Bool
is_refusal (refused k) = true
is_refusal (stopped n k) = true
is_refusal (gave r) = false
is_refusal (moved n m) = false

unfoldable pub stop_at : ℕ → Answer → Answer
stop_at n (refused k) = stopped n k
stop_at n (stopped m k) = stopped m k
stop_at n (gave r) = gave done
stop_at n (moved k m) = gave done

-- the first where the test passes, else the second
unfoldable pub either : Bool → Reply → Reply → Reply
either true a b = a
either false a b = b

unfoldable pub flush_each : Route → List ℕ → World → Reply
flush_each route [] w = reply (gave done) w
flush_each route (n ∷ ns) w =
    let r = step_load w route (flush n) in
    let more = flush_each route ns r.world in
    either (is_refusal r.answer) (reply (stop_at n r.answer) r.world) more

-- STAGED FLUSH: how many frames of the front fit the room

unfoldable pub fitting : ℕ → List (List ℕ) → ℕ
fitting room [] = 0
fitting room (p ∷ ps) = elim (leb (length (frame p)) room) [ true ↦ suc (fitting (room - length (frame p)) ps) | false ↦ 0 ]

-- k frames move to sent; staged is closed up and the freed tail zeroed
unfoldable pub move : ℕ → World → Reply
move k w =
    let bs = frames (take k w.staged) in
    reply (moved k (length bs))
    (record {
      table = w.table;
      queue_rest = w.queue_rest;
      staged = drop k w.staged;
      staged_rest = replicate (length bs) 0 ++ w.staged_rest;
      sent = w.sent ++ bs;
      sent_rest = drop (length bs) w.sent_rest;
    })

unfoldable pub drained : World → World
drained w =
    record {
      table = w.table;
      queue_rest = w.queue_rest;
      staged = w.staged;
      staged_rest = w.staged_rest;
      sent = [];
      sent_rest = replicate (length w.sent) 0 ++ w.sent_rest;
    }

-- THE STEP

unfoldable pub step : World → Call → Reply
step w (act a) = step_act w a
step w (put route l) = step_load w route l
step w (flush_all route) = flush_each route (numbers w.table.places) w
step w (flush_staged rekey) = either rekey (reply (gave held) w) (move (fitting (length w.sent_rest) w.staged) w)
step w drain = reply (gave done) (drained w)
