-- What each call does to the table, and the messages that it puts out: all that does not depend on the room in a lent buffer
-- nor on the buffer that a message goes to. docs/RULES.md, "The calls"; the checks run in the order 7, 2, 3, 8, 6, 4.
-- Assumes nothing.
use Rattle.channel.specs.declared.Record.{Record}
use Rattle.channel.specs.declared.Kind.{Kind}
use Rattle.std.specs.Prelude.{ℕ, zero, suc, ◌+◌, ◌-◌, ◌/◌, ◌%◌, min, Bool, true, false, ◌&&◌, ◌||◌, cond, List, [], ◌∷◌, ◌++◌, length, take, drop, leb, ltb, eqb}
use Rattle.channel.specs.Wire.{packets, eof_message, close_message, adjust_message}
use Rattle.channel.specs.State.{place_count, numbers_in_all, most_window, number_of, peer_of, stored, kind_of, Place, Entry, Table, Found, nowhere, found, look, settle_in, without, any_vacant, is_used, any_entry}
use Rattle.channel.specs.Call.{Act, new_channel, new_channel_id, open_for_peer, eof, close, adjust, incoming, window_of, has_pending, Load, send, flush, Message, confirmation, failure, credit, received, ended, closed, Result, done, number, framed, adjusted, incomplete, complete, message, window_is, pending_is}
use Rattle.channel.specs.Read.{Read, malformed, reads, read_message}
use Rattle.channel.specs.Change.{fresh, confirm, with_peer_window, with_window, with_marks, with_last, with_places, with_entries, altered, removed}

-- whether a call queues, and for which channel
pub data Queues : Type 0 where
  none : Queues
  for : ℕ → Queues

-- the answer, the table after, the data messages, which may go straight, and then those that are always staged
pub record Plan : Type 0 where
  pub answer : Result
  pub table : Table
  pub payload : List (List ℕ)
  pub control : List (List ℕ)
  pub queues : Queues

-- a refusal with the rules' number, or a plan
pub data Decision : Type 0 where
  refuse : ℕ → Decision
  go : Plan → Decision

-- a plan that puts nothing out
unfoldable pub quiet : Result → Table → Decision
quiet a t = go (record { answer = a; table = t; payload = []; control = []; queues = none })

-- one that only queues
unfoldable pub queueing : Result → Table → ℕ → Decision
queueing a t n = go (record { answer = a; table = t; payload = []; control = []; queues = for n })

-- one that stages control messages
unfoldable pub staging : Result → Table → List (List ℕ) → Decision
staging a t ms = go (record { answer = a; table = t; payload = []; control = ms; queues = none })

-- the record with that number, or answer 2
unfoldable pub known : Found → (Record → Decision) → Decision
known nowhere f = refuse 2
known (found c) f = f c

-- and the record passes a test, or answer 3
unfoldable pub passing : (Record → Bool) → Found → (Record → Decision) → Decision
passing test o f = known o (λ c. elim (test c) [ true ↦ f c | false ↦ refuse 3 ])

unfoldable pub is_confirmed : Record → Bool
is_confirmed c = c.confirmed

-- what data, EOF, CLOSE, adjust and an incoming 93 to 96 ask of a record
unfoldable pub serves : Record → Bool
serves c = is_confirmed c

-- NUMBERS

-- the next number, 4,294,967,295 going to 0
abbrev pub after : ℕ → ℕ
after n = (n + 1) % numbers_in_all

-- the first number from n on that is not in the table; the first argument only bounds the tries
unfoldable pub free_from : ℕ → ℕ → List Place → ℕ
free_from zero n ps = n
free_from (suc k) n ps = elim (is_used n ps) [ true ↦ free_from k (after n) ps | false ↦ n ]

unfoldable pub next_number : Table → ℕ
next_number t = free_from (place_count + 1) (after t.last) t.places

-- DATA

-- what the window left over is queued as one entry
unfoldable pub remainder : ℕ → Kind → List ℕ → List Entry
remainder n kind [] = []
remainder n kind (b ∷ bs) = record { number = n; kind = stored kind; bytes = b ∷ bs } ∷ []

unfoldable pub queues_rest : ℕ → List ℕ → Queues
queues_rest n [] = none
queues_rest n (b ∷ bs) = for n

-- framed up to the smaller of its length and the peer's window, and the rest queued
unfoldable pub send_now : Table → Kind → List ℕ → Record → Decision
send_now t kind bs c =
    let n = min (length bs) c.recipient_window_size in
    go
    (record {
      answer = framed n;
      table = with_entries (altered t c (with_peer_window c (c.recipient_window_size - n))) (t.entries ++ remainder (number_of c) kind (drop n bs));
      payload = packets kind (peer_of c) c.recipient_maximum_packet_size (take n bs);
      control = [];
      queues = queues_rest (number_of c) (drop n bs);
    })

-- queued whole behind an entry or during rekey; otherwise empty data does nothing, and other data is framed
unfoldable pub send_on : Table → Bool → Kind → List ℕ → Record → Decision
send_on t rekey kind bs c =
    elim (any_entry (number_of c) t.entries || rekey) [
      | true ↦ queueing (framed 0) (with_entries t (t.entries ++ record { number = number_of c; kind = stored kind; bytes = bs } ∷ [])) (number_of c)
      | false ↦ elim (eqb (length bs) 0) [
        | true ↦ quiet (framed 0) t
        | false ↦ elim (eqb c.recipient_maximum_packet_size 0) [ true ↦ refuse 4 | false ↦ send_now t kind bs c ]
      ]
    ]

-- EOF AND CLOSE: with an entry a mark, otherwise the message; CLOSE also removes the record

unfoldable pub eof_on : Table → Record → Decision
eof_on t c =
    elim (any_entry (number_of c) t.entries) [
      | true ↦ quiet done (altered t c (with_marks c true c.pending_close))
      | false ↦ staging done t (eof_message (peer_of c) ∷ [])
    ]

unfoldable pub close_on : Table → Record → Decision
close_on t c =
    elim (any_entry (number_of c) t.entries) [
      | true ↦ quiet done (altered t c (with_marks c c.pending_eof true))
      | false ↦ staging done (removed t c) (close_message (peer_of c) ∷ [])
    ]

-- RECEIVE WINDOW

-- n bytes are charged if they fit the window
unfoldable pub charged : ℕ → ℕ → ℕ
charged n window = cond (leb n window) (window - n) window

-- below half the target an adjust fills it up
unfoldable pub adjust_on : Table → ℕ → ℕ → Record → Decision
adjust_on t n target c =
    let window = charged n c.sender_window_size in
    elim (ltb window (target / 2)) [
      | true ↦ staging (adjusted true) (altered t c (with_window c target)) (adjust_message (peer_of c) (target - window) ∷ [])
      | false ↦ quiet (adjusted false) (altered t c (with_window c window))
    ]

-- PENDING FLUSH

-- the messages, the bytes framed, the window after, the entries left of all channels, and whether the channel has none left
pub record Flushed : Type 0 where
  pub out : List (List ℕ)
  pub wrote : ℕ
  pub window : ℕ
  pub kept : List Entry
  pub all : Bool

unfoldable pub keeping : Entry → Flushed → Flushed
keeping e r = record { out = r.out; wrote = r.wrote; window = r.window; kept = e ∷ r.kept; all = r.all }

unfoldable pub sending : List (List ℕ) → ℕ → Flushed → Flushed
sending ms n r = record { out = ms ++ r.out; wrote = n + r.wrote; window = r.window; kept = r.kept; all = r.all }

-- a channel's entries in order, with window w, until one is not framed whole
unfoldable pub flushed : Record → ℕ → List Entry → Flushed
flushed c w [] = record { out = []; wrote = 0; window = w; kept = []; all = true }
flushed c w (e ∷ es) =
    elim (eqb e.number (number_of c)) [
      | false ↦ keeping e (flushed c w es)
      | true ↦ elim (leb (length e.bytes) w) [
        | true ↦ sending (packets (kind_of e.kind) (peer_of c) c.recipient_maximum_packet_size e.bytes) (length e.bytes) (flushed c (w - length e.bytes) es)
        | false ↦ record {
          out = packets (kind_of e.kind) (peer_of c) c.recipient_maximum_packet_size (take w e.bytes);
          wrote = w;
          window = 0;
          kept = record { number = e.number; kind = e.kind; bytes = drop w e.bytes } ∷ es;
          all = false;
        }
      ]
    ]

-- the channel has a byte pending
unfoldable pub any_byte : ℕ → List Entry → Bool
any_byte n [] = false
any_byte n (e ∷ es) = (eqb e.number n && ltb 0 (length e.bytes)) || any_byte n es

-- some entry is left: the window is used up
unfoldable pub flushed_part : Table → Record → Flushed → Decision
flushed_part t c r =
    go
    (record {
      answer = incomplete r.wrote;
      table = with_entries (altered t c (with_peer_window c r.window)) r.kept;
      payload = r.out;
      control = [];
      queues = none;
    })

-- the messages of the marks
unfoldable pub eofs : Record → List (List ℕ)
eofs c = cond c.pending_eof (eof_message (peer_of c) ∷ []) []

unfoldable pub closes : Record → List (List ℕ)
closes c = cond c.pending_close (close_message (peer_of c) ∷ []) []

-- the record without its marks; where CLOSE was marked it is removed
unfoldable pub unmarked : Table → Record → ℕ → Table
unmarked t c window = cond c.pending_close (removed t c) (altered t c (with_marks (with_peer_window c window) false false))

-- none is left: both marks are cleared, EOF and then CLOSE staged if marked
unfoldable pub flushed_whole : Table → Record → Flushed → Decision
flushed_whole t c r =
    go
    (record {
      answer = complete r.wrote c.pending_eof c.pending_close;
      table = with_entries (unmarked t c r.window) r.kept;
      payload = r.out;
      control = eofs c ++ closes c;
      queues = none;
    })

unfoldable pub flush_on : Table → Record → Decision
flush_on t c =
    let r = flushed c c.recipient_window_size t.entries in
    elim (eqb c.recipient_maximum_packet_size 0 && any_byte (number_of c) t.entries) [
      | true ↦ refuse 4
      | false ↦ elim r.all [ true ↦ flushed_whole t c r | false ↦ flushed_part t c r ]
    ]

-- INCOMING

-- 91 confirms, 92 removes, 93 adds credit, 94 to 96 alter nothing, 97 stages a CLOSE and drops the record and its entries
unfoldable pub taken_in : Table → Message → Decision
taken_in t (confirmation n peer window limit) =
    known (look n t.places)
    (λ c. elim c.confirmed [
      | true ↦ refuse 8
      | false ↦ quiet (message (confirmation n peer window limit)) (altered t c (confirm c peer window limit))
    ])
taken_in t (failure n reason at size at' size') =
    known (look n t.places)
    (λ c. elim c.confirmed [
      | true ↦ refuse 8
      | false ↦ quiet (message (failure n reason at size at' size')) (removed t c)
    ])
taken_in t (credit n add) =
    passing serves (look n t.places)
    (λ c. elim (leb (c.recipient_window_size + add) most_window) [
      | true ↦ quiet (message (credit n add)) (altered t c (with_peer_window c (c.recipient_window_size + add)))
      | false ↦ refuse 6
    ])
taken_in t (received n kind at size) = passing serves (look n t.places) (λ c. quiet (message (received n kind at size)) t)
taken_in t (ended n) = passing serves (look n t.places) (λ c. quiet (message (ended n)) t)
taken_in t (closed n) =
    passing is_confirmed (look n t.places)
    (λ c. staging (message (closed n)) (with_entries (removed t c) (without n t.entries)) (close_message (peer_of c) ∷ []))

unfoldable pub taken_read : Table → Read → Decision
taken_read t malformed = refuse 7
taken_read t (reads m) = taken_in t m

-- THE CALLS

unfoldable pub window_at : Found → ℕ
window_at nowhere = 0
window_at (found c) = c.sender_window_size

unfoldable pub decide : Table → Act → Decision
decide t (new_channel window limit) =
    let n = next_number t in
    elim (any_vacant t.places) [
      | false ↦ refuse 5
      | true ↦ quiet (number n) (with_last (with_places t (settle_in (fresh n window limit) t.places)) n)
    ]
decide t new_channel_id =
    let n = next_number t in
    elim (any_vacant t.places) [ false ↦ refuse 5 | true ↦ quiet (number n) (with_last t n) ]
decide t (open_for_peer n peer window limit peer_window peer_limit) =
    elim (is_used n t.places) [
      | true ↦ refuse 8
      | false ↦ elim (any_vacant t.places) [
        | false ↦ refuse 5
        | true ↦ quiet done (with_places t (settle_in (confirm (fresh n window limit) peer peer_window peer_limit) t.places))
      ]
    ]
decide t (eof n) = passing serves (look n t.places) (eof_on t)
decide t (close n) = passing serves (look n t.places) (close_on t)
decide t (adjust n count target) = passing serves (look n t.places) (adjust_on t count target)
decide t (incoming p) = taken_read t (read_message p)
decide t (window_of n) = quiet (window_is (window_at (look n t.places))) t
decide t (has_pending n) = quiet (pending_is (any_entry n t.entries)) t

-- and the calls with data messages
unfoldable pub load : Table → Bool → Load → Decision
load t rekey (send kind n bs) = passing serves (look n t.places) (send_on t rekey kind bs)
load t rekey (flush n) = known (look n t.places) (flush_on t)
