-- When a state is sound: the rules' list, clause by clause.
-- Assumes nothing.
use Rattle.std.specs.Prelude.{ℕ, zero, suc, ◌+◌, ◌/◌, ◌%◌, Bool, true, false, ◌&&◌, ◌||◌, not, List, [], ◌∷◌, length, take, drop, leb, ltb, eqb}
use Rattle.channel.specs.declared.Record.{Record}
use Rattle.channel.specs.declared.Entry as E
use Rattle.laws.specs.Clauses.{every}
use Rattle.channel.specs.Wire.{read32}
use Rattle.channel.specs.State.{most_bytes, most_entries, number_of, Place, vacant, holds, Entry, Found, nowhere, found, look, is_used, any_entry}
use Rattle.channel.specs.Raw.{Raw, meaning}

-- UNUSED PLACES AND ENTRIES ARE ZERO

unfoldable pub is_zero : Record → Bool
is_zero r =
    every
    (eqb r.sender_channel.0 0
    ∷ eqb r.recipient_channel.0 0
    ∷ not r.confirmed
    ∷ eqb r.sender_window_size 0
    ∷ eqb r.sender_maximum_packet_size 0
    ∷ eqb r.recipient_window_size 0
    ∷ eqb r.recipient_maximum_packet_size 0
    ∷ not r.wants_reply
    ∷ not r.pending_eof
    ∷ not r.pending_close
    ∷ [])

unfoldable pub unused_zero : ℕ → List Record → Bool
unused_zero word [] = true
unused_zero word (r ∷ rs) = (eqb (word % 2) 1 || is_zero r) && unused_zero (word / 2) rs

unfoldable pub is_zero_entry : E.Entry → Bool
is_zero_entry p = every (eqb p.number.0 0 ∷ not p.kind.extended ∷ eqb p.kind.code 0 ∷ eqb p.left 0 ∷ [])

unfoldable pub entries_zero : List E.Entry → Bool
entries_zero [] = true
entries_zero (p ∷ ps) = is_zero_entry p && entries_zero ps

-- USED NUMBERS ARE DISTINCT

unfoldable pub distinct : List Place → Bool
distinct [] = true
distinct (vacant ∷ ps) = distinct ps
distinct (holds c ∷ ps) = not (is_used (number_of c) ps) && distinct ps

-- ENTRIES NAME CONFIRMED RECORDS, AND THEIR LENGTHS SUM TO THE QUEUE'S USED COUNT

unfoldable pub found_confirmed : Found → Bool
found_confirmed nowhere = false
found_confirmed (found c) = c.confirmed

unfoldable pub all_named : List Place → List Entry → Bool
all_named ps [] = true
all_named ps (e ∷ es) = found_confirmed (look e.number ps) && all_named ps es

unfoldable pub sum_left : ℕ → List E.Entry → ℕ
sum_left zero ps = 0
sum_left (suc k) [] = 0
sum_left (suc k) (p ∷ ps) = p.left + sum_left k ps

-- A MARK STANDS ONLY ON A CHANNEL WITH AN ENTRY

abbrev pub is_marked : Record → Bool
is_marked c = c.pending_eof || c.pending_close

unfoldable pub all_marked : List Entry → List Place → Bool
all_marked es [] = true
all_marked es (vacant ∷ ps) = all_marked es ps
all_marked es (holds c ∷ ps) = (not (is_marked c) || any_entry (number_of c) es) && all_marked es ps

-- STAGED IS WHOLE FRAMES, NONE EMPTY; the first argument only bounds their number

unfoldable pub whole_frames : ℕ → List ℕ → Bool
whole_frames zero bs = true
whole_frames (suc k) [] = true
whole_frames (suc k) (b ∷ bs) =
    elim (ltb 0 (read32 (b ∷ bs)) && leb (4 + read32 (b ∷ bs)) (length (b ∷ bs))) [
      | true ↦ whole_frames k (drop (4 + read32 (b ∷ bs)) (b ∷ bs))
      | false ↦ false
    ]

-- THE LIST

unfoldable pub is_sound : Raw → Bool
is_sound r =
    -- no buffer is too long
    every
    (leb (length r.queue) most_bytes
    ∷ leb (length r.staged) most_bytes
    ∷ leb (length r.sent) most_bytes
    -- nor its used count too large
    ∷ leb r.held.queue_used (length r.queue)
    ∷ leb r.held.staged_used (length r.staged)
    ∷ leb r.held.sent_used (length r.sent)
    ∷ leb r.held.entry_count most_entries
    ∷ unused_zero r.held.used r.held.records
    ∷ entries_zero (drop r.held.entry_count r.held.entries)
    ∷ distinct (meaning r).table.places
    ∷ all_named (meaning r).table.places (meaning r).table.entries
    ∷ eqb (sum_left r.held.entry_count r.held.entries) r.held.queue_used
    ∷ all_marked (meaning r).table.entries (meaning r).table.places
    ∷ whole_frames r.held.staged_used (take r.held.staged_used r.staged)
    ∷ [])
