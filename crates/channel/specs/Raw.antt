-- The state as the code holds it, what it means, and how the rules' state is written in it.
-- Assumes nothing.
use Rattle.std.specs.Prelude.{ℕ, zero, suc, ◌+◌, ◌-◌, ◌*◌, ◌/◌, ◌%◌, false, cond, List, [], ◌∷◌, ◌++◌, length, take, drop, replicate, eqb}
use Rattle.channel.specs.declared.Record.{Record}
use Rattle.channel.specs.declared.Entry as E
use Rattle.channel.specs.declared.Table as D
use Rattle.channel.specs.Wire.{frames, read32}
use Rattle.channel.specs.State.{place_count, most_entries, Place, vacant, holds, Entry, World, queued}

-- the struct, and the three lent buffers whole
pub record Raw : Type 0 where
  pub held : D.Table
  pub queue : List ℕ
  pub staged : List ℕ
  pub sent : List ℕ

-- FROM THE CODE'S STATE TO THE RULES'

-- bit i of the word says whether place i is used
unfoldable pub places_of : ℕ → List Record → List Place
places_of word [] = []
places_of word (r ∷ rs) = cond (eqb (word % 2) 1) (holds r) vacant ∷ places_of (word / 2) rs

-- the entries' bytes stand in the queue in entry order, with no gaps
unfoldable pub entries_of : ℕ → List E.Entry → List ℕ → List Entry
entries_of zero ps bs = []
entries_of (suc k) [] bs = []
entries_of (suc k) (p ∷ ps) bs = record { number = p.number.0; kind = p.kind; bytes = take p.left bs } ∷ entries_of k ps (drop p.left bs)

-- the messages of a run of frames; the first argument only bounds their number
unfoldable pub messages_of : ℕ → List ℕ → List (List ℕ)
messages_of zero bs = []
messages_of (suc k) [] = []
messages_of (suc k) (b ∷ bs) = let more = messages_of k (drop (4 + read32 (b ∷ bs)) (b ∷ bs)) in take (read32 (b ∷ bs)) (drop 4 (b ∷ bs)) ∷ more

unfoldable pub meaning : Raw → World
meaning r =
    record {
      table =
          record {
            last = r.held.last;
            places = places_of r.held.used r.held.records;
            entries = entries_of r.held.entry_count r.held.entries (take r.held.queue_used r.queue);
          };
      queue_rest = drop r.held.queue_used r.queue;
      staged = messages_of r.held.staged_used (take r.held.staged_used r.staged);
      staged_rest = drop r.held.staged_used r.staged;
      sent = take r.held.sent_used r.sent;
      sent_rest = drop r.held.sent_used r.sent;
    }

-- AND BACK

-- an unused place, and an unused entry, are all zero
unfoldable pub zero_record : Record
zero_record =
    record {
      sender_channel = record { 0 = 0 };
      recipient_channel = record { 0 = 0 };
      confirmed = false;
      sender_window_size = 0;
      sender_maximum_packet_size = 0;
      recipient_window_size = 0;
      recipient_maximum_packet_size = 0;
      wants_reply = false;
      pending_eof = false;
      pending_close = false;
    }

unfoldable pub zero_entry : E.Entry
zero_entry = record { number = record { 0 = 0 }; kind = record { extended = false; code = 0 }; left = 0 }

unfoldable pub word_of : List Place → ℕ
word_of [] = 0
word_of (vacant ∷ ps) = word_of ps * 2
word_of (holds c ∷ ps) = word_of ps * 2 + 1

unfoldable pub records_of : List Place → List Record
records_of [] = []
records_of (vacant ∷ ps) = zero_record ∷ records_of ps
records_of (holds c ∷ ps) = c ∷ records_of ps

unfoldable pub pending_of : List Entry → List E.Entry
pending_of [] = []
pending_of (e ∷ es) = record { number = record { 0 = e.number }; kind = e.kind; left = length e.bytes } ∷ pending_of es

unfoldable pub written : World → Raw
written w =
    record {
      held =
          record {
            last = w.table.last;
            used = word_of w.table.places;
            records = records_of w.table.places;
            entries = pending_of w.table.entries ++ replicate (most_entries - length w.table.entries) zero_entry;
            entry_count = length w.table.entries;
            queue_used = length (queued w.table.entries);
            staged_used = length (frames w.staged);
            sent_used = length w.sent;
          };
      queue = queued w.table.entries ++ w.queue_rest;
      staged = frames w.staged ++ w.staged_rest;
      sent = w.sent ++ w.sent_rest;
    }

-- the empty table
unfoldable pub empty_table : D.Table
empty_table =
    record {
      last = 1;
      used = 0;
      records = replicate place_count zero_record;
      entries = replicate most_entries zero_entry;
      entry_count = 0;
      queue_used = 0;
      staged_used = 0;
      sent_used = 0;
    }
