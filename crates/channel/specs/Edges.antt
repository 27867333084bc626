-- docs/RULES.md, "Both sides of each edge" and "Errors that read well": worked cases, each with all that is seen after its calls.
-- The expected bytes are worked out by hand from RFC 4254.
-- Assumes nothing.
use Rattle.channel.specs.declared.Kind.TheVariants.{Extended, Plain}
use Rattle.std.specs.Prelude.{ℕ, ◌-◌, Bool, true, false, List, [], ◌∷◌, ◌++◌, length, replicate}
use Rattle.channel.specs.State.{place_count, Place, vacant, holds, stored, Entry, World, queued}
use Rattle.channel.specs.Call.{Form, straight, staged, Route, new_channel, new_channel_id, open_for_peer, eof, close, adjust, incoming, window_of, has_pending, send, flush, Call, act, put, flush_all, flush_staged, drain, confirmation, failure, credit, received, ended, closed, done, held, number, framed, adjusted, incomplete, complete, message, window_is, pending_is, Answer, refused, stopped, gave, moved}
use Rattle.channel.specs.Change.{fresh, confirm, with_marks}
use Rattle.channel.specs.Step.{numbers}
use Rattle.channel.specs.Raw.{Raw, meaning, written}
use Rattle.channel.specs.Called.{called}

-- what is seen: the answers, and after the last call the numbers in use, the peers' windows by place, the entries' lengths, and the
-- three buffers whole, with their used counts
pub record Sees : Type 0 where
  pub answers : List Answer
  pub in_use : List ℕ
  pub windows : List ℕ
  pub pending : List ℕ
  pub queue : List ℕ
  pub staged : List ℕ
  pub staged_used : ℕ
  pub sent : List ℕ
  pub sent_used : ℕ

-- a state, the calls, and what must be seen
pub record Case : Type 0 where
  pub world : World
  pub calls : List Call
  pub sees : Sees

unfoldable pub peer_windows : List Place → List ℕ
peer_windows [] = []
peer_windows (vacant ∷ ps) = peer_windows ps
peer_windows (holds c ∷ ps) = c.recipient_window_size ∷ peer_windows ps

unfoldable pub lengths : List Entry → List ℕ
lengths [] = []
lengths (e ∷ es) = length e.bytes ∷ lengths es

-- the calls one after the other, on the code's state
unfoldable pub seeing : List Answer → Raw → List Call → Sees
seeing answers r [] =
    record {
      answers = answers;
      in_use = numbers (meaning r).table.places;
      windows = peer_windows (meaning r).table.places;
      pending = lengths (meaning r).table.entries;
      queue = r.queue;
      staged = r.staged;
      staged_used = r.held.staged_used;
      sent = r.sent;
      sent_used = r.held.sent_used;
    }
seeing answers r (c ∷ more) = let o = called r c in seeing (answers ++ o.answer ∷ []) o.state more

unfoldable pub seen : Case → Sees
seen c = seeing [] (written c.world) c.calls

-- bytes that no call has written
unfoldable pub unwritten : ℕ → List ℕ
unwritten n = replicate n 9

-- a state with that last number and these records and entries in front, over buffers of 64 bytes
unfoldable pub with : ℕ → List Place → List Entry → World
with last ps es =
    record {
      table = record { last = last; places = ps ++ replicate (place_count - length ps) vacant; entries = es };
      queue_rest = unwritten (64 - length (queued es));
      staged = [];
      staged_rest = unwritten 64;
      sent = [];
      sent_rest = unwritten 64;
    }

-- a confirmed record: number, receive window, the peer's window and limit, both marks; the peer's number is 7
unfoldable pub chan : ℕ → ℕ → ℕ → ℕ → Bool → Place
chan n window peer_window peer_limit marks = holds (with_marks (confirm (fresh n window 32) 7 peer_window peer_limit) marks marks)

unfoldable pub unconfirmed : ℕ → Place
unconfirmed n = holds (fresh n 64 32)

unfoldable pub on : Form → Bool → Route
on form rekey = record { form = form; rekey = rekey }

-- the P cases
unfoldable pub edges : List Case
edges =
    -- empty table: first number 2, then 3
    record {
      world = with 1 ([]) ([]);
      calls = act (new_channel 64 32) ∷ act (new_channel 64 32) ∷ [];
      sees =
          record {
            answers = gave (number 2) ∷ gave (number 3) ∷ [];
            in_use = 2 ∷ 3 ∷ [];
            windows = 0 ∷ 0 ∷ [];
            pending = [];
            queue = unwritten 64;
            staged = unwritten 64;
            staged_used = 0;
            sent = unwritten 64;
            sent_used = 0;
          };
    }
    -- last number 4,294,967,295, numbers 0 and 1 used: 2
    ∷ record {
      world = with 4294967295 (chan 0 64 9 9 false ∷ chan 1 64 9 9 false ∷ []) ([]);
      calls = act (new_channel 64 32) ∷ [];
      sees =
          record {
            answers = gave (number 2) ∷ [];
            in_use = 0 ∷ 1 ∷ 2 ∷ [];
            windows = 9 ∷ 9 ∷ 0 ∷ [];
            pending = [];
            queue = unwritten 64;
            staged = unwritten 64;
            staged_used = 0;
            sent = unwritten 64;
            sent_used = 0;
          };
    }
    -- window 5, limit 3, 8 bytes: packets of 3 and 2, frames of 31 bytes in all, 3 queued
    ∷ record {
      world = with 2 (chan 2 64 5 3 false ∷ []) ([]);
      calls = put (on staged false) (send Plain 2 (1 ∷ 2 ∷ 3 ∷ 4 ∷ 5 ∷ 6 ∷ 7 ∷ 8 ∷ [])) ∷ [];
      sees =
          record {
            answers = gave (framed 5) ∷ [];
            in_use = 2 ∷ [];
            windows = 0 ∷ [];
            pending = 3 ∷ [];
            queue = (6 ∷ 7 ∷ 8 ∷ []) ++ unwritten 61;
            staged = (0 ∷ 0 ∷ 0 ∷ 12 ∷ 94 ∷ 0 ∷ 0 ∷ 0 ∷ 7 ∷ 0 ∷ 0 ∷ 0 ∷ 3 ∷ 1 ∷ 2 ∷ 3 ∷ 0 ∷ 0 ∷ 0 ∷ 11 ∷ 94 ∷ 0 ∷ 0 ∷ 0 ∷ 7 ∷ 0 ∷ 0 ∷ 0 ∷ 2 ∷ 4 ∷ 5 ∷ []) ++ unwritten 33;
            staged_used = 31;
            sent = unwritten 64;
            sent_used = 0;
          };
    }
    -- window 0, limit 0, 1 byte: 4; during rekey it is queued
    ∷ record {
      world = with 2 (chan 2 64 0 0 false ∷ []) ([]);
      calls = put (on staged false) (send Plain 2 (1 ∷ [])) ∷ put (on staged true) (send Plain 2 (1 ∷ [])) ∷ [];
      sees =
          record {
            answers = refused 4 ∷ gave (framed 0) ∷ [];
            in_use = 2 ∷ [];
            windows = 0 ∷ [];
            pending = 1 ∷ [];
            queue = (1 ∷ []) ++ unwritten 63;
            staged = unwritten 64;
            staged_used = 0;
            sent = unwritten 64;
            sent_used = 0;
          };
    }
    -- empty data: nothing; during rekey one entry of 0 bytes, pending says yes
    ∷ record {
      world = with 2 (chan 2 64 9 9 false ∷ []) ([]);
      calls = put (on staged false) (send Plain 2 ([])) ∷ act (has_pending 2) ∷ put (on staged true) (send Plain 2 ([])) ∷ act (has_pending 2) ∷ [];
      sees =
          record {
            answers = gave (framed 0) ∷ gave (pending_is false) ∷ gave (framed 0) ∷ gave (pending_is true) ∷ [];
            in_use = 2 ∷ [];
            windows = 9 ∷ [];
            pending = 0 ∷ [];
            queue = unwritten 64;
            staged = unwritten 64;
            staged_used = 0;
            sent = unwritten 64;
            sent_used = 0;
          };
    }
    -- receive window 64, target 64: 32 bytes, no adjust; 33 bytes, adjust of 33
    ∷ record {
      world = with 2 (chan 2 64 9 9 false ∷ []) ([]);
      calls = act (adjust 2 32 64) ∷ act (window_of 2) ∷ [];
      sees =
          record {
            answers = gave (adjusted false) ∷ gave (window_is 32) ∷ [];
            in_use = 2 ∷ [];
            windows = 9 ∷ [];
            pending = [];
            queue = unwritten 64;
            staged = unwritten 64;
            staged_used = 0;
            sent = unwritten 64;
            sent_used = 0;
          };
    }
    ∷ record {
      world = with 2 (chan 2 64 9 9 false ∷ []) ([]);
      calls = act (adjust 2 33 64) ∷ act (window_of 2) ∷ [];
      sees =
          record {
            answers = gave (adjusted true) ∷ gave (window_is 64) ∷ [];
            in_use = 2 ∷ [];
            windows = 9 ∷ [];
            pending = [];
            queue = unwritten 64;
            staged = (0 ∷ 0 ∷ 0 ∷ 9 ∷ 93 ∷ 0 ∷ 0 ∷ 0 ∷ 7 ∷ 0 ∷ 0 ∷ 0 ∷ 33 ∷ []) ++ unwritten 51;
            staged_used = 13;
            sent = unwritten 64;
            sent_used = 0;
          };
    }
    -- receive window 0, target 1: none
    ∷ record {
      world = with 2 (chan 2 0 9 9 false ∷ []) ([]);
      calls = act (adjust 2 0 1) ∷ act (window_of 2) ∷ [];
      sees =
          record {
            answers = gave (adjusted false) ∷ gave (window_is 0) ∷ [];
            in_use = 2 ∷ [];
            windows = 9 ∷ [];
            pending = [];
            queue = unwritten 64;
            staged = unwritten 64;
            staged_used = 0;
            sent = unwritten 64;
            sent_used = 0;
          };
    }
    -- receive window 10, target 20: 11 bytes, not charged, none; 1 byte, adjust of 11
    ∷ record {
      world = with 2 (chan 2 10 9 9 false ∷ []) ([]);
      calls = act (adjust 2 11 20) ∷ act (window_of 2) ∷ act (adjust 2 1 20) ∷ act (window_of 2) ∷ [];
      sees =
          record {
            answers = gave (adjusted false) ∷ gave (window_is 10) ∷ gave (adjusted true) ∷ gave (window_is 20) ∷ [];
            in_use = 2 ∷ [];
            windows = 9 ∷ [];
            pending = [];
            queue = unwritten 64;
            staged = (0 ∷ 0 ∷ 0 ∷ 9 ∷ 93 ∷ 0 ∷ 0 ∷ 0 ∷ 7 ∷ 0 ∷ 0 ∷ 0 ∷ 11 ∷ []) ++ unwritten 51;
            staged_used = 13;
            sent = unwritten 64;
            sent_used = 0;
          };
    }
    -- window 4,294,967,290: credit 5 taken, 6 refused
    ∷ record {
      world = with 2 (chan 2 64 4294967290 9 false ∷ []) ([]);
      calls = act (incoming (93 ∷ 0 ∷ 0 ∷ 0 ∷ 2 ∷ 0 ∷ 0 ∷ 0 ∷ 6 ∷ [])) ∷ act (incoming (93 ∷ 0 ∷ 0 ∷ 0 ∷ 2 ∷ 0 ∷ 0 ∷ 0 ∷ 5 ∷ [])) ∷ [];
      sees =
          record {
            answers = refused 6 ∷ gave (message (credit 2 5)) ∷ [];
            in_use = 2 ∷ [];
            windows = 4294967295 ∷ [];
            pending = [];
            queue = unwritten 64;
            staged = unwritten 64;
            staged_used = 0;
            sent = unwritten 64;
            sent_used = 0;
          };
    }
    -- 4 extended bytes in one packet take 21
    ∷ record {
      world = with 2 (chan 2 64 9 9 false ∷ []) ([]);
      calls = put (on staged false) (send (Extended 1) 2 (1 ∷ 2 ∷ 3 ∷ 4 ∷ [])) ∷ [];
      sees =
          record {
            answers = gave (framed 4) ∷ [];
            in_use = 2 ∷ [];
            windows = 5 ∷ [];
            pending = [];
            queue = unwritten 64;
            staged = (0 ∷ 0 ∷ 0 ∷ 17 ∷ 95 ∷ 0 ∷ 0 ∷ 0 ∷ 7 ∷ 0 ∷ 0 ∷ 0 ∷ 1 ∷ 0 ∷ 0 ∷ 0 ∷ 4 ∷ 1 ∷ 2 ∷ 3 ∷ 4 ∷ []) ++ unwritten 43;
            staged_used = 21;
            sent = unwritten 64;
            sent_used = 0;
          };
    }
    -- last byte, both marks, writer form, staged empty, no rekey: 14 bytes sent, 18 staged, record gone
    ∷ record {
      world = with 2 (chan 2 64 9 9 true ∷ []) (record { number = 2; kind = stored Plain; bytes = 1 ∷ [] } ∷ []);
      calls = put (on straight false) (flush 2) ∷ [];
      sees =
          record {
            answers = gave (complete 1 true true) ∷ [];
            in_use = [];
            windows = [];
            pending = [];
            queue = (0 ∷ []) ++ unwritten 63;
            staged = (0 ∷ 0 ∷ 0 ∷ 5 ∷ 96 ∷ 0 ∷ 0 ∷ 0 ∷ 7 ∷ 0 ∷ 0 ∷ 0 ∷ 5 ∷ 97 ∷ 0 ∷ 0 ∷ 0 ∷ 7 ∷ []) ++ unwritten 46;
            staged_used = 18;
            sent = (0 ∷ 0 ∷ 0 ∷ 10 ∷ 94 ∷ 0 ∷ 0 ∷ 0 ∷ 7 ∷ 0 ∷ 0 ∷ 0 ∷ 1 ∷ 1 ∷ []) ++ unwritten 50;
            sent_used = 14;
          };
    }
    -- channel 2 at limit 0 with a byte pending, 3 ready: flush of all stops at 2, 3 untouched
    ∷ record {
      world = with 3 (chan 3 64 9 9 false ∷ chan 2 64 9 0 false ∷ []) (record { number = 3; kind = stored Plain; bytes = 1 ∷ [] } ∷ record { number = 2; kind = stored Plain; bytes = 2 ∷ [] } ∷ []);
      calls = flush_all (on straight false) ∷ [];
      sees =
          record {
            answers = stopped 2 4 ∷ [];
            in_use = 2 ∷ 3 ∷ [];
            windows = 9 ∷ 9 ∷ [];
            pending = 1 ∷ 1 ∷ [];
            queue = (1 ∷ 2 ∷ []) ++ unwritten 62;
            staged = unwritten 64;
            staged_used = 0;
            sent = unwritten 64;
            sent_used = 0;
          };
    }
    ∷ []

-- and the errors that read well, with the lent buffers to the byte
unfoldable pub errors : List Case
errors =
    -- the place used as number: numbers 5 and 9 stand at places 0 and 1
    record {
      world = with 9 (chan 5 64 9 9 false ∷ chan 9 64 9 9 false ∷ []) ([]);
      calls = act (close 0) ∷ act (close 1) ∷ act (close 9) ∷ act (new_channel_id) ∷ act (open_for_peer 7 7 64 32 8 8) ∷ act (open_for_peer 5 7 64 32 8 8) ∷ [];
      sees =
          record {
            answers = refused 2 ∷ refused 2 ∷ gave done ∷ gave (number 10) ∷ gave done ∷ refused 8 ∷ [];
            in_use = 5 ∷ 7 ∷ [];
            windows = 9 ∷ 8 ∷ [];
            pending = [];
            queue = unwritten 64;
            staged = (0 ∷ 0 ∷ 0 ∷ 5 ∷ 97 ∷ 0 ∷ 0 ∷ 0 ∷ 7 ∷ []) ++ unwritten 55;
            staged_used = 9;
            sent = unwritten 64;
            sent_used = 0;
          };
    }
    -- Limit is not checked where the data is only queued
    ∷ record {
      world = with 2 (chan 2 64 9 0 false ∷ []) (record { number = 2; kind = stored Plain; bytes = 1 ∷ [] } ∷ []);
      calls = put (on staged false) (send Plain 2 (2 ∷ [])) ∷ [];
      sees =
          record {
            answers = gave (framed 0) ∷ [];
            in_use = 2 ∷ [];
            windows = 9 ∷ [];
            pending = 1 ∷ 1 ∷ [];
            queue = (1 ∷ 2 ∷ []) ++ unwritten 62;
            staged = unwritten 64;
            staged_used = 0;
            sent = unwritten 64;
            sent_used = 0;
          };
    }
    -- nothing goes straight past staged packets
    ∷ record {
      world = with 2 (chan 2 64 9 9 false ∷ chan 3 64 9 9 false ∷ []) ([]);
      calls = act (eof 3) ∷ put (on straight false) (send Plain 2 (1 ∷ [])) ∷ [];
      sees =
          record {
            answers = gave done ∷ gave (framed 1) ∷ [];
            in_use = 2 ∷ 3 ∷ [];
            windows = 8 ∷ 9 ∷ [];
            pending = [];
            queue = unwritten 64;
            staged = (0 ∷ 0 ∷ 0 ∷ 5 ∷ 96 ∷ 0 ∷ 0 ∷ 0 ∷ 7 ∷ 0 ∷ 0 ∷ 0 ∷ 10 ∷ 94 ∷ 0 ∷ 0 ∷ 0 ∷ 7 ∷ 0 ∷ 0 ∷ 0 ∷ 1 ∷ 1 ∷ []) ++ unwritten 41;
            staged_used = 23;
            sent = unwritten 64;
            sent_used = 0;
          };
    }
    -- no room: the window is not charged; one byte less is taken
    ∷ record {
      world = with 2 (chan 2 64 100 100 false ∷ []) ([]);
      calls = put (on staged false) (send Plain 2 (replicate 52 1)) ∷ put (on staged false) (send Plain 2 (replicate 51 1)) ∷ [];
      sees =
          record {
            answers = refused 5 ∷ gave (framed 51) ∷ [];
            in_use = 2 ∷ [];
            windows = 49 ∷ [];
            pending = [];
            queue = unwritten 64;
            staged = (0 ∷ 0 ∷ 0 ∷ 60 ∷ 94 ∷ 0 ∷ 0 ∷ 0 ∷ 7 ∷ 0 ∷ 0 ∷ 0 ∷ 51 ∷ 1 ∷ 1 ∷ 1 ∷ 1 ∷ 1 ∷ 1 ∷ 1 ∷ 1 ∷ 1 ∷ 1 ∷ 1 ∷ 1 ∷ 1 ∷ 1 ∷ 1 ∷ 1 ∷ 1 ∷ 1 ∷ 1 ∷ 1 ∷ 1 ∷ 1 ∷ 1 ∷ 1 ∷ 1 ∷ 1 ∷ 1 ∷ 1 ∷ 1 ∷ 1 ∷ 1 ∷ 1 ∷ 1 ∷ 1 ∷ 1 ∷ 1 ∷ 1 ∷ 1 ∷ 1 ∷ 1 ∷ 1 ∷ 1 ∷ 1 ∷ 1 ∷ 1 ∷ 1 ∷ 1 ∷ 1 ∷ 1 ∷ 1 ∷ 1 ∷ []) ++ unwritten 0;
            staged_used = 64;
            sent = unwritten 64;
            sent_used = 0;
          };
    }
    -- the remainder's room is asked with the frames': 60 bytes at window 4, then 64 left of 64
    ∷ record {
      world = with 2 (chan 2 64 4 9 false ∷ chan 3 64 0 9 false ∷ []) (record { number = 3; kind = stored Plain; bytes = 7 ∷ [] } ∷ []);
      calls = put (on staged false) (send Plain 2 (replicate 68 1)) ∷ put (on staged false) (send Plain 2 (replicate 67 1)) ∷ [];
      sees =
          record {
            answers = refused 5 ∷ gave (framed 4) ∷ [];
            in_use = 2 ∷ 3 ∷ [];
            windows = 0 ∷ 0 ∷ [];
            pending = 1 ∷ 63 ∷ [];
            queue = (7 ∷ 1 ∷ 1 ∷ 1 ∷ 1 ∷ 1 ∷ 1 ∷ 1 ∷ 1 ∷ 1 ∷ 1 ∷ 1 ∷ 1 ∷ 1 ∷ 1 ∷ 1 ∷ 1 ∷ 1 ∷ 1 ∷ 1 ∷ 1 ∷ 1 ∷ 1 ∷ 1 ∷ 1 ∷ 1 ∷ 1 ∷ 1 ∷ 1 ∷ 1 ∷ 1 ∷ 1 ∷ 1 ∷ 1 ∷ 1 ∷ 1 ∷ 1 ∷ 1 ∷ 1 ∷ 1 ∷ 1 ∷ 1 ∷ 1 ∷ 1 ∷ 1 ∷ 1 ∷ 1 ∷ 1 ∷ 1 ∷ 1 ∷ 1 ∷ 1 ∷ 1 ∷ 1 ∷ 1 ∷ 1 ∷ 1 ∷ 1 ∷ 1 ∷ 1 ∷ 1 ∷ 1 ∷ 1 ∷ 1 ∷ []) ++ unwritten 0;
            staged = (0 ∷ 0 ∷ 0 ∷ 13 ∷ 94 ∷ 0 ∷ 0 ∷ 0 ∷ 7 ∷ 0 ∷ 0 ∷ 0 ∷ 4 ∷ 1 ∷ 1 ∷ 1 ∷ 1 ∷ []) ++ unwritten 47;
            staged_used = 17;
            sent = unwritten 64;
            sent_used = 0;
          };
    }
    -- EOF stays a mark while an entry remains, and goes out behind it
    ∷ record {
      world = with 2 (chan 2 64 0 9 false ∷ []) (record { number = 2; kind = stored Plain; bytes = 1 ∷ [] } ∷ []);
      calls = act (eof 2) ∷ put (on straight false) (flush 2) ∷ act (incoming (93 ∷ 0 ∷ 0 ∷ 0 ∷ 2 ∷ 0 ∷ 0 ∷ 0 ∷ 3 ∷ [])) ∷ put (on straight false) (flush 2) ∷ [];
      sees =
          record {
            answers = gave done ∷ gave (incomplete 0) ∷ gave (message (credit 2 3)) ∷ gave (complete 1 true false) ∷ [];
            in_use = 2 ∷ [];
            windows = 2 ∷ [];
            pending = [];
            queue = (0 ∷ []) ++ unwritten 63;
            staged = (0 ∷ 0 ∷ 0 ∷ 5 ∷ 96 ∷ 0 ∷ 0 ∷ 0 ∷ 7 ∷ []) ++ unwritten 55;
            staged_used = 9;
            sent = (0 ∷ 0 ∷ 0 ∷ 10 ∷ 94 ∷ 0 ∷ 0 ∷ 0 ∷ 7 ∷ 0 ∷ 0 ∷ 0 ∷ 1 ∷ 1 ∷ []) ++ unwritten 50;
            sent_used = 14;
          };
    }
    -- a flush cuts an entry, closes the queue up and zeroes its tail; other channels' entries stay
    ∷ record {
      world = with 3 (chan 2 64 3 9 false ∷ chan 3 64 9 9 false ∷ []) (record { number = 2; kind = stored Plain; bytes = 1 ∷ 2 ∷ [] } ∷ record { number = 3; kind = stored Plain; bytes = 3 ∷ [] } ∷ record { number = 2; kind = stored Plain; bytes = [] } ∷ record { number = 2; kind = stored Plain; bytes = 4 ∷ 5 ∷ [] } ∷ []);
      calls = put (on staged false) (flush 2) ∷ [];
      sees =
          record {
            answers = gave (incomplete 3) ∷ [];
            in_use = 2 ∷ 3 ∷ [];
            windows = 0 ∷ 9 ∷ [];
            pending = 1 ∷ 1 ∷ [];
            queue = (3 ∷ 5 ∷ 0 ∷ 0 ∷ 0 ∷ []) ++ unwritten 59;
            staged = (0 ∷ 0 ∷ 0 ∷ 11 ∷ 94 ∷ 0 ∷ 0 ∷ 0 ∷ 7 ∷ 0 ∷ 0 ∷ 0 ∷ 2 ∷ 1 ∷ 2 ∷ 0 ∷ 0 ∷ 0 ∷ 10 ∷ 94 ∷ 0 ∷ 0 ∷ 0 ∷ 7 ∷ 0 ∷ 0 ∷ 0 ∷ 1 ∷ 4 ∷ []) ++ unwritten 35;
            staged_used = 29;
            sent = unwritten 64;
            sent_used = 0;
          };
    }
    -- an incoming CLOSE stages one, and drops the record and its entries
    ∷ record {
      world = with 3 (chan 2 64 9 9 true ∷ chan 3 64 9 9 false ∷ []) (record { number = 2; kind = stored Plain; bytes = 1 ∷ [] } ∷ record { number = 3; kind = stored Plain; bytes = 2 ∷ [] } ∷ record { number = 2; kind = stored Plain; bytes = 3 ∷ [] } ∷ []);
      calls = act (incoming (97 ∷ 0 ∷ 0 ∷ 0 ∷ 2 ∷ [])) ∷ act (incoming (97 ∷ 0 ∷ 0 ∷ 0 ∷ 2 ∷ [])) ∷ [];
      sees =
          record {
            answers = gave (message (closed 2)) ∷ refused 2 ∷ [];
            in_use = 3 ∷ [];
            windows = 9 ∷ [];
            pending = 1 ∷ [];
            queue = (2 ∷ 0 ∷ 0 ∷ []) ++ unwritten 61;
            staged = (0 ∷ 0 ∷ 0 ∷ 5 ∷ 97 ∷ 0 ∷ 0 ∷ 0 ∷ 7 ∷ []) ++ unwritten 55;
            staged_used = 9;
            sent = unwritten 64;
            sent_used = 0;
          };
    }
    -- a staged flush is held during rekey, and then moves whole frames; the freed tail is zeroed, and drain zeroes sent
    ∷ record {
      world = with 2 (chan 2 64 9 9 false ∷ []) ([]);
      calls = act (eof 2) ∷ flush_staged true ∷ flush_staged false ∷ drain ∷ act (eof 2) ∷ flush_staged false ∷ [];
      sees =
          record {
            answers = gave done ∷ gave held ∷ moved 1 9 ∷ gave done ∷ gave done ∷ moved 1 9 ∷ [];
            in_use = 2 ∷ [];
            windows = 9 ∷ [];
            pending = [];
            queue = unwritten 64;
            staged = (0 ∷ 0 ∷ 0 ∷ 0 ∷ 0 ∷ 0 ∷ 0 ∷ 0 ∷ 0 ∷ []) ++ unwritten 55;
            staged_used = 0;
            sent = (0 ∷ 0 ∷ 0 ∷ 5 ∷ 96 ∷ 0 ∷ 0 ∷ 0 ∷ 7 ∷ []) ++ unwritten 55;
            sent_used = 9;
          };
    }
    -- the forms of incoming messages: cut short, too long, unknown, unconfirmed, confirmed twice, refused by the peer
    ∷ record {
      world = with 2 (unconfirmed 2 ∷ unconfirmed 3 ∷ chan 4 64 9 9 false ∷ []) ([]);
      calls = act (incoming []) ∷ act (incoming (90 ∷ 0 ∷ 0 ∷ 0 ∷ 2 ∷ [])) ∷ act (incoming (96 ∷ 0 ∷ 0 ∷ 0 ∷ [])) ∷ act (incoming (96 ∷ 0 ∷ 0 ∷ 0 ∷ 4 ∷ 0 ∷ [])) ∷ act (incoming (96 ∷ 0 ∷ 0 ∷ 0 ∷ 2 ∷ [])) ∷ act (incoming (96 ∷ 0 ∷ 0 ∷ 0 ∷ 4 ∷ [])) ∷ act (incoming (91 ∷ 0 ∷ 0 ∷ 0 ∷ 2 ∷ 0 ∷ 0 ∷ 0 ∷ 8 ∷ 0 ∷ 0 ∷ 0 ∷ 5 ∷ 0 ∷ 0 ∷ 0 ∷ 3 ∷ 1 ∷ [])) ∷ act (incoming (91 ∷ 0 ∷ 0 ∷ 0 ∷ 2 ∷ 0 ∷ 0 ∷ 0 ∷ 8 ∷ 0 ∷ 0 ∷ 0 ∷ 5 ∷ 0 ∷ 0 ∷ 0 ∷ 3 ∷ [])) ∷ act (incoming (92 ∷ 0 ∷ 0 ∷ 0 ∷ 3 ∷ 0 ∷ 0 ∷ 0 ∷ 1 ∷ 0 ∷ 0 ∷ 0 ∷ 2 ∷ 65 ∷ 66 ∷ 0 ∷ 0 ∷ 0 ∷ 1 ∷ 67 ∷ [])) ∷ act (incoming (94 ∷ 0 ∷ 0 ∷ 0 ∷ 2 ∷ 0 ∷ 0 ∷ 0 ∷ 2 ∷ 65 ∷ 66 ∷ [])) ∷ act (incoming (94 ∷ 0 ∷ 0 ∷ 0 ∷ 2 ∷ 0 ∷ 0 ∷ 0 ∷ 3 ∷ 65 ∷ 66 ∷ [])) ∷ act (incoming (95 ∷ 0 ∷ 0 ∷ 0 ∷ 4 ∷ 0 ∷ 0 ∷ 0 ∷ 1 ∷ 0 ∷ 0 ∷ 0 ∷ 0 ∷ [])) ∷ [];
      sees =
          record {
            answers = refused 7 ∷ refused 7 ∷ refused 7 ∷ refused 7 ∷ refused 3 ∷ gave (message (ended 4)) ∷ gave (message (confirmation 2 8 5 3)) ∷ refused 8 ∷ gave (message (failure 3 1 13 2 19 1)) ∷ gave (message (received 2 Plain 9 2)) ∷ refused 7 ∷ gave (message (received 4 (Extended 1) 13 0)) ∷ [];
            in_use = 2 ∷ 4 ∷ [];
            windows = 5 ∷ 9 ∷ [];
            pending = [];
            queue = unwritten 64;
            staged = unwritten 64;
            staged_used = 0;
            sent = unwritten 64;
            sent_used = 0;
          };
    }
    ∷ []
