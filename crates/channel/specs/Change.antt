-- The changes that a call makes to a record or to the table.
-- Assumes nothing.
use Rattle.channel.specs.declared.Record.{Record}
use Rattle.std.specs.Prelude.{ℕ, Bool, true, false, List}
use Rattle.channel.specs.State.{Place, holds, vacant, Entry, Table, replace, number_of, peer_of}

-- the parts of a record that calls change
pub record Peer : Type 0 where
  pub number : ℕ
  pub confirmed : Bool
  pub window : ℕ
  pub limit : ℕ

pub record Marks : Type 0 where
  pub eof : Bool
  pub close : Bool

abbrev pub peer_side : Record → Peer
peer_side c = record { number = peer_of c; confirmed = c.confirmed; window = c.recipient_window_size; limit = c.recipient_maximum_packet_size }

abbrev pub marks_of : Record → Marks
marks_of c = record { eof = c.pending_eof; close = c.pending_close }

-- the record with its peer's side, its receive window and its marks as given: the one place that names every field
abbrev pub remade : Record → Peer → ℕ → Marks → Record
remade c p window m =
    record {
      sender_channel = c.sender_channel;
      recipient_channel = record { 0 = p.number };
      confirmed = p.confirmed;
      sender_window_size = window;
      sender_maximum_packet_size = c.sender_maximum_packet_size;
      recipient_window_size = p.window;
      recipient_maximum_packet_size = p.limit;
      wants_reply = c.wants_reply;
      pending_eof = m.eof;
      pending_close = m.close;
    }

-- a record as it is opened at this end
unfoldable pub fresh : ℕ → ℕ → ℕ → Record
fresh n window limit =
    record {
      sender_channel = record { 0 = n };
      recipient_channel = record { 0 = 0 };
      confirmed = false;
      sender_window_size = window;
      sender_maximum_packet_size = limit;
      recipient_window_size = 0;
      recipient_maximum_packet_size = 0;
      wants_reply = false;
      pending_eof = false;
      pending_close = false;
    }

-- confirmed with the peer's number, window and limit
unfoldable pub confirm : Record → ℕ → ℕ → ℕ → Record
confirm c peer window limit = remade c (record { number = peer; confirmed = true; window = window; limit = limit }) c.sender_window_size (marks_of c)

unfoldable pub with_peer_window : Record → ℕ → Record
with_peer_window c window = remade c (record { number = peer_of c; confirmed = c.confirmed; window = window; limit = c.recipient_maximum_packet_size }) c.sender_window_size (marks_of c)

unfoldable pub with_window : Record → ℕ → Record
with_window c window = remade c (peer_side c) window (marks_of c)

unfoldable pub with_marks : Record → Bool → Bool → Record
with_marks c eof close = remade c (peer_side c) c.sender_window_size (record { eof = eof; close = close })

unfoldable pub with_last : Table → ℕ → Table
with_last t n = record { last = n; places = t.places; entries = t.entries }

unfoldable pub with_places : Table → List Place → Table
with_places t ps = record { last = t.last; places = ps; entries = t.entries }

unfoldable pub with_entries : Table → List Entry → Table
with_entries t es = record { last = t.last; places = t.places; entries = es }

-- the record c holds its place as d now; its place is vacant
unfoldable pub altered : Table → Record → Record → Table
altered t c d = with_places t (replace (number_of c) (holds d) t.places)

unfoldable pub removed : Table → Record → Table
removed t c = with_places t (replace (number_of c) vacant t.places)
