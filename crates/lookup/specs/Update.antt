-- The small updates of a table as the code holds it, each over the one of three literals that names the fields that it changes.
-- Assumes nothing.
use Rattle.std.specs.Prelude.{ℕ, ◌+◌, ◌-◌, ◌^◌, List, set}
use Rattle.channel.specs.declared.Record.{Record}
use Rattle.channel.specs.declared.Entry as E
use Rattle.channel.specs.declared.Table as D
use Rattle.channel.specs.Raw.{zero_record}

-- the last number and the places as given
abbrev pub placed : D.Table → ℕ → ℕ → List Record → D.Table
placed t last used records =
    record {
      last = last;
      used = used;
      records = records;
      entries = t.entries;
      entry_count = t.entry_count;
      queue_used = t.queue_used;
      staged_used = t.staged_used;
      sent_used = t.sent_used;
    }

-- the entries and the queue's used count as given
abbrev pub filed : D.Table → List E.Entry → ℕ → ℕ → D.Table
filed t entries count used =
    record {
      last = t.last;
      used = t.used;
      records = t.records;
      entries = entries;
      entry_count = count;
      queue_used = used;
      staged_used = t.staged_used;
      sent_used = t.sent_used;
    }

-- the used counts of staged and sent as given
abbrev pub counted : D.Table → ℕ → ℕ → D.Table
counted t staged sent =
    record {
      last = t.last;
      used = t.used;
      records = t.records;
      entries = t.entries;
      entry_count = t.entry_count;
      queue_used = t.queue_used;
      staged_used = staged;
      sent_used = sent;
    }

abbrev pub last_set : D.Table → ℕ → D.Table
last_set t n = placed t n t.used t.records

abbrev pub record_set : D.Table → ℕ → Record → D.Table
record_set t i d = placed t t.last t.used (set t.records i d)

-- the place is zero and free
abbrev pub place_freed : D.Table → ℕ → D.Table
place_freed t i = placed t t.last (t.used - 2 ^ i) (set t.records i zero_record)

-- the record takes the place, which was free
abbrev pub place_taken : D.Table → ℕ → Record → D.Table
place_taken t i d = placed t t.last (t.used + 2 ^ i) (set t.records i d)

-- one entry behind those in use, with its bytes
abbrev pub entry_pushed : D.Table → E.Entry → D.Table
entry_pushed t e = filed t (set t.entries t.entry_count e) (t.entry_count + 1) (t.queue_used + e.left)

abbrev pub staged_more : D.Table → ℕ → D.Table
staged_more t n = counted t (t.staged_used + n) t.sent_used

abbrev pub sent_more : D.Table → ℕ → D.Table
sent_more t n = counted t t.staged_used (t.sent_used + n)
