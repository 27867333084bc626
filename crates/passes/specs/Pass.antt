-- The passes over a table: its entries, what a flush does to them, and what the size pass answers.
-- Assumes nothing.
use Rattle.std.specs.Prelude.{ℕ, ◌*◌, ◌≤◌, ◌≡◌, true, false, ◌&&◌, List, take, eqb, Result, Ok, Err}
use Rattle.channel.specs.declared.Record.{Record}
use Rattle.channel.specs.declared.Entry as E
use Rattle.channel.specs.declared.Table as D
use Rattle.channel.specs.declared.Refusal.{Refusal}
use Rattle.channel.specs.State.{most_bytes, Entry, number_of}
use Rattle.channel.specs.Decide.{Flushed, flushed, any_byte}
use Rattle.channel.specs.Raw.{entries_of}
use Rattle.passes.specs.declared.Size.{Size}
use Rattle.passes.specs.Flush.{size_of}

-- the entries of a table over its queue, as `meaning` has them
abbrev pub entries_in : D.Table → List ℕ → List Entry
entries_in t q = entries_of t.entry_count t.entries (take t.queue_used q)

-- what a flush of the record does to them, over the fields that it reads, and over the table
abbrev pub flushed_of : List E.Entry → ℕ → ℕ → List ℕ → Record → Flushed
flushed_of es count used q c = flushed c c.recipient_window_size (entries_of count es (take used q))

abbrev pub flushed_in : D.Table → List ℕ → Record → Flushed
flushed_in t q c = flushed_of t.entries t.entry_count t.queue_used q c

-- what the size pass answers: Limit, or the sizes of the flush
unfoldable pub PlannedBy : Record → List Entry → Result Size Refusal → Type 0
PlannedBy c es (Err k) = (eqb c.recipient_maximum_packet_size 0 && any_byte (number_of c) es ≡ true) × (k ≡ Refusal.Limit)
PlannedBy c es (Ok s) = (eqb c.recipient_maximum_packet_size 0 && any_byte (number_of c) es ≡ false) × (s ≡ size_of (flushed c c.recipient_window_size es)) × (s.size ≤ 18 * most_bytes)
