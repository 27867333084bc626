-- The test's parts, in the order in which the code decides them.
-- Assumes nothing.
use Rattle.std.specs.Prelude.{ℕ, ◌%◌, ◌≤◌, ◌≡◌, Bool, true, false, ◌&&◌, List, [], length, drop, get_or, leb, eqb, Option, Some, None}
use Rattle.channel.specs.declared.Table as D
use Rattle.channel.specs.declared.Entry as E
use Rattle.channel.specs.State.{place_count, most_entries, most_bytes, Place, Entry, is_used, any_entry}
use Rattle.channel.specs.Raw.{Raw, places_of, entries_of}
use Rattle.channel.specs.Sound.{unused_zero, entries_zero, distinct, all_named, sum_left, all_marked}
use Rattle.soundness.specs.declared.Look.{Look}

-- what the parts know of the table: what its types say of its arrays, and its entry count
pub record Sized (t : D.Table) : Type 0 where
  pub places : length t.records ≡ place_count
  pub entries : length t.entries ≡ most_entries
  pub few : t.entry_count ≤ most_entries

-- no buffer is too long, nor a used count too large
abbrev pub sizes : Raw → Bool
sizes r = leb (length r.queue) most_bytes && leb (length r.staged) most_bytes && leb (length r.sent) most_bytes && leb r.held.queue_used (length r.queue)

abbrev pub limited : Raw → Bool
limited r = sizes r && leb r.held.staged_used (length r.staged) && leb r.held.sent_used (length r.sent) && leb r.held.entry_count most_entries

-- the table's places, and its entries without their bytes, which no part of the test reads
abbrev pub places_in : D.Table → List Place
places_in t = places_of t.used t.records

abbrev pub entries_in : D.Table → List Entry
entries_in t = entries_of t.entry_count t.entries []

-- the same of a list of entries
abbrev pub listed : List E.Entry → List Entry
listed es = entries_of (length es) es []

-- what one look over the table decides
unfoldable pub tidy : D.Table → Bool
tidy t = unused_zero t.used t.records && (entries_zero (drop t.entry_count t.entries) && distinct (places_in t))

-- no number is used twice, a used number has a hint, and where no mark was seen every mark has an entry
pub record Hinted (ps : List Place) (l : Look) : Type 0 where
  pub apart : distinct ps ≡ true
  pub hinted : (n : ℕ) → is_used n ps ≡ true → eqb (get_or l.hints (n % 64) 0) 0 ≡ false
  pub unmarked : l.marked ≡ false → (es : List Entry) → all_marked es ps ≡ true

abbrev pub LookedOver : D.Table → Option Look → Type 0
LookedOver t None = tidy t ≡ false
LookedOver t (Some l) = (tidy t ≡ true) × Hinted (places_in t) l

unfoldable pub entries_sound : D.Table → Bool
entries_sound t = all_named (places_in t) (entries_in t) && eqb (sum_left t.entry_count t.entries) t.queue_used

-- and, if they are sound, whether one has the number n
abbrev pub EntriesTold : D.Table → ℕ → Option Bool → Type 0
EntriesTold t n None = entries_sound t ≡ false
EntriesTold t n (Some waits) = (entries_sound t ≡ true) × (waits ≡ any_entry n (entries_in t))

unfoldable pub marks_sound : D.Table → Bool
marks_sound t = all_marked (entries_in t) (places_in t)
