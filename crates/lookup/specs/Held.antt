-- What the lookups tell their callers: where a channel's record stands, and which place a new one takes.
-- Assumes nothing.
use Rattle.std.specs.Prelude.{ℕ, ◌<◌, ◌≡◌, true, false, List, get_or, Option, Some, None}
use Rattle.laws.specs.Bits.{bit}
use Rattle.channel.specs.declared.Record.{Record}
use Rattle.channel.specs.declared.Table as D
use Rattle.channel.specs.State.{place_count, number_of, vacant, holds, nowhere, found, look}
use Rattle.channel.specs.Raw.{places_of, zero_record}

abbrev pub record_at : D.Table → ℕ → Record
record_at t i = get_or t.records i zero_record

-- place i holds the record with the number n, over the used marks and the records alone
pub record HeldIn (marks : ℕ) (records : List Record) (n i : ℕ) : Type 0 where
  pub place : i < place_count
  pub used : bit marks i ≡ true
  pub at : get_or (places_of marks records) i vacant ≡ holds (get_or records i zero_record)
  pub number : number_of (get_or records i zero_record) ≡ n
  pub here : look n (places_of marks records) ≡ found (get_or records i zero_record)

abbrev pub HeldAt : D.Table → ℕ → ℕ → Type 0
HeldAt t n i = HeldIn t.used t.records n i

-- where the record with the number n stands, if there is one
abbrev pub PlaceIs : D.Table → ℕ → Option ℕ → Type 0
PlaceIs t n (Some i) = HeldAt t n i
PlaceIs t n None = look n (places_of t.used t.records) ≡ nowhere

-- place i is the lowest free one
pub record FreeAt (t : D.Table) (i : ℕ) : Type 0 where
  pub place : i < place_count
  pub free : bit t.used i ≡ false
  pub below : (k : ℕ) → k < i → bit t.used k ≡ true
