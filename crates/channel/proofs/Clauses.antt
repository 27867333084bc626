-- The clauses of `is_sound` by their names.
-- Assumes nothing.
use mathlib.Core.Path.{◌≡◌}
use mathlib.Core.Bool.{true}
use mathlib.Core.List.{[], ◌∷◌}
use lib.ListN.{length, take, drop}
use lib.Dec.{leb, eqb}
use Rattle.laws.specs.Clauses.{every}
use Rattle.laws.proofs.Clauses.{AllTrue, every_of}
use Rattle.channel.specs.State.{most_bytes, most_entries}
use Rattle.channel.specs.Raw.{Raw, meaning}
use Rattle.channel.specs.Sound.{unused_zero, entries_zero, distinct, all_named, sum_left, all_marked, whole_frames, is_sound}

pub record Clauses (r : Raw) : Type 0 where
  pub queue_long : leb (length r.queue) most_bytes ≡ true
  pub staged_long : leb (length r.staged) most_bytes ≡ true
  pub sent_long : leb (length r.sent) most_bytes ≡ true
  pub queue_used : leb r.held.queue_used (length r.queue) ≡ true
  pub staged_used : leb r.held.staged_used (length r.staged) ≡ true
  pub sent_used : leb r.held.sent_used (length r.sent) ≡ true
  pub few : leb r.held.entry_count most_entries ≡ true
  pub places : unused_zero r.held.used r.held.records ≡ true
  pub entries : entries_zero (drop r.held.entry_count r.held.entries) ≡ true
  pub apart : distinct (meaning r).table.places ≡ true
  pub named : all_named (meaning r).table.places (meaning r).table.entries ≡ true
  pub sum : eqb (sum_left r.held.entry_count r.held.entries) r.held.queue_used ≡ true
  pub marked : all_marked (meaning r).table.entries (meaning r).table.places ≡ true
  pub whole : whole_frames r.held.staged_used (take r.held.staged_used r.staged) ≡ true

pub clauses : (r : Raw) → is_sound r ≡ true → Clauses r
unfolding is_sound AllTrue
clauses r e =
    let a = every_of (_ ∷ _ ∷ _ ∷ _ ∷ _ ∷ _ ∷ _ ∷ _ ∷ _ ∷ _ ∷ _ ∷ _ ∷ _ ∷ _ ∷ []) e in
    let b = a.1.1.1.1.1.1.1 in
    record {
      queue_long = a.0;
      staged_long = a.1.0;
      sent_long = a.1.1.0;
      queue_used = a.1.1.1.0;
      staged_used = a.1.1.1.1.0;
      sent_used = a.1.1.1.1.1.0;
      few = a.1.1.1.1.1.1.0;
      places = b.0;
      entries = b.1.0;
      apart = b.1.1.0;
      named = b.1.1.1.0;
      sum = b.1.1.1.1.0;
      marked = b.1.1.1.1.1.0;
      whole = b.1.1.1.1.1.1.0;
    }

pub by_clauses : (r : Raw) → Clauses r → is_sound r ≡ true
unfolding is_sound every
by_clauses r c = rw (c.queue_long, c.staged_long, c.sent_long, c.queue_used, c.staged_used, c.sent_used, c.few, c.places, c.entries, c.apart, c.named, c.sum, c.marked, c.whole)
