-- The bounds that a sound state keeps.
-- Assumes nothing.
use Rattle.std.specs.Prelude.{◌≤◌, ◌≡◌, length}
use Rattle.channel.specs.State.{most_bytes, most_entries}
use Rattle.channel.specs.Raw.{Raw}
use Rattle.channel.specs.Sound.{sum_left}

pub record Limits (r : Raw) : Type 0 where
  pub queue_long : length r.queue ≤ most_bytes
  pub staged_long : length r.staged ≤ most_bytes
  pub sent_long : length r.sent ≤ most_bytes
  pub queue_used : r.held.queue_used ≤ length r.queue
  pub staged_used : r.held.staged_used ≤ length r.staged
  pub sent_used : r.held.sent_used ≤ length r.sent
  pub few : r.held.entry_count ≤ most_entries
  pub sum : sum_left r.held.entry_count r.held.entries ≡ r.held.queue_used
