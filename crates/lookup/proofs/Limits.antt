-- A sound state keeps its bounds.
-- Assumes nothing.
use mathlib.Core.Path.{◌≡◌}
use mathlib.Core.Bool.{true}
use borrow.Author.Tests.{eqb-true, leb-true}
use Rattle.channel.specs.Raw.{Raw}
use Rattle.channel.specs.Sound.{is_sound}
use Rattle.channel.proofs.Clauses.{clauses}
use Rattle.lookup.specs.Limits.{Limits}

pub limits : (r : Raw) → is_sound r ≡ true → Limits r
limits r e =
    let c = clauses r e in
    record {
      queue_long = leb-true _ _ c.queue_long;
      staged_long = leb-true _ _ c.staged_long;
      sent_long = leb-true _ _ c.sent_long;
      queue_used = leb-true _ _ c.queue_used;
      staged_used = leb-true _ _ c.staged_used;
      sent_used = leb-true _ _ c.sent_used;
      few = leb-true _ _ c.few;
      sum = eqb-true _ _ c.sum;
    }
