-- What EOF and CLOSE have in common: which way either takes.
-- Assumes nothing.
use Rattle.std.specs.Prelude.{ℕ, ◌+◌, ◌≤◌, ◌≡◌, Bool, true, false, length, Result, Ok, Err}
use Rattle.channel.specs.declared.Refusal.{Refusal}
use Rattle.channel.specs.Call.{act, eof, close}
use Rattle.channel.specs.Raw.{Raw}
use Rattle.channel.specs.State.{peer_of}
use Rattle.channel.specs.Called.{Typed, called}
use Rattle.channel.specs.Answers.{refusal}
use Rattle.lookup.specs.Held.{record_at}
use Rattle.soundness.specs.Sees.{FoundIn}
use Rattle.ending.specs.declared.Way.{Way}
use Rattle.ending.specs.declared.Way.TheVariants.{Mark, Send}

-- the channel's record stands at place i, confirmed, with entries or without
pub record ServedAt (r : Raw) (n i : ℕ) (waits : Bool) : Type 0 where
  pub typed : Typed r
  pub found : FoundIn r n (record { place = i; waits = waits })
  pub confirmed : (record_at r.held i).confirmed ≡ true

-- and staged has room for the message, which goes to the peer's channel
pub record SendsAt (r : Raw) (n i peer : ℕ) : Type 0 where
  pub served : ServedAt r n i false
  pub peer_is : peer ≡ peer_of (record_at r.held i)
  pub room : r.held.staged_used + 9 ≤ length r.staged

-- both calls are refused
pub record RefusedBoth (r : Raw) (n : ℕ) (k : Refusal) : Type 0 where
  pub eof_is : called r (act (eof n)) ≡ record { answer = refusal k; state = r }
  pub close_is : called r (act (close n)) ≡ record { answer = refusal k; state = r }

abbrev pub WayOf : Raw → ℕ → Result Way Refusal → Type 0
WayOf r n (Ok (Mark i)) = ServedAt r n i true
WayOf r n (Ok (Send i peer)) = SendsAt r n i peer.0
WayOf r n (Err k) = RefusedBoth r n k
