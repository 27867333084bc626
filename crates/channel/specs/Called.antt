-- A call on the state as the code holds it: what every public function promises, as one equation.
-- Assumes nothing.
use Rattle.std.specs.Prelude.{ℕ, ◌<◌, ◌≡◌, Bool, true, false, List, length, get_or}
use Rattle.channel.specs.declared.Table as D
use Rattle.channel.specs.State.{place_count, most_entries, numbers_in_all}
use Rattle.channel.specs.Call.{Call, Answer, refused}
use Rattle.channel.specs.Step.{step}
use Rattle.channel.specs.Raw.{Raw, meaning, written}
use Rattle.channel.specs.Sound.{is_sound}

pub record Outcome : Type 0 where
  pub answer : Answer
  pub state : Raw

unfoldable pub when_sound : Bool → Raw → Call → Outcome
when_sound true r c = record { answer = (step (meaning r) c).answer; state = written (step (meaning r) c).world }
when_sound false r c = record { answer = refused 1; state = r }

-- the answer, and every byte of state and lent memory
unfoldable pub called : Raw → Call → Outcome
called r c = when_sound (is_sound r) r c

-- the struct with the three lent buffers
abbrev pub lent : D.Table → List ℕ → List ℕ → List ℕ → Raw
lent t queue staged sent = record { held = t; queue = queue; staged = staged; sent = sent }

abbrev pub outcome : Answer → D.Table → List ℕ → List ℕ → List ℕ → Outcome
outcome a t queue staged sent = record { answer = a; state = lent t queue staged sent }

-- WHAT THE TYPES SAY of a state of the code

unfoldable pub AllBytes : List ℕ → Type 0
AllBytes bs = (i : ℕ) → get_or bs i 0 < 256

pub record Typed (r : Raw) : Type 0 where
  pub word : r.held.used < numbers_in_all
  pub places : length r.held.records ≡ place_count
  pub entries : length r.held.entries ≡ most_entries
  pub bytes : AllBytes r.staged
