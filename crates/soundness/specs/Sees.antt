-- What a call learns of the state and of its channel before it decides.
-- Assumes nothing.
use Rattle.std.specs.Prelude.{ℕ, ◌≡◌, true, false, [], Option, Some, None, Result, Ok, Err}
use Rattle.channel.specs.declared.Refusal.{Refusal}
use Rattle.channel.specs.State.{nowhere, look, any_entry}
use Rattle.channel.specs.Raw.{Raw, places_of, entries_of}
use Rattle.channel.specs.Sound.{is_sound}
use Rattle.channel.specs.Called.{Typed}
use Rattle.lookup.specs.Held.{HeldAt}
use Rattle.soundness.specs.declared.Found.{Found}

-- the state is sound, and the channel's record stands at that place, with entries or without
pub record FoundIn (r : Raw) (n : ℕ) (f : Found) : Type 0 where
  pub sound : is_sound r ≡ true
  pub held : HeldAt r.held n f.place
  pub waits_is : f.waits ≡ any_entry n (entries_of r.held.entry_count r.held.entries [])

-- what was found in it: a record, none, or that it is not sound
abbrev pub LookedUp : Raw → ℕ → Result (Option Found) Refusal → Type 0
LookedUp r n (Ok (Some f)) = FoundIn r n f
LookedUp r n (Ok None) = (is_sound r ≡ true) × (look n (places_of r.held.used r.held.records) ≡ nowhere)
LookedUp r n (Err k) = (is_sound r ≡ false) × (k ≡ Refusal.State)

-- that, and what the types say of the state
pub record LooksUp (r : Raw) (n : ℕ) (s : Result (Option Found) Refusal) : Type 0 where
  pub is : LookedUp r n s
  pub typed : Typed r

-- the test alone
abbrev pub TestedAs : Raw → Result (Unit {0}) Refusal → Type 0
TestedAs r (Ok u) = is_sound r ≡ true
TestedAs r (Err k) = (is_sound r ≡ false) × (k ≡ Refusal.State)

pub record Tests (r : Raw) (s : Result (Unit {0}) Refusal) : Type 0 where
  pub is : TestedAs r s
  pub typed : Typed r

-- the same where none is a refusal
pub data Missed (r : Raw) (n : ℕ) : Refusal → Type 0 where
  unsound : is_sound r ≡ false → Missed r n Refusal.State
  unknown : is_sound r ≡ true → look n (places_of r.held.used r.held.records) ≡ nowhere → Missed r n Refusal.Unknown

abbrev pub SeenAs : Raw → ℕ → Result Found Refusal → Type 0
SeenAs r n (Ok f) = FoundIn r n f
SeenAs r n (Err k) = Missed r n k

pub record Sees (r : Raw) (n : ℕ) (s : Result Found Refusal) : Type 0 where
  pub is : SeenAs r n s
  pub typed : Typed r
