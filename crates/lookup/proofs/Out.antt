-- Where frames go: the way that a call takes, and the buffer that it puts frames into, in a sound state.
-- Assumes nothing.
use Prim.Native.Nat.{ℕ, ◌≤◌}
use mathlib.Core.Path.{◌≡◌, refl, ◌∙◌}
use mathlib.Core.Bool.{Bool, true, false, not, ◌&&◌}
use mathlib.Core.List.{List}
use lib.ListN.{length}
use lib.Dec.{eqb}
use Rattle.channel.specs.declared.Table as D
use Rattle.channel.specs.State.{most_bytes}
use Rattle.channel.specs.Call.{is_straight, direct}
use Rattle.channel.specs.Call as C
use Rattle.channel.specs.Step.{goes_straight}
use Rattle.channel.specs.Raw.{Raw, meaning}
use Rattle.channel.specs.Sound.{is_sound}
use Rattle.lookup.specs.Out.{form_of, route, out_of, out_used, state_of}
use Rattle.lookup.proofs.Limits.{limits}
use Rattle.lookup.proofs.Decided.{straight-is}

-- THE WAY: straight in the writer form, with no rekey, where nothing is staged

way : (w k e : Bool) → (is_straight (form_of w) && not k) && e ≡ (w && not k) && e
unfolding C.is_straight
way true k e = refl
way false k e = refl

pub goes : (r : Raw) → is_sound r ≡ true → (w k : Bool) → goes_straight (direct (route w k)) (meaning r) ≡ (w && not k) && eqb r.held.staged_used 0
unfolding C.direct
goes r sd w k = straight-is r sd (is_straight (form_of w) && not k) ∙ way w k (eqb r.held.staged_used 0)

-- THE BUFFER that frames go into

pub out_in : (b : Bool) (r : Raw) → is_sound r ≡ true → out_used b r.held ≤ length (out_of b r)
out_in true r sd = (limits r sd).sent_used
out_in false r sd = (limits r sd).staged_used

pub out_long : (b : Bool) (r : Raw) → is_sound r ≡ true → length (out_of b r) ≤ most_bytes
out_long true r sd = (limits r sd).sent_long
out_long false r sd = (limits r sd).staged_long

-- it, in the state by it and the other
pub out_is : (b : Bool) (t : D.Table) (queue out other : List ℕ) → out_of b (state_of b t queue out other) ≡ out
out_is true t queue out other = refl
out_is false t queue out other = refl
