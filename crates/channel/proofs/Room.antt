-- Room: what `enough` says, and what lacks it.
-- Assumes nothing.
use Prim.Native.Nat.{ℕ}
use mathlib.Core.Path.{◌≡◌, refl}
use mathlib.Core.Bool.{Bool, true, false}
use lib.ListN.{length}
use lib.Dec.{leb}
use native.Mathlib.Omega.{arith}
use Rattle.channel.specs.Wire.{frames}
use Rattle.channel.specs.State.{World}
use Rattle.channel.specs.Decide.{Plan}
use Rattle.channel.specs.Step.{to_sent, to_staged, Room, enough, lacks, needs, within, room_for}
use Rattle.channel.proofs.Sound.{queue_size}

-- one need
pub needs_true : {b : Bool} (k : ℕ) (m : Room) → b ≡ true → needs b k m ≡ m
unfolding needs
needs_true k m e = rw e

pub needs_false : {b : Bool} (k : ℕ) (m : Room) → b ≡ false → needs b k m ≡ lacks k
unfolding needs
needs_false k m e = rw e

pub needs-enough : (b : Bool) (k : ℕ) (m : Room) → needs b k m ≡ enough → (b ≡ true) × (m ≡ enough)
unfolding needs
needs-enough true k m e = (refl, e)
needs-enough false k m e = absurd (let z : ◌≡◌ {A = ℕ} 0 1 = cc in omega arith)

pub record Roomy (w : World) (p : Plan) (straight : Bool) : Type 0 where
  pub sent : leb (length (to_sent straight p)) (length w.sent_rest) ≡ true
  pub staged : leb (length (frames (to_staged straight p))) (length w.staged_rest) ≡ true
  pub queue : within (queue_size w) p.table p.queues ≡ true

pub roomy : (w : World) (p : Plan) (b : Bool) → room_for w p b ≡ enough → Roomy w p b
unfolding room_for
roomy w p b e = let x = needs-enough _ _ _ e in let y = needs-enough _ _ _ x.1 in record { sent = x.0; staged = y.0; queue = (needs-enough _ _ _ y.1).0 }
