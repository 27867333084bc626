-- Bytes that `write` puts behind a buffer's used part: any, and one message in its frame.
-- Assumes nothing.
use Prim.Native.Nat.{ℕ, ◌+◌, ◌≤◌}
use mathlib.Core.Path.{◌≡◌, refl, sym, ap}
use mathlib.Core.List.{List, [], ◌∷◌}
use lib.ListN.{length}
use native.Mathlib.Omega.{arith}
use Rattle.octets.specs.Buf.{write}
use Rattle.octets.proofs.Laws.{write_eq}
use Rattle.channel.specs.Wire.{frame, frames}
use Rattle.frames.proofs.Packets.{frames_one}
use Rattle.lookup.proofs.Bridge.{Put, put_as}

pub put_written : (n : ℕ) (l bs : List ℕ) → n + length bs ≤ length l → Put n l bs (n + length bs) (write n bs l)
put_written n l bs h = record { count = refl; bytes = sym (write_eq n bs l h) }

pub put-frame : (n : ℕ) (l m : List ℕ) {k : ℕ} → length (frame m) ≡ k → n + k ≤ length l → Put n l (frames (m ∷ [])) (n + k) (write n (frame m) l)
put-frame n l m e h = put_as (frames_one m) (record { count = ap (λ x. n + x) e; bytes = (put_written n l (frame m) (omega (arith, e))).bytes })
