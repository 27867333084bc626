-- The invariant: what is left to store, stored into what dst is now, is what the whole is to be.
use mathlib.Core.Path.{◌≡◌}
use Prim.Native.Nat.{◌+◌}
use lib.ListN.{drop}
use Rattle.octets.specs.Buf.{write}
use Rattle.octets.proofs.copy_in.Given as goal

abbrev pub invariant-loop-i : goal.invariant-loop-i
invariant-loop-i l = write l.at l.src l.initial.dst ≡ write (l.at + l.i) (drop l.i l.src) l.dst
