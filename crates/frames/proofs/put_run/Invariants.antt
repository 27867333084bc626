-- The invariant: the packets of what is left of src, written at pos into what dst is now, give what the whole is to be, and end
-- where the whole ends.
use mathlib.Core.Path.{◌≡◌}
use Prim.Native.Nat.{◌+◌}
use lib.ListN.{length}
use Rattle.std.specs.Slice.Iter.{chunks_rest, chunks_size}
use Rattle.octets.specs.Buf.{write}
use Rattle.channel.specs.Wire.{frames, packets}
use Rattle.frames.proofs.put_run.Given as goal

abbrev pub invariant-loop-chunk : goal.invariant-loop-chunk
invariant-loop-chunk l = (chunks_size l.chunk-iterator ≡ l.limit)
    × (length l.dst ≡ length l.initial.dst)
    × (l.at + length (frames (packets l.kind l.peer.0 l.limit l.src)) ≡ l.pos + length (frames (packets l.kind l.peer.0 l.limit (chunks_rest l.chunk-iterator))))
    × (write l.at (frames (packets l.kind l.peer.0 l.limit l.src)) l.initial.dst ≡ write l.pos (frames (packets l.kind l.peer.0 l.limit (chunks_rest l.chunk-iterator))) l.dst)
