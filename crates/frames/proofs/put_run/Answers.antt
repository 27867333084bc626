-- The invariant: the packets of what is left of src, written at pos into what dst is now, give what the whole is to be, and end
-- where the whole ends. A turn is run_room and run-write.
use mathlib.Core.Path.{sym, ap, ◌∙◌}
use native.Mathlib.Omega.{arith}
use lib.ListN.{length}
use Rattle.std.specs.Slice.Iter.{chunks_rest}
use Rattle.octets.specs.Buf.{write}
use Rattle.octets.proofs.Laws.{write-nil}
use Rattle.frames.proofs.Packets.{run_end, run_room, run-write}
use Rattle.frames.proofs.put_run.Goals as goal

pub put_packet-requires : goal.put_packet-requires
put_packet-requires c = let a = c.args in
    let s = c.in-Some.ensures.steps in
    let r = run_room a.kind a.peer.0 a.limit c.in-Some.chunk.now (chunks_rest c.next.new.self) c.requires.0 s.1.0 (rw c.loop-chunk.invariant.0 at s.1.1) s.1.2 in
    omega (arith, r)

pub loop-chunk-preserved : goal.loop-chunk-preserved
loop-chunk-preserved c = let a = c.args in
    let p = c.loop-chunk in
    let x = c.in-Some.chunk.now in
    let rest = chunks_rest c.next.new.self in
    let s = c.in-Some.ensures.steps in
    let m = rw p.invariant.0 at s.1.1 in
    let r = run_room a.kind a.peer.0 a.limit x rest c.requires.0 s.1.0 m s.1.2 in (
      s.0 ∙ p.invariant.0,
      omega arith,
      omega (arith, r),
      run-write a.kind a.peer.0 a.limit x rest c.requires.0 s.1.0 m s.1.2 p.pos c.overhead-over.result p.dst p.invariant.3 c.put_packet.ensures c.overhead-over.ensures,
    )

pub returns-clause-dst_after : goal.returns-clause-dst_after
returns-clause-dst_after c = let a = c.args in
    let p = c.loop-chunk in
    let z = run_end a.kind a.peer.0 a.limit (chunks_rest p.chunk-iterator) c.in-None.ensures.steps.1.0 in
    sym (p.invariant.3 ∙ ap (λ bs. write p.pos bs p.dst) z ∙ write-nil p.pos p.dst)

pub returns-clause-value : goal.returns-clause-value
returns-clause-value c = let a = c.args in
    let p = c.loop-chunk in
    let z = run_end a.kind a.peer.0 a.limit (chunks_rest p.chunk-iterator) c.in-None.ensures.steps.1.0 in
    omega (arith, ap length z)
