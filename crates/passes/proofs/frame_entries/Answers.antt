-- The record with a positive limit flushes alike (`framed_by`).
use Rattle.std.proofs.Common.{refl, ap, ◌∙◌, ◌+◌, length, arith}
use Rattle.octets.specs.Buf.{write}
use Rattle.channel.specs.Wire.{frames}
use Rattle.channel.specs.Decide.{Flushed}
use Rattle.passes.proofs.PassLaws.{positive_limit, framed_by}
use Rattle.passes.proofs.frame_entries.Goals as goal

pub frame_pending-requires : goal.frame_pending-requires
frame_pending-requires c =
    let a = c.args in
    let b = c.requires.base in
    let p = c.requires.room in
    let d = c.positive in
    let e = framed_by a.c.now a.t.now a.queue.now b p.1 d.result d.ensures in
    record {
      base = record { places = b.places; few = b.few; fits = omega (arith, b.total, b.fits); total = refl };
      room = (p.0, rw d.ensures (positive_limit _), omega (arith, ap (λ (f : Flushed). length (frames f.out)) e, p.2));
    }

pub returns : goal.returns
returns c =
    let a = c.args in
    let d = c.positive in
    let e = framed_by a.c.now a.t.now a.queue.now c.requires.base c.requires.room.1 d.result d.ensures in
    record {
      dst_after = c.frame_pending.ensures.dst_after ∙ ap (λ (x : Flushed). write a.start (frames x.out) a.dst.now) e;
      value = c.frame_pending.ensures.value ∙ ap (λ (x : Flushed). a.start + length (frames x.out)) e;
    }
