-- Each way out is one law, by what the size pass found and what was tested.
use Rattle.std.proofs.Common.{◌+◌, ◌≤◌, subst, ap, sym, ◌∙◌, length, arith}
use Rattle.laws.specs.Bits.{bit}
use Rattle.channel.specs.Wire.{frames}
use Rattle.channel.specs.State.{most_bytes}
use Rattle.channel.specs.Raw as R
use Rattle.channel.specs.Answers as A
use lib.Dec.{eqb}
use Rattle.lookup.specs.Held.{record_at}
use Rattle.lookup.proofs.Limits.{limits}
use Rattle.passes.specs.Pass.{flushed_in}
use Rattle.passes.specs.Pass as Pass
use Rattle.passes.proofs.Rows.{base_of}
use Rattle.lookup.specs.Out.{route, out_used}
use Rattle.lookup.proofs.Out.{goes, out_long}
use Rattle.pending.specs.Plan.{sent_by}
use Rattle.pending.proofs.CallLaws.{limit_is, limit_passed, room_short, carried-is, planned_free, planned_sizes, planned_few, not_stuck, wrote_le, fits_is, answer-is, steps_are, straight, framed_by, out_by, fits_as, sent_in, frames_fit, marks_fit, same_base, same_place}
use Rattle.pending.proofs.flush_at.Goals as goal

pub plan-requires : goal.plan-requires
plan-requires c =
    let a = c.args in
    let r = sent_by a.form.writer a.t.now a.queue.now a.staged.now a.out.now a.kept.now in
    let l = limits r c.requires.sound in
    record { base = base_of r c.typed_lent.ensures c.requires.sound; queue_used_bound = omega (arith, l.queue_used, l.queue_long) }

pub returns-in_err-size : goal.returns-in_err-size
unfolding Pass.PlannedBy R.zero_record
returns-in_err-size c =
    let a = c.args in
    let r = sent_by a.form.writer a.t.now a.queue.now a.staged.now a.out.now a.kept.now in
    let p = rw c.in_err-size.was at c.plan.ensures in
    limit_passed r _ A.flush_is c.from_residual.result c.from_residual.ensures.1 p.1
    (limit_is r c.typed_lent.ensures c.requires.sound (route a.form.writer a.form.rekey) a.n.0 a.place c.requires.held p.0)

pub has_room-requires : goal.has_room-requires
unfolding R.zero_record
has_room-requires c =
    let a = c.args in
    let r = sent_by a.form.writer a.t.now a.queue.now a.staged.now a.out.now a.kept.now in
    let l = limits r c.requires.sound in
    let p = rw c.in_ok-size.was at c.plan.ensures in
    record { staged = l.staged_used; sent = sent_in a.t.now a.queue.now a.staged.now a.out.now a.kept.now a.form.writer a.form.rekey (eqb a.t.now.staged_used 0) c.requires.sound; few = (planned_few r (record_at r.held c.args.place) _ p, c.marks_size-marks.ensures.1) }

pub returns-then-not-has_room : goal.returns-then-not-has_room
unfolding A.answer A.refusal A.refusal_number R.zero_record
returns-then-not-has_room c =
    let a = c.args in
    let r = sent_by a.form.writer a.t.now a.queue.now a.staged.now a.out.now a.kept.now in
    let d = record_at r.held a.place in
    let p = rw c.in_ok-size.was at c.plan.ensures in
    sym (room_short r c.typed_lent.ensures c.requires.sound (route a.form.writer a.form.rekey) a.n.0 a.place c.requires.held _ (goes r c.requires.sound a.form.writer a.form.rekey) (planned_free r d _ p)
    (sym (fits_is r d _ p _ c.marks_size-marks.ensures.0) ∙ fits_as a.t.now a.queue.now a.staged.now a.out.now a.kept.now a.form.writer a.form.rekey (eqb a.t.now.staged_used 0) _ _ ∙ sym (c.has_room.ensures a.queue.now) ∙ c.if-not-has_room.true))

pub put_frames-requires : goal.put_frames-requires
unfolding R.zero_record
put_frames-requires c =
    let a = c.args in
    let r = sent_by a.form.writer a.t.now a.queue.now a.staged.now a.out.now a.kept.now in
    let d = record_at r.held a.place in
    let p = rw c.in_ok-size.was at c.plan.ensures in
    record {
      base = base_of r c.typed_lent.ensures c.requires.sound;
      free = not_stuck r d _ p c.typed_lent.ensures c.requires.sound;
      long = subst (λ l. length l ≤ most_bytes) (out_by a.t.now a.queue.now a.staged.now a.out.now a.kept.now a.form.writer a.form.rekey (eqb a.t.now.staged_used 0)) (out_long _ r c.requires.sound);
      room = subst (λ l. out_used (straight a.form.writer a.form.rekey (eqb a.t.now.staged_used 0)) a.t.now + length (frames (flushed_in a.t.now a.queue.now d).out) ≤ length l) (out_by a.t.now a.queue.now a.staged.now a.out.now a.kept.now a.form.writer a.form.rekey (eqb a.t.now.staged_used 0))
          (frames_fit _ r c.requires.sound c.marks_size-marks.result (ap (λ x. x.size) (planned_sizes r d _ p)) (fits_as a.t.now a.queue.now a.staged.now a.out.now a.kept.now a.form.writer a.form.rekey (eqb a.t.now.staged_used 0) _ _ ∙ sym (c.has_room.ensures a.queue.now) ∙ c.if-not-has_room.false));
    }

pub put_marks-t-requires : goal.put_marks-t-requires
unfolding R.zero_record
put_marks-t-requires c =
    let a = c.args in
    let r = sent_by a.form.writer a.t.now a.queue.now a.staged.now a.out.now a.kept.now in
    let x = sent_by a.form.writer c.put_frames.new.t a.queue.now c.put_frames.new.staged c.put_frames.new.out a.kept.now in
    let e = framed_by a.t.now a.queue.now a.staged.now a.out.now a.kept.now a.form.writer a.form.rekey (eqb a.t.now.staged_used 0) _ c.put_frames.ensures in
    let d = record_at r.held a.place in
    let p = rw c.in_ok-size.was at c.plan.ensures in
    marks_fit _ r x _ c.requires.sound e (ap (λ x. x.size) (planned_sizes r d _ p)) c.marks_size-marks.ensures.0 (fits_as a.t.now a.queue.now a.staged.now a.out.now a.kept.now a.form.writer a.form.rekey (eqb a.t.now.staged_used 0) _ _ ∙ sym (c.has_room.ensures a.queue.now) ∙ c.if-not-has_room.false)

pub keep_rest-requires : goal.keep_rest-requires
keep_rest-requires c =
    let a = c.args in
    let r = sent_by a.form.writer a.t.now a.queue.now a.staged.now a.out.now a.kept.now in
    let x = sent_by a.form.writer c.put_frames.new.t a.queue.now c.put_frames.new.staged c.put_frames.new.out a.kept.now in
    let e = framed_by a.t.now a.queue.now a.staged.now a.out.now a.kept.now a.form.writer a.form.rekey (eqb a.t.now.staged_used 0) _ c.put_frames.ensures in
    same_base _ r x _ e (base_of r c.typed_lent.ensures c.requires.sound)

pub settle-requires : goal.settle-requires
unfolding R.zero_record
settle-requires c =
    let a = c.args in
    let r = sent_by a.form.writer a.t.now a.queue.now a.staged.now a.out.now a.kept.now in
    let x = sent_by a.form.writer c.put_frames.new.t a.queue.now c.put_frames.new.staged c.put_frames.new.out a.kept.now in
    let e = framed_by a.t.now a.queue.now a.staged.now a.out.now a.kept.now a.form.writer a.form.rekey (eqb a.t.now.staged_used 0) _ c.put_frames.ensures in
    let d = record_at r.held a.place in
    let p = rw c.in_ok-size.was at c.plan.ensures in
    let h = c.requires.held in
    let z = same_place _ r x _ _ c.put_marks-t.result c.keep_rest.new.t e c.keep_rest.ensures.table_after in
    record {
      place = (h.place, ap length z.0 ∙ c.typed_lent.ensures.places, ap (λ w. bit w a.place) z.1 ∙ h.used);
      window = wrote_le r d _ p;
    }

pub returns : goal.returns
unfolding A.answer R.zero_record
returns c =
    let a = c.args in
    let r = sent_by a.form.writer a.t.now a.queue.now a.staged.now a.out.now a.kept.now in
    let x = sent_by a.form.writer c.put_frames.new.t a.queue.now c.put_frames.new.staged c.put_frames.new.out a.kept.now in
    let e = framed_by a.t.now a.queue.now a.staged.now a.out.now a.kept.now a.form.writer a.form.rekey (eqb a.t.now.staged_used 0) _ c.put_frames.ensures in
    let d = record_at r.held a.place in
    let p = rw c.in_ok-size.was at c.plan.ensures in
    let k = c.keep_rest.ensures in
    let m = c.put_marks-t.ensures in
    let state = steps_are r d _ p _ a.place x e m.staged_after m.value k.queue_after k.table_after c.settle.ensures in
    let fits = sym (fits_is r d _ p _ c.marks_size-marks.ensures.0) ∙ fits_as a.t.now a.queue.now a.staged.now a.out.now a.kept.now a.form.writer a.form.rekey (eqb a.t.now.staged_used 0) _ _ ∙ sym (c.has_room.ensures a.queue.now) ∙ c.if-not-has_room.false in
    (λ j. record { answer = (answer-is r d _ p c.answer.ensures) j; state = state j })
    ∙ sym (carried-is r c.typed_lent.ensures c.requires.sound (route a.form.writer a.form.rekey) a.n.0 a.place c.requires.held _ (goes r c.requires.sound a.form.writer a.form.rekey) (planned_free r d _ p) fits)
