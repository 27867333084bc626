-- A turn is one law of AllLaws.
use Rattle.std.proofs.Common.{refl, arith, rules, tests}
use Rattle.channel.specs.Answers as A
use Rattle.lookup.proofs.Limits.{limits}
use Rattle.lookup.specs.Out.{route}
use Rattle.pending.specs.Plan.{sent_by}
use Rattle.pending.proofs.AllLaws.{passed_none, least_of, turn_from, turn_done, turn_stop, turn_on, handed_on, kept_on, still_sound}
use Rattle.pending.proofs.flush_all.Goals as goal

pub loop-n-init : goal.loop-n-init
loop-n-init c =
    let a = c.args in
    let r = sent_by a.form.writer a.t.now a.queue.now a.staged.now a.out.now a.kept.now in
    record {
      passed = passed_none r c.requires.typed c.requires.is (route c.args.form.writer c.args.form.rekey);
      in_range = omega arith;
    }

pub least_from-requires : goal.least_from-requires
least_from-requires c =
    (c.typed_lent.ensures.entries, (limits (sent_by c.args.form.writer c.loop-n.t c.loop-n.queue c.loop-n.staged c.loop-n.out c.args.kept.now) c.loop-n.invariant.passed.sound).few)

pub returns-in_default : goal.returns-in_default
unfolding A.all_flushed
returns-in_default c =
    let a = c.args in
    let r = sent_by a.form.writer c.loop-n.t c.loop-n.queue c.loop-n.staged c.loop-n.out a.kept.now in
    let p = c.loop-n.invariant.passed in
    let l = least_of r c.typed_lent.ensures p.sound c.loop-n.from _ c.in_default.ensures in
    turn_done r c.typed_lent.ensures p.sound (route c.args.form.writer c.args.form.rekey) c.loop-n.from _ l (sent_by a.form.writer a.t.now a.queue.now a.staged.now a.out.now a.kept.now) p refl

pub returns-in_err-map_err : goal.returns-in_err-map_err
unfolding A.answer
returns-in_err-map_err c =
    let a = c.args in
    let r = sent_by a.form.writer c.loop-n.t c.loop-n.queue c.loop-n.staged c.loop-n.out a.kept.now in
    let p = c.loop-n.invariant.passed in
    let l = least_of r c.typed_lent.ensures p.sound c.loop-n.from _ c.in-Some.ensures in
    let m = c.in_err-map_err.ensures in
    let h = handed_on c.in-Some.n _ _ c.flush_next.result c.from_residual.result m.cases m.variant c.from_residual.ensures.1 (λ k q. search (rules, tests)) in
    rw h.0 (turn_stop r c.typed_lent.ensures p.sound (route c.args.form.writer c.args.form.rekey) c.loop-n.from _ l (sent_by a.form.writer a.t.now a.queue.now a.staged.now a.out.now a.kept.now) p refl _ c.flush_next.ensures h.1)

pub loop-n-smaller : goal.loop-n-smaller
loop-n-smaller c =
    let a = c.args in
    let r = sent_by a.form.writer c.loop-n.t c.loop-n.queue c.loop-n.staged c.loop-n.out a.kept.now in
    let p = c.loop-n.invariant.passed in
    let l = least_of r c.typed_lent.ensures p.sound c.loop-n.from _ c.in-Some.ensures in
    let m = (turn_from r c.typed_lent.ensures p.sound (route c.args.form.writer c.args.form.rekey) c.loop-n.from _ l refl).0 in
    omega (arith, m, c.past-from.ensures)

pub loop-n-preserved : goal.loop-n-preserved
unfolding A.answer
loop-n-preserved c =
    let a = c.args in
    let r = sent_by a.form.writer c.loop-n.t c.loop-n.queue c.loop-n.staged c.loop-n.out a.kept.now in
    let i = c.loop-n.invariant in
    let p = i.passed in
    let w = route c.args.form.writer c.args.form.rekey in
    let l = least_of r c.typed_lent.ensures p.sound c.loop-n.from _ c.in-Some.ensures in
    let f = c.flush_next.ensures in
    record {
      passed = rw c.past-from.ensures.0 (turn_on r c.typed_lent.ensures p.sound w c.loop-n.from _ l (sent_by a.form.writer a.t.now a.queue.now a.staged.now a.out.now a.kept.now) p refl _ f (still_sound r c.typed_lent.ensures p.sound _ _ f) (kept_on c.flush_next.result c.in_ok-map_err.ensures.variant));
      in_range = omega (arith, c.past-from.ensures);
    }
