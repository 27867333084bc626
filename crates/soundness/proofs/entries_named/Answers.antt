-- What holds of all the entries, by those from the index on.
use Rattle.std.proofs.Common.{sym, ap, ◌∙◌, ◌||◌, [], length, take, arith}
use mathlib.Core.Bool.{or-false}
use borrow.Author.Tests.{eq-eqb, ne_eqb}
use Rattle.channel.specs.Raw.{zero_entry}
use Rattle.channel.specs.Raw as R
use Rattle.lookup.proofs.Walk.{named_go, named_stop, named_past, confirmed_of, confirmed-none, sum-next, sum_past, any_past}
use Rattle.soundness.specs.Tested.{places_in}
use Rattle.soundness.proofs.Parts.{any_is, not_named, named_sum, entry_more}
use Rattle.soundness.proofs.entries_named.Goals as goal

pub returns-in_err-place : goal.returns-in_err-place
returns-in_err-place c =
    let t = c.args.t.now in
    let l = c.loop-e in
    let es = take t.entry_count t.entries in
    let none = rw c.in_err-place.was at c.place_of.ensures in
    let unsound = not_named t c.requires.sized (l.invariant.named ∙ named_stop (length es) es [] l.e-index (places_in t) _ (omega arith) (omega arith) (confirmed-none _ (places_in t) none)) in
    rw c.from_residual.ensures unsound

pub returns-then-not-t-place : goal.returns-then-not-t-place
unfolding R.zero_record
returns-then-not-t-place c =
    let t = c.args.t.now in
    let l = c.loop-e in
    let es = take t.entry_count t.entries in
    let held = rw c.in_ok-place.was at c.place_of.ensures in
    not_named t c.requires.sized (l.invariant.named ∙ named_stop (length es) es [] l.e-index (places_in t) _ (omega arith) (omega arith) (confirmed_of _ (places_in t) _ held.here ∙ c.if-not-t-place.true))

pub loop-e-preserved : goal.loop-e-preserved
unfolding R.zero_entry R.zero_record
loop-e-preserved c =
    let t = c.args.t.now in
    let l = c.loop-e in
    let es = take t.entry_count t.entries in
    let held = rw c.in_ok-place.was at c.place_of.ensures in
    let more = sum-next es (length es) l.e-index zero_entry (omega arith) (omega arith) in
    record {
      small = omega arith;
      named = l.invariant.named ∙ named_go (length es) es [] l.e-index (places_in t) _ (omega arith) (omega arith) (confirmed_of _ (places_in t) _ held.here ∙ c.if-not-t-place.false);
      sum = omega (arith, more, l.invariant.sum);
      waits = rw (c.eq-waits.ensures, entry_more es c.args.n.0 l.e-index zero_entry l.waits (omega arith) l.invariant.waits);
    }

pub returns-then-sum-t : goal.returns-then-sum-t
returns-then-sum-t c =
    let t = c.args.t.now in
    let l = c.loop-e in
    let es = take t.entry_count t.entries in
    let rest = sum_past es (length es) l.e-index (omega arith) in (
      named_sum t c.requires.sized l.sum _ (l.invariant.named ∙ named_past (length es) es [] l.e-index (places_in t) (omega arith) (omega arith)) (omega (arith, rest, l.invariant.sum)) (eq-eqb _ _ c.if-sum-t.true),
      sym (any_is t c.requires.sized _ _ (l.invariant.waits ∙ ap (λ b. l.waits || b) (any_past (length es) es [] l.e-index _ (omega arith) (omega arith)) ∙ or-false l.waits)),
    )

pub returns-else-sum-t : goal.returns-else-sum-t
returns-else-sum-t c =
    let t = c.args.t.now in
    let l = c.loop-e in
    let es = take t.entry_count t.entries in
    let rest = sum_past es (length es) l.e-index (omega arith) in
    named_sum t c.requires.sized l.sum _ (l.invariant.named ∙ named_past (length es) es [] l.e-index (places_in t) (omega arith) (omega arith)) (omega (arith, rest, l.invariant.sum)) (ne_eqb _ _ c.if-sum-t.false)
