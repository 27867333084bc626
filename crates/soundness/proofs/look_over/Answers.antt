-- The places are looked over downwards, so what holds of those from i on is `Seen`; a place more is one law of Places.
use Rattle.std.proofs.Common.{◌≡◌, refl, sym, ap, ◌∙◌, ◌+◌, ◌-◌, true, false, ◌||◌, get_or, drop, length-set, arith}
use Rattle.laws.specs.Bits.{bit}
use Rattle.laws.proofs.Tests.{or_second}
use Rattle.channel.specs.State.{number_of, is_used}
use Rattle.channel.specs.Raw.{zero_record}
use Rattle.channel.specs.Raw as R
use Rattle.channel.specs.Sound.{is_zero, entries_zero}
use Rattle.lookup.proofs.Walk.{distinct_stop, unused_past}
use Rattle.soundness.specs.Tested.{places_in}
use Rattle.soundness.proofs.Places.{seen-past, seen-free, seen-used, seen_all, unhinted, unused_down, unused_all, unused_fails, distinct_back}
use Rattle.soundness.proofs.Parts.{tidy-places, tidy-numbers, tidy-entries, tidy-is, unused_is}
use Rattle.soundness.proofs.look_over.Goals as goal
use Rattle.soundness.proofs.look_over.Goals.{else-hints-at-ne0-via-then-hints-at-ne0+else-used_from, else-hints-at-ne0-via-else-hints-at-ne0}

pub loop-i-init : goal.loop-i-init
loop-i-init c =
    let t = c.args.t.now in
    record { slots = refl; unused = unused_past t.records t.used 32 (omega arith); seen = seen-past t.records t.used 32 _ (omega arith) }

pub returns-then-used_from : goal.returns-then-used_from
returns-then-used_from c =
    let t = c.args.t.now in
    let i = c.loop-i.i - 1 in
    tidy-numbers t (distinct_back (places_in t) i (distinct_stop t.records t.used i _ (omega arith) (sym c.place_used.ensures ∙ c.if-place_used.true) (sym c.used_from.ensures ∙ c.if-used_from.true)))

pub loop-i-preserved-then-place_used : goal.loop-i-preserved-then-place_used
unfolding R.zero_record
loop-i-preserved-then-place_used c =
    let t = c.args.t.now in
    let l = c.loop-i in
    let i = l.i - 1 in
    let used : bit t.used i ≡ true = sym c.place_used.ensures ∙ c.if-place_used.true in
    let fresh : is_used (number_of (get_or t.records i zero_record)) (drop (i + 1) (places_in t)) ≡ false =
    elim c.else-hints-at-ne0.branch [
      | else-hints-at-ne0-via-then-hints-at-ne0+else-used_from w ↦ sym w.used_from.ensures ∙ w.if-used_from.false
      | else-hints-at-ne0-via-else-hints-at-ne0 w ↦
          let e : i + 1 ≡ l.i = omega arith in
          ap (λ k. is_used (number_of (get_or t.records i zero_record)) (drop k (places_in t))) e
          ∙ unhinted _ (drop l.i (places_in t)) _ l.invariant.seen (ap (λ k. get_or l.hints k 0) (sym c.slot-at.ensures) ∙ w.if-hints-at-ne0.false)
    ] in
    record {
      slots = simp length-set (omega arith);
      unused = unused_down t.records t.used i l.i zero_record (omega arith) (omega arith) (ap (λ b. b || is_zero (get_or t.records i zero_record)) used) l.invariant.unused;
      seen = seen-used t.records t.used i l.i _ _ _ _ _ (omega arith) (omega arith) used l.invariant.slots fresh c.slot-at.ensures refl l.invariant.seen;
    }

pub returns-then-not-is_zero : goal.returns-then-not-is_zero
returns-then-not-is_zero c =
    let t = c.args.t.now in
    let i = c.loop-i.i - 1 in
    tidy-places t (unused_fails t.records t.used i _ (omega arith) (sym c.place_used.ensures ∙ c.if-place_used.false) (sym c.is_zero.ensures ∙ c.if-not-is_zero.true))

pub loop-i-preserved : goal.loop-i-preserved
loop-i-preserved c =
    let t = c.args.t.now in
    let l = c.loop-i in
    let i = l.i - 1 in
    let free : bit t.used i ≡ false = sym c.place_used.ensures ∙ c.if-place_used.false in
    record {
      slots = l.invariant.slots;
      unused = unused_down t.records t.used i l.i _ (omega arith) (omega arith) (or_second (bit t.used i) (sym c.is_zero.ensures ∙ c.if-not-is_zero.false)) l.invariant.unused;
      seen = seen-free t.records t.used i l.i _ _ (omega arith) (omega arith) free l.invariant.seen;
    }

pub returns-then-not-all_zero : goal.returns-then-not-all_zero
returns-then-not-all_zero c = tidy-entries c.args.t.now (ap entries_zero (sym (unused_is c.args.t.now c.requires)) ∙ sym c.all_zero.ensures ∙ c.if-not-all_zero.true)

pub returns : goal.returns
returns c =
    let t = c.args.t.now in
    let l = c.loop-i in
    let s = seen_all t.records t.used l.i _ _ (omega arith) l.invariant.seen in
    (tidy-is t (unused_all t.records t.used l.i (omega arith) l.invariant.unused) s.apart (ap entries_zero (sym (unused_is t c.requires)) ∙ sym c.all_zero.ensures ∙ c.if-not-all_zero.false), s)
