-- Marks from place i on.
use Rattle.std.proofs.Common.{refl, sym, ap, ◌∙◌, ◌&&◌, get_or, arith}
use Rattle.channel.specs.Raw.{zero_record}
use Rattle.channel.specs.Raw as R
use Rattle.channel.specs.Sound.{is_marked}
use Rattle.lookup.proofs.Walk.{marked-free, marked-go, marked_stop, marked-past}
use Rattle.soundness.specs.Tested.{entries_in}
use Rattle.soundness.specs.Tested as T
use Rattle.soundness.proofs.marks_named.Goals as goal
use Rattle.soundness.proofs.marks_named.Goals.{else-place_used-r-via-then-place_used-r+else-not-has_entry, else-place_used-r-via-else-place_used-r}

pub loop-i-init : goal.loop-i-init
unfolding T.marks_sound
loop-i-init c = refl

pub returns-then-not-has_entry : goal.returns-then-not-has_entry
unfolding R.zero_record
returns-then-not-has_entry c =
    let t = c.args.t.now in
    let l = c.loop-i in
    sym (l.invariant ∙ marked_stop t.records t.used l.i zero_record (entries_in t) (omega arith) (ap (λ b. b && is_marked (get_or t.records l.i zero_record)) (sym c.place_used.ensures) ∙ c.if-place_used-r.true) (sym c.has_entry.ensures ∙ c.if-not-has_entry.true))

pub loop-i-preserved : goal.loop-i-preserved
unfolding R.zero_record
loop-i-preserved c =
    let t = c.args.t.now in
    let l = c.loop-i in
    elim c.else-place_used-r.branch [
      | else-place_used-r-via-then-place_used-r+else-not-has_entry w ↦ l.invariant ∙ marked-go t.records t.used l.i zero_record (entries_in t) (omega arith) (ap (λ b. b && is_marked (get_or t.records l.i zero_record)) (sym c.place_used.ensures) ∙ w.if-place_used-r.true) (sym w.has_entry.ensures ∙ w.if-not-has_entry.false)
      | else-place_used-r-via-else-place_used-r w ↦ l.invariant ∙ marked-free t.records t.used l.i zero_record (entries_in t) (omega arith) (ap (λ b. b && is_marked (get_or t.records l.i zero_record)) (sym c.place_used.ensures) ∙ w.if-place_used-r.false)
    ]

pub returns : goal.returns
returns c =
    let t = c.args.t.now in
    let l = c.loop-i in
    sym (l.invariant ∙ marked-past t.records t.used l.i (entries_in t) (omega arith))
