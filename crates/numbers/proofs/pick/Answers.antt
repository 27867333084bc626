-- The outer loop: the number to pick is the first free one from the number tried on, which comes one nearer with each turn. The inner loop:
-- whether the number tried is used is told by the places from i on.
use Rattle.std.proofs.Common.{◌≡◌, true, sym, ap, ◌∙◌, arith}
use Rattle.laws.proofs.Tests.{shut}
use Rattle.channel.specs.State.{is_used}
use Rattle.channel.specs.Raw.{places_of}
use Rattle.channel.proofs.Numbers.{next_first, first_go, first_stop, first_free, first_small, nearer}
use Rattle.channel.proofs.Faithful.{length-places}
use Rattle.lookup.proofs.Walk.{used-go, used_stop, used-past}
use Rattle.numbers.specs.Picks.{pick_of}
use Rattle.numbers.proofs.pick.Goals as goal
use Rattle.numbers.proofs.pick.Goals.{Then-place_has}

pub next-init : goal.next-init
next-init c =
    let t = c.args.t.now in
    next_first (record { last = t.last; places = places_of t.used t.records; entries = _ }) (length-places t.records t.used ∙ c.requires)

-- a turn that goes on: the number tried is used, and the next is tried
tried : (c : Then-place_has) → is_used c.next.n (places_of c.args.t.now.used c.args.t.now.records) ≡ true
tried c =
    let t = c.args.t.now in
    let l = c.loop-i in
    ap (λ x. is_used x (places_of t.used t.records)) (sym l.invariant.same)
    ∙ l.invariant.told
    ∙ used_stop t.records t.used l.i l.n _ (omega arith) (sym c.place_has.ensures ∙ c.if-place_has.true)

pub next-smaller : goal.next-smaller
next-smaller c =
    let t = c.args.t.now in
    let o = c.next in
    let p = places_of t.used t.records in
    let u = tried (goal.at.next-smaller c).Then-place_has in
    rw c.loop-i.invariant.same
    (nearer o.n (pick_of t) (omega arith) (first_small p o.n (pick_of t) (omega arith) o.invariant) (λ e. shut (is_used o.n p) (ap (λ x. is_used x p) e ∙ first_free p o.n (pick_of t) o.invariant) u))

pub next-preserved : goal.next-preserved
next-preserved c = rw c.loop-i.invariant.same (first_go _ c.next.n _ c.next.invariant (tried (goal.at.next-preserved c).Then-place_has))

pub loop-i-preserved : goal.loop-i-preserved
loop-i-preserved c =
    let t = c.args.t.now in
    let l = c.loop-i in
    record { same = l.invariant.same; told = l.invariant.told ∙ used-go t.records t.used l.i l.n _ (omega arith) (sym c.place_has.ensures ∙ c.if-place_has.false) }

pub returns : goal.returns
returns c =
    let t = c.args.t.now in
    let l = c.loop-i in
    first_stop _ l.n _ (rw l.invariant.same c.next.invariant) (l.invariant.told ∙ used-past t.records t.used l.i l.n (omega arith))
