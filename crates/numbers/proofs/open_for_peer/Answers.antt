-- Each way out is one law, by what was looked up and found free.
use Rattle.std.proofs.Common.{sym, ◌∙◌}
use Rattle.channel.specs.Answers as A
use Rattle.soundness.proofs.Told.{passed_unsound}
use Rattle.numbers.proofs.Opens.{peer_full, peer_is, peer_known, unknown}
use Rattle.numbers.proofs.open_for_peer.Goals as goal

pub returns-in_err-look_up : goal.returns-in_err-look_up
returns-in_err-look_up c = passed_unsound _ _ _ c.from_residual.result c.from_residual.ensures.1 (rw c.in_err-look_up.was at c.look_up.ensures.is)

pub returns-then-is_some : goal.returns-then-is_some
unfolding A.answer
returns-then-is_some c =
    let m = rw c.in_ok-look_up.was at c.look_up.ensures.is in
    sym (peer_known _ c.look_up.ensures.typed _ _ m (sym c.is_some.ensures ∙ c.if-is_some.true) _ _ _ _ _)

pub returns-in_default : goal.returns-in_default
unfolding A.answer
returns-in_default c =
    let m = rw c.in_ok-look_up.was at c.look_up.ensures.is in
    let k = unknown _ _ _ m (sym c.is_some.ensures ∙ c.if-is_some.false) in
    let none = rw c.in_default.is at c.lowest_free.ensures in
    sym (peer_full _ c.look_up.ensures.typed k.0 none _ _ _ _ _ _ k.1)

pub returns : goal.returns
unfolding A.answer
returns c =
    let m = rw c.in_ok-look_up.was at c.look_up.ensures.is in
    let k = unknown _ _ _ m (sym c.is_some.ensures ∙ c.if-is_some.false) in
    let f = rw c.in-Some.is at c.lowest_free.ensures in
    rw (c.take_place.ensures, c.peer_record-r.ensures) (sym (peer_is _ c.look_up.ensures.typed k.0 _ f _ _ _ _ _ _ k.1))
