-- The used part is whole frames if it is from `at` on: each turn is one law of the walk over frames.
use mathlib.Core.Path.{sym, ap, ◌∙◌}
use lib.ListN.{take, drop, drop_of_length-le}
use lib.Seq.{length-take-le, drop-drop}
use native.Mathlib.Omega.{arith}
use Rattle.channel.specs.Sound.{whole_frames}
use Rattle.frames.proofs.Walk.{length-used, wholes_more, wholes_none, wholes_end}
use Rattle.soundness.proofs.whole_frames.Goals as goal

pub returns-in_default : goal.returns-in_default
returns-in_default c =
    let a = c.args in
    let l = c.loop-at in
    let e = length-used a.staged.now a.used l.at (omega arith) in
    sym (l.invariant.1 ∙ wholes_none a.used (drop l.at (take a.used a.staged.now)) (omega arith) (omega arith) c.in_default.ensures)

pub loop-at-preserved : goal.loop-at-preserved
loop-at-preserved c =
    let a = c.args in
    let l = c.loop-at in
    let f = c.in-Some.ensures in
    let bs = take a.used a.staged.now in
    let e = length-used a.staged.now a.used l.at (omega arith) in (
      omega arith,
      l.invariant.1 ∙ wholes_more a.used (drop l.at bs) (omega arith) (omega arith)
          ∙ ap (λ k. whole_frames a.used (drop k (drop l.at bs))) (sym f.0)
          ∙ ap (whole_frames a.used) (drop-drop c.in-Some.n l.at bs),
    )

pub returns : goal.returns
returns c =
    let a = c.args in
    let l = c.loop-at in
    let e = length-take-le a.used a.staged.now (omega arith) in
    sym (l.invariant.1 ∙ ap (whole_frames a.used) (drop_of_length-le (take a.used a.staged.now) {i = l.at} (omega arith)) ∙ wholes_end a.used)
