-- Each way out is one law on what the used part holds from `at` on.
use mathlib.Core.Path.{sym, ◌∙◌}
use native.Mathlib.Omega.{arith}
use lib.ListN.{take, drop}
use Rattle.frames.proofs.Walk.{length-used, read32-used, whole_short, whole-cut, whole-empty, whole_is}
use Rattle.frames.proofs.frame_at.Goals as goal
use Rattle.frames.proofs.frame_at.Goals.{then-n-eq0-via-then-n-eq0, then-n-eq0-via-else-n-eq0+then-left-n}

pub returns-then-left-lt5 : goal.returns-then-left-lt5
returns-then-left-lt5 c = let a = c.args in
    let l = length-used a.staged.now a.used a.at (omega arith) in
    whole_short (drop a.at (take a.used a.staged.now)) (omega arith)

pub returns-then-n-eq0 : goal.returns-then-n-eq0
returns-then-n-eq0 c = let a = c.args in
    let l = length-used a.staged.now a.used a.at (omega arith) in
    let r = read32-used a.staged.now a.used a.at (omega arith) in
    elim c.then-n-eq0.branch [
      | then-n-eq0-via-then-n-eq0 w ↦ whole-empty (drop a.at (take a.used a.staged.now)) (r ∙ sym c.read_u32-n.ensures ∙ w.if-n-eq0.true)
      | then-n-eq0-via-else-n-eq0+then-left-n w ↦ whole-cut (drop a.at (take a.used a.staged.now)) (omega (arith, c.read_u32-n.ensures, w.if-left-n.true))
    ]

pub returns : goal.returns
returns c = let a = c.args in
    let l = length-used a.staged.now a.used a.at (omega arith) in
    let r = read32-used a.staged.now a.used a.at (omega arith) in
    let w = whole_is (drop a.at (take a.used a.staged.now)) (omega arith) (omega arith) in
    (omega arith, omega arith, omega arith)
