-- `pending::marks_size` meets its contract, by `marks-length`.
use Prim.Native.Nat.{◌+◌}
use mathlib.Core.Path.{sym, ap₂, ◌∙◌}
use mathlib.Core.Bool.{◌&&◌}
use native.Mathlib.Omega.{arith}
use Rattle.channel.specs.State.{peer_of}
use Rattle.pending.proofs.PlanLaws.{marks-length}
use Rattle.pending.proofs.marks_size.Goals as goal

pub returns : goal.returns
returns c =
    let a = c.args in (
      ap₂ (λ x y. x + y) c.mark_size.ensures.0 c.mark_size-2.ensures.0
          ∙ sym (marks-length (peer_of a.c.now) (a.all && a.c.now.pending_eof) (a.all && a.c.now.pending_close)),
      omega (arith, c.mark_size.ensures.1, c.mark_size-2.ensures.1),
    )
