-- The count is the rules', and length_run says that it is what channel's packets take.
use mathlib.Core.Path.{sym, ap, ◌∙◌}
use native.Mathlib.Omega.{arith}
use Rattle.frames.proofs.Packets.{ceil_div, run_size, length_run}
use Rattle.frames.proofs.size_of_run.Goals as goal

pub returns : goal.returns
unfolding run_size ceil_div
returns c peer bs e = let a = c.args in
    rw c.overhead-over.ensures (sym (length_run a.kind peer a.limit bs (omega arith) ∙ ap (run_size a.kind a.limit) e))
