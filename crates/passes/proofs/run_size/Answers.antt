-- `passes::run_size` meets its contract: the size is that of any data of that length.
use mathlib.Core.Path.{ap, ◌∙◌}
use lib.ListN.{replicate, length-replicate}
use Prim.Native.Nat.{ℕ}
use Rattle.frames.proofs.Packets.{run_size, length_run}
use Rattle.passes.proofs.run_size.Goals as goal

pub returns : goal.returns
returns c =
    let a = c.args in
    let l = length-replicate {A = ℕ} a.m 0 in
    c.size_of_run.ensures 0 (replicate a.m 0) l
    ∙ length_run c.into.result 0 a.limit (replicate a.m 0) c.requires.0
    ∙ ap (run_size c.into.result a.limit) l
    ∙ ap (λ k. run_size k a.limit a.m) c.into.ensures
