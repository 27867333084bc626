-- The larger of the limit and 1, by the test of the limit.
use Rattle.std.proofs.Common.{ℕ, ◌≡◌, cond, eqb, max, ap, ◌∙◌, arith}
use borrow.Author.Tests.{eqb-true, eqb-false}
use Rattle.laws.proofs.Tests.{by_test}
use Rattle.passes.specs.Flush.{positive_of, with_limit}
use Rattle.passes.proofs.positive.Goals as goal

larger_is : (l : ℕ) → max l 1 ≡ cond (eqb l 0) 1 l
larger_is l = by_test (eqb l 0) (λ t. rw t (omega (arith, eqb-true l 0 t))) (λ t. rw t (omega (arith, eqb-false l 0 t)))

pub returns : goal.returns
unfolding positive_of
returns c = ap (with_limit c.args.c.now) (c.max.ensures ∙ larger_is c.args.c.now.recipient_maximum_packet_size)
