-- Each call of the closure gives 0.
use Rattle.std.proofs.Common.{rules}
use Rattle.octets.proofs.Laws.{write_filled}
use Rattle.octets.proofs.put_zeros.Goals as goal

pub returns : goal.returns
returns c = let e = c.fill_with.ensures in write_filled _ 0 _ _ _ _ _ (λ p x q s. search rules) _ e.ran e.len (search rules) c.requires
