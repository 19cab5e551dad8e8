-- The count of zeros is κ at 32, and κ at p is the less of that and p.
use Rattle.std.proofs.Common.{arith}
use Rattle.word.proofs.Laws.{kappa_zeros, kappa_min}
use Rattle.word.proofs.kappa.Goals as goal

pub returns : goal.returns
returns c = let a = c.args in grind (arith, kappa_zeros 32 a.x, kappa_min a.p 32 a.x c.requires)
