-- The low word of the product is the product modulo 2 ^ 32, and so modulo 2 ^ p.
use Rattle.std.proofs.Common.{◌∙◌}
use Rattle.word.proofs.Laws.{low_is}
use Rattle.word.proofs.times.Goals as goal

pub returns : goal.returns
returns c = c.reduce.ensures ∙ (low_is c.requires c.low.ensures c.product.ensures).eq
