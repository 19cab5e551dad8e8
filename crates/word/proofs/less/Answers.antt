-- The low word of the product is the product modulo 2 ^ 32, and so modulo 2 ^ p.
use Rattle.std.proofs.Common.{◌∙◌}
use Rattle.word.proofs.Laws.{minus_same, low_is}
use Rattle.word.proofs.less.Goals as goal

pub returns : goal.returns
returns c = c.minus.ensures ∙ minus_same c.args.p c.args.a (low_is c.requires c.low.ensures c.product.ensures)
