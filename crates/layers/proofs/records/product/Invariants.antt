-- The records before the index are in the product, and k is the power of the last of them.
use Rattle.layers.proofs.Product.{At}
use Rattle.layers.proofs.records.product.Given as goal

abbrev pub invariant-loop-r : goal.invariant-loop-r
invariant-loop-r l = At l.p l.k0 l.row l.acc l.k l.r-index
