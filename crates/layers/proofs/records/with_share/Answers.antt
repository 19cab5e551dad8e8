-- `layers::records::with_share` meets its contract: what the product comes to fits.
use Rattle.std.proofs.Common.{arith}
use Rattle.layers.proofs.Product.{share_le}
use Rattle.layers.proofs.records.with_share.Goals as goal

pub overflow_mul-result : goal.overflow_mul-result
overflow_mul-result c =
    omega (arith, share_le c.args.acc c.requires.1 c.requires.2 c.requires.3)
