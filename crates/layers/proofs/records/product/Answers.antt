-- `At` holds of the loop, and where it ends the product is what the contract says.
use Rattle.meaning.proofs.Members.{each_get}
use Rattle.layers.proofs.Product.{at_fits, at_next, at_end}
use Rattle.layers.proofs.records.product.Goals as goal

pub with_share-acc-requires : goal.with_share-acc-requires
with_share-acc-requires c =
    let h = c.loop-r.invariant in
    (c.requires.0, h.known, each_get _ _ c.loop-r-test.true c.requires.2, at_fits h c.requires.0 c.requires.1)

pub loop-r-preserved : goal.loop-r-preserved
loop-r-preserved c = rw c.with_share-acc.ensures (at_next c.loop-r.invariant _ c.requires.2 c.loop-r-test.true)

pub returns-clause-ways : goal.returns-clause-ways
returns-clause-ways c = (at_end c.loop-r.invariant c.requires.0 c.requires.1 c.loop-r-test.false).1
