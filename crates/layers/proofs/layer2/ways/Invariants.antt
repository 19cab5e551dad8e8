-- The groups of the powers from `power` on are in the row.
use Rattle.layers.proofs.Product.{Filled}
use Rattle.layers.proofs.layer2.ways.Given as goal

abbrev pub invariant-loop-power : goal.invariant-loop-power
invariant-loop-power l = Filled l.p l.groups l.row.items l.power
