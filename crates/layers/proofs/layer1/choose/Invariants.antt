-- `layers::layer1::choose` meets its contract. The invariant: the choice is that among the equalities from i on.
use Rattle.layers.proofs.Replacing.{Choosing}
use Rattle.layers.proofs.layer1.choose.Given as goal

abbrev pub invariant-loop-i : goal.invariant-loop-i
invariant-loop-i l = Choosing l.p l.x l.e l.choice l.i
