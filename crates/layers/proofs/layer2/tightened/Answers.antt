-- `layers::layer2::tightened` meets its contract: its ends are those after what the bound counts by.
use Rattle.meaning.specs.Layers.{tightened}
use Rattle.layers.proofs.layer2.tightened.Goals as goal

pub returns-clause-group : goal.returns-clause-group
unfolding tightened
returns-clause-group c k = rw (c.lower.ensures, c.upper.ensures, c.estimate-c.ensures.value)
