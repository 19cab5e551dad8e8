-- `layers::layer2::estimate` meets its contract: a side without words counts by its constant, and another by what no value passes.
use Rattle.meaning.specs.Layers.{greatest, past_least}
use Rattle.word.proofs.Laws.{one_shl}
use Rattle.layers.proofs.layer2.estimate.Goals as goal

pub returns-then-constant-clause-value : goal.returns-then-constant-clause-value
unfolding greatest past_least
returns-then-constant-clause-value c = rw (c.if-b.true, ← c.wordless-constant.ensures, c.if-constant.true)

pub returns-else-constant-clause-value : goal.returns-else-constant-clause-value
unfolding greatest past_least
returns-else-constant-clause-value c = rw (c.if-b.true, ← c.wordless-constant.ensures, c.if-constant.false)

pub returns-then-constant-2-clause-value : goal.returns-then-constant-2-clause-value
unfolding greatest past_least
returns-then-constant-2-clause-value c = rw (c.if-b.false, ← c.wordless-constant.ensures, c.if-constant-2.true)

pub returns-else-constant-2-clause-value : goal.returns-else-constant-2-clause-value
unfolding greatest past_least
returns-else-constant-2-clause-value c = rw (one_shl c.args.p c.requires, c.if-b.false, ← c.wordless-constant.ensures, c.if-constant-2.false)
