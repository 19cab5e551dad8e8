-- `layers::layer2::lost` meets its contract. The invariant: the sum so far and what the others from the index on take away are the whole.
use Rattle.std.proofs.Common.{ap, ◌∙◌, arith}
use Rattle.meaning.specs.Layers.{lost_to}
use Rattle.sheet.specs.Work.{constraint_of}
use Rattle.sheet.specs.declared.constraint.Constraint.{Constraint}
use Rattle.layers.proofs.Surplus.{lost_drop, lost_end, other_get}
use Rattle.layers.proofs.layer2.lost.Goals as goal

pub lost_to-acc-requires : goal.lost_to-acc-requires
lost_to-acc-requires c =
    (c.requires.0, c.requires.1, rw (← c.c-item.is) at (other_get _ c.loop-c.c-index c.c-item.result c.loop-c-test.true c.requires.3))

pub loop-c-preserved : goal.loop-c-preserved
loop-c-preserved c =
    let a = c.args in
    let m = c.lost_to-acc.ensures in
    let value = m.value ∙ ap (λ (o : Constraint). lost_to a.p a.x (constraint_of o)) c.c-item.is in
    (omega (arith, m.most), omega (arith, lost_drop a.p a.x a.others.now c.loop-c.c-index c.c-item.result c.loop-c-test.true value))

pub returns-clause-value : goal.returns-clause-value
returns-clause-value c =
    omega (arith, lost_end c.args.p c.args.x c.args.others.now c.loop-c.c-index c.loop-c-test.false)
