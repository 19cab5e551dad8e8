-- The places from x on are reduced, and those before x are as they were.
use Rattle.std.proofs.Common.{◌-◌, refl, ◌∙◌, arith}
use Rattle.tidy.proofs.Places.{places_of}
use Rattle.tidy.proofs.Lowering.{reduced_none, reduced_more, reduced_all}
use Rattle.tidy.proofs.Basis.reduce.Goals as goal

pub loop-x-init : goal.loop-x-init
loop-x-init c = (refl, reduced_none (places_of c.args.self.now.rows))

pub loop-x-preserved : goal.loop-x-preserved
loop-x-preserved c =
    let h = c.loop-x.invariant in
    (c.lower.ensures.width ∙ h.0, reduced_more (c.loop-x.x - 1) (omega arith) (omega arith) h.1 (rw h.0 at c.lower.ensures.place))

pub returns-clause-places : goal.returns-clause-places
returns-clause-places c = reduced_all c.loop-x.x c.loop-x-test.false c.loop-x.invariant.1
