-- The rows taken so far and those of the places to come are the same at each turn.
use Rattle.std.proofs.Common.{◌<◌, refl, rules}
use Rattle.tidy.proofs.Lowering.{filled_skip, filled_keep, filled_all}
use Rattle.tidy.proofs.Basis.fill.Goals as goal
use Rattle.tidy.proofs.Basis.fill.Goals.{then-not-wordless, else-not-wordless}

pub loop-x-preserved : goal.loop-x-preserved
loop-x-preserved c =
    let h = c.loop-x in
    let b : h.x < 16 = search rules in
    elim c.if-not-wordless.branch [
      | then-not-wordless w ↦ rw w.e-is (filled_keep b h.invariant (cc) (rw (← c.row_of-r.ensures) w.push.ensures.rows) w.push.ensures.count)
      | else-not-wordless w ↦ rw w.e-is (filled_skip b h.invariant (cc) refl refl)
    ]

pub returns-clause-rows : goal.returns-clause-rows
returns-clause-rows c = filled_all c.loop-x-test.false c.loop-x.invariant
