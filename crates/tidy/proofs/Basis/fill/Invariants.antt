-- The rows taken so far and those of the places to come are the same at each turn.
use Rattle.sheet.specs.Work.{equalities_of}
use Rattle.tidy.proofs.Lowering.{FilledTo}
use Rattle.tidy.proofs.Basis.fill.Given as goal

abbrev pub invariant-loop-x : goal.invariant-loop-x
invariant-loop-x l = FilledTo l.self.places (equalities_of l.e) l.e.count l.x
