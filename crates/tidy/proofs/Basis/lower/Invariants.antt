-- Before place y the row is lowered by the places before it.
use Rattle.std.proofs.Common.{◌≡◌}
use Rattle.tidy.proofs.Lowering.{LoweredTo}
use Rattle.tidy.proofs.Basis.lower.Given as goal

abbrev pub invariant-loop-y : goal.invariant-loop-y
invariant-loop-y l =
    let p = l.initial.self.width in
    (l.self.width ≡ p) × LoweredTo p l.initial.self.places l.x l.self.places l.y
