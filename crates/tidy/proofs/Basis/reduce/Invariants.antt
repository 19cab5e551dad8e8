-- The places from x on are reduced, and those before x are as they were.
use Rattle.std.proofs.Common.{◌≡◌}
use Rattle.tidy.proofs.Lowering.{ReducedFrom}
use Rattle.tidy.proofs.Basis.reduce.Given as goal

abbrev pub invariant-loop-x : goal.invariant-loop-x
invariant-loop-x l =
    let p = l.initial.self.width in
    (l.self.width ≡ p) × ReducedFrom p l.initial.self.places l.self.places l.x
