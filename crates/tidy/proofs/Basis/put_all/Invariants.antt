-- Before row i the rows before it are in the places.
use Rattle.std.proofs.Common.{◌≡◌}
use Rattle.meaning.specs.Tidy.{put_all}
use Rattle.sheet.specs.Work.{equalities_of}
use Rattle.tidy.specs.Blocks.{basis_of}
use Rattle.tidy.proofs.Places.{PuttingAll}
use Rattle.tidy.proofs.Basis.put_all.Given as goal

abbrev pub invariant-loop-i : goal.invariant-loop-i
invariant-loop-i l =
    let p = l.initial.self.width in
    (l.self.width ≡ p)
    × PuttingAll p l.e.rows l.i l.i-end l.self.places l.solvable (put_all p (equalities_of l.initial.e) (basis_of l.initial.self.places))
