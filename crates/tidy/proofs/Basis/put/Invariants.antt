-- Before the turn of word x the places before it are done, and row i is on its way to the others.
use Rattle.std.proofs.Common.{◌≡◌}
use Rattle.meaning.specs.Tidy.{put}
use Rattle.row.specs.Block.{row_of, rows_from}
use Rattle.tidy.proofs.Places.{Putting}
use Rattle.tidy.proofs.Basis.put.Given as goal

abbrev pub invariant-loop-x : goal.invariant-loop-x
invariant-loop-x l =
    let p = l.initial.self.width in
    (l.self.width ≡ p) × Putting p l.x l.self.places l.initial.rows l.i l.rows (put p 0 (rows_from l.initial.self.places 0 16) (row_of l.initial.rows l.i))
