-- A row times an inverse is a row.
use Rattle.std.proofs.Common.{rules}
use Rattle.meaning.proofs.Turn.{unit_row}
use Rattle.tidy.proofs.Places.{has_rows_put}
use Rattle.tidy.proofs.Basis.trade.Goals as goal

pub invariant_of-self-clause-rows : goal.invariant_of-self-clause-rows
invariant_of-self-clause-rows c =
    let a = c.args in
    has_rows_put a.self.now.places a.x (search rules) a.self.now.rows (unit_row a.x c.requires.row.2) (cc)
