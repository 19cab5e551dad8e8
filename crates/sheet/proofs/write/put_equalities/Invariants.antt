-- The first i equalities are written.
use Rattle.std.proofs.Common.{map}
use Rattle.meaning.specs.Sheet.{equal_zero}
use Rattle.row.specs.Block.{rows_from}
use Rattle.sheet.proofs.Writing.{Laid}
use Rattle.sheet.proofs.write.put_equalities.Given as goal

abbrev pub invariant-loop-i : goal.invariant-loop-i
invariant-loop-i l = Laid l.fn.out 8 l.n l.i (map equal_zero (rows_from l.e.rows 0 l.i)) l.out
