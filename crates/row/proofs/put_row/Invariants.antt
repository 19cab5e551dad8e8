-- `row::put_row` meets its contract. The invariant: the first k numbers of row i are r's.
use Rattle.std.proofs.Common.{◌≡◌, ◌*◌}
use Rattle.std.proofs.Math.Seq.{paste}
use Rattle.row.proofs.put_row.Given as goal

abbrev pub invariant-loop-k : goal.invariant-loop-k
invariant-loop-k l = l.rows ≡ paste l.initial.rows (l.i * 17) l.r.w l.k
