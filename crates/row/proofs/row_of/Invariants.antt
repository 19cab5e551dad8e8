-- `row::row_of` meets its contract. The invariant: the first k numbers are the row's.
use Rattle.std.proofs.Common.{◌≡◌, take, length}
use Rattle.row.specs.Block.{row_of}
use Rattle.row.proofs.row_of.Given as goal

abbrev pub invariant-loop-k : goal.invariant-loop-k
invariant-loop-k l = record {
  long : length l.w ≡ 17;
  done : take l.k l.w ≡ take l.k (row_of l.rows l.i);
}
