-- `row::subtract` meets its contract. The invariant: the first i numbers are those of the result, and the others are as they were.
use Rattle.std.proofs.Common.{◌≡◌, take, drop}
use Rattle.meaning.specs.Row.{less}
use Rattle.row.proofs.subtract.Given as goal

abbrev pub invariant-loop-i : goal.invariant-loop-i
invariant-loop-i l = record {
  done : take l.i l.r ≡ take l.i (less l.p l.q l.s.w l.initial.r);
  rest : drop l.i l.r ≡ drop l.i l.initial.r;
}
