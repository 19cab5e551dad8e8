-- `row::scale` meets its contract. The invariant: the numbers before x are those of the result, and the others are as they were.
use Rattle.std.proofs.Common.{◌≡◌, take, drop}
use Rattle.meaning.specs.Row.{scale}
use Rattle.row.proofs.scale.Given as goal

abbrev pub invariant-loop-x : goal.invariant-loop-x
invariant-loop-x l = record {
  done : take l.x-index l.x-items ≡ take l.x-index (scale l.p l.q l.fn.r.w);
  rest : drop l.x-index l.x-items ≡ drop l.x-index l.fn.r.w;
}
