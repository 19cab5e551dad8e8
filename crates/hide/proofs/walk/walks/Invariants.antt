-- `hide::walk::walks` meets its contract. The invariant: what the walks to come make of the sheet now is what all of them make.
use Rattle.std.proofs.Common.{◌≤◌, length}
use Rattle.meaning.specs.Walk.{list_order, walks_from}
use Rattle.hide.specs.Steps.{Follows, walked}
use Rattle.hide.proofs.Walking.{Made}
use Rattle.hide.proofs.walk.walks.Given as goal

abbrev pub invariant-loop-n : goal.invariant-loop-n
invariant-loop-n l = record {
  follows : Follows l.fn.s l.s;
  few : l.s.equalities.count ≤ 16;
  made :
      Made l.fn.s.width l.list (walks_from list_order (length l.list) l.fn.s.width l.list (walked l.fn.s l.fn.fates))
      (walked l.s l.fates) l.n;
}
