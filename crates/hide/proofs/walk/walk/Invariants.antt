-- `hide::walk::walk` meets its contract. The invariant: the walk over the unhidden words from i on, from the fates and the sheet
-- now, is the whole walk.
use Rattle.std.proofs.Common.{◌≤◌}
use Rattle.meaning.specs.Walk.{walk_in, list_order}
use Rattle.hide.specs.Fate.{fate_numbers}
use Rattle.hide.specs.Steps.{Follows, walked}
use Rattle.sheet.specs.Work.{sheet_work}
use Rattle.hide.proofs.Walking.{Walking}
use Rattle.hide.proofs.walk.walk.Given as goal

abbrev pub invariant-loop-i : goal.invariant-loop-i
invariant-loop-i l = record {
  follows : Follows l.fn.s l.s;
  few : l.s.equalities.count ≤ 16;
  walking :
      Walking l.fn.s.width l.list (fate_numbers l.fn.fates) (walk_in list_order l.fn.s.width l.list (walked l.fn.s l.fn.fates))
      (fate_numbers l.fates) (sheet_work l.s) l.hid l.left l.i;
}
