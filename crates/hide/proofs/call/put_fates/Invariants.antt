-- `hide::call::put_fates` meets its contract. The invariant: the first i fates are put.
use Rattle.std.proofs.Common.{◌≡◌, take}
use Rattle.meaning.specs.Outcome.{over}
use Rattle.hide.specs.Fate.{fate_numbers}
use Rattle.hide.proofs.call.put_fates.Given as goal

abbrev pub invariant-loop-i : goal.invariant-loop-i
invariant-loop-i l = l.out ≡ over (fate_numbers (take l.i l.fates)) l.fn.out
