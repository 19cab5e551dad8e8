-- Whatever the test is in the words of a definition: of the members gone through, those that pass stand at the front.
use Rattle.std.proofs.Common.{◌≤◌, Bool}
use Rattle.sheet.specs.Others.{Says}
use Rattle.sheet.specs.declared.constraint.Constraint.{Constraint as Held}
use Rattle.sheet.proofs.Lists.{Kept}
use Rattle.sheet.proofs.others.keep_in_front.Given as goal

abbrev pub invariant-loop-i : goal.invariant-loop-i
invariant-loop-i g l =
    goal.Test-IsAlwaysCallable g l.stays
    × (l.n ≤ l.i)
    × ((t : Held → Bool) → Says g.Test.Fn l.fn.stays t → Kept t l.fn.members l.members l.n l.i)
