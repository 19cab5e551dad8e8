-- What was read stands at the front of the buffer; each turn fills more of it.
use Rattle.std.proofs.Common.{length, ◌-◌, ◌≤◌}
use Rattle.vietoluyn.proofs.read_full.Given as goal

abbrev pub invariant-loop-done : goal.invariant-loop-done
invariant-loop-done g l = l.done ≤ length l.buffer

abbrev pub decreases-loop-done : goal.decreases-loop-done
decreases-loop-done g l = length l.buffer - l.done
