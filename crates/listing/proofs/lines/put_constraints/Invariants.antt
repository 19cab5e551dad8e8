-- `listing::lines::put_constraints`: the lines of the constraints before i are written.
use Rattle.std.proofs.Common.{◌+◌, ◌*◌, ◌≤◌}
use Rattle.meaning.specs.Bytes.{constraints_at}
use Rattle.meaning.specs.Listing.{constraint_lines}
use Rattle.listing.specs.Text.{Wrote}
use Rattle.listing.proofs.lines.put_constraints.Given as goal

abbrev pub invariant-loop-i : goal.invariant-loop-i
invariant-loop-i l =
    record {
      wrote : Wrote l.initial.out l.at (constraint_lines l.n (constraints_at l.b l.n 8 l.i)) l.out l.past;
      within : l.past ≤ l.at + 379 * l.i;
    }
