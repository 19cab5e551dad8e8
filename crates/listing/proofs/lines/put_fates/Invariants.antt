-- `listing::lines::put_fates`: the lines of the words so far are written.
use Rattle.std.proofs.Common.{◌+◌, ◌*◌, ◌≤◌, length, take}
use Rattle.meaning.specs.Listing.{fate_lines}
use Rattle.listing.specs.Text.{Wrote}
use Rattle.listing.proofs.lines.put_fates.Given as goal

abbrev pub invariant-loop-x : goal.invariant-loop-x
invariant-loop-x l =
    let n = length l.yielded in
    record {
      wrote : Wrote l.initial.out l.at (fate_lines (take n l.list) l.fates) l.out l.past;
      within : l.past ≤ l.at + 23 * n;
    }
