-- `listing::lines::put_numbers`: the numbers before j are written.
use Rattle.std.proofs.Common.{◌+◌, ◌*◌, ◌≤◌}
use Rattle.meaning.specs.Bytes.{numbers_at}
use Rattle.meaning.specs.Listing.{numbers_text}
use Rattle.listing.specs.Text.{Wrote}
use Rattle.listing.proofs.lines.put_numbers.Given as goal

abbrev pub invariant-loop-j : goal.invariant-loop-j
invariant-loop-j l =
    record {
      wrote : Wrote l.initial.out l.at (numbers_text (numbers_at l.b l.i l.j)) l.out l.past;
      within : l.past ≤ l.at + 11 * l.j;
    }
