-- `listing::lines::put_decimal` meets its contract: the one digit, or what the library prints of the number.
use Rattle.std.proofs.Common.{rules}
use Rattle.listing.proofs.Decimals.{decimal_one, decimal_is_printed}
use Rattle.listing.proofs.Texts.{wrote_one}
use Rattle.listing.proofs.lines.put_decimal.Goals as goal

pub returns-then-x-lt10-clause-wrote : goal.returns-then-x-lt10-clause-wrote
returns-then-x-lt10-clause-wrote c =
    let a = c.args in
    rw (decimal_one a.x (search rules)) (wrote_one a.out.now a.at _ (search rules))

pub returns-clause-wrote : goal.returns-clause-wrote
returns-clause-wrote c =
    rw (decimal_is_printed c.args.x c.ranges.x.fits) (rw c.format.ensures.text at c.put_text.ensures)
