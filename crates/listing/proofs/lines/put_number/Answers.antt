-- `listing::lines::put_number` meets its contract: the space, and the number.
use Rattle.std.proofs.Common.{rules}
use Rattle.listing.proofs.Texts.{number_wrote}
use Rattle.listing.proofs.lines.put_number.Goals as goal

pub returns-clause-wrote : goal.returns-clause-wrote
returns-clause-wrote c = number_wrote c.args.x (search rules) c.put_text-past.ensures c.put_decimal.ensures.wrote
