-- `listing::lines::put_refusal` meets its contract: the three parts of its line.
use Rattle.std.proofs.Common.{arith}
use Rattle.sheet.proofs.Judged.{number_within}
use Rattle.listing.proofs.Texts.{refusal_wrote}
use Rattle.listing.proofs.lines.put_refusal.Goals as goal

pub returns : goal.returns
returns c =
    refusal_wrote _ c.put_text-name.ensures (rw c.number_of.ensures at c.put_number-number.ensures.wrote) c.put_text.ensures

pub overflow_cast-number_of : goal.overflow_cast-number_of
overflow_cast-number_of c = omega (arith, c.number_of.ensures, number_within c.args.why)
