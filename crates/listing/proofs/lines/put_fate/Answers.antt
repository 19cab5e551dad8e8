-- `listing::lines::put_fate` meets its contract: the five parts of its line.
use Rattle.std.proofs.Common.{arith}
use Rattle.listing.proofs.Texts.{fate_wrote}
use Rattle.listing.proofs.lines.put_fate.Goals as goal

pub returns : goal.returns
returns c =
    let a = c.args in
    record {
      wrote =
          fate_wrote a.x a.fate (omega arith) c.put_text-name.ensures c.put_number-word.ensures.wrote c.put_text-space.ensures
          (rw c.fate_name.ensures.name at c.put_text-said.ensures) c.put_text.ensures;
      within =
          omega (arith, c.put_text-name.ensures.place, c.put_text-space.ensures.place, c.put_text-said.ensures.place, c.put_text.ensures.place);
    }
