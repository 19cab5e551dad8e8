-- `listing::lines::put_head` meets its contract: the five parts of its line.
use Rattle.std.proofs.Common.{arith}
use Rattle.listing.proofs.Texts.{head_wrote}
use Rattle.listing.proofs.lines.put_head.Goals as goal

pub returns : goal.returns
returns c =
    let a = c.args in
    record {
      wrote =
          head_wrote a.p a.n a.m c.put_text-name.ensures c.put_number-width.ensures.wrote c.put_number-words.ensures.wrote
          c.put_number-constraints.ensures.wrote c.put_text.ensures;
      within = omega (arith, c.put_text-name.ensures.place, c.put_text.ensures.place);
    }
