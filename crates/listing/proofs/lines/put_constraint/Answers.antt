-- `listing::lines::put_constraint` meets its contract: the five parts of its line.
use Rattle.std.proofs.Common.{arith}
use Rattle.listing.proofs.Texts.{constraint_wrote}
use Rattle.listing.proofs.lines.put_constraint.Goals as goal

pub returns : goal.returns
returns c =
    let a = c.args in
    let kind = rw (c.kind_name.ensures.name, c.byte_at.ensures) at c.put_text-kind.ensures in
    record {
      wrote =
          constraint_wrote a.b.now a.n a.i c.requires.0 (omega arith) kind c.put_numbers-left.ensures.wrote c.put_text-bar.ensures
          c.put_numbers-right.ensures.wrote c.put_text.ensures;
      within = omega (arith, c.put_text-kind.ensures.place, c.put_text-bar.ensures.place, c.put_text.ensures.place);
    }
