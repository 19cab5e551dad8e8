-- `listing::lines::put_numbers` meets its contract: each turn writes one number more.
use Rattle.std.proofs.Common.{rules}
use Rattle.meaning.specs.Bytes.{numbers_at}
use Rattle.meaning.specs.Listing.{numbers_text}
use Rattle.listing.proofs.Texts.{wrote_none, numbers_more}
use Rattle.listing.proofs.lines.put_numbers.Goals as goal

pub loop-j-init : goal.loop-j-init
unfolding numbers_text numbers_at
loop-j-init c = record { wrote = wrote_none c.args.out.now c.args.at; within = search rules }

pub loop-j-preserved : goal.loop-j-preserved
loop-j-preserved c =
    let more = rw c.number_at.ensures at c.put_number-past.ensures.wrote in
    record {
      wrote = numbers_more c.args.b.now c.args.i c.loop-j.j (search rules) c.loop-j.invariant.wrote more;
      within = search rules;
    }
