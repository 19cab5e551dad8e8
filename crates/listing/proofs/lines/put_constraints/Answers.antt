-- `listing::lines::put_constraints` meets its contract: each turn writes one line more.
use Rattle.std.proofs.Common.{rules}
use Rattle.meaning.specs.Bytes.{constraints_at}
use Rattle.meaning.specs.Listing.{constraint_lines}
use Rattle.listing.proofs.Texts.{wrote_none, constraints_more}
use Rattle.listing.proofs.lines.put_constraints.Goals as goal

pub loop-i-init : goal.loop-i-init
unfolding constraint_lines constraints_at
loop-i-init c = record { wrote = wrote_none c.args.out.now c.args.at; within = search rules }

pub loop-i-preserved : goal.loop-i-preserved
loop-i-preserved c =
    let more = rw c.place.ensures at c.put_constraint-past.ensures.wrote in
    record {
      wrote = constraints_more c.args.b.now c.args.n 8 c.loop-i.i (search rules) c.loop-i.invariant.wrote more;
      within = search rules;
    }
