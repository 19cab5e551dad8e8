-- `listing::lines::put_fates` meets its contract: each turn writes one line more.
use Rattle.std.proofs.Common.{length, rules}
use Rattle.std.proofs.lemmas.Slice.Zip.{zip_turn}
use lib.ListN.{length-append}
use Rattle.meaning.specs.Listing.{fate_lines}
use Rattle.listing.proofs.Texts.{wrote_none, fates_more}
use Rattle.listing.proofs.lines.put_fates.Goals as goal

pub loop-x-init : goal.loop-x-init
unfolding fate_lines
loop-x-init c = record { wrote = wrote_none c.args.out.now c.args.at; within = search rules }

pub loop-x-preserved : goal.loop-x-preserved
loop-x-preserved c =
    let l = c.loop-x in
    let xs = c.args.list.now in
    let fs = c.args.fates.now in
    let some = c.in-Some in
    let now =
    zip_turn xs fs l.yielded c.into_iter-x-iterator.result l.x-iterator c.next.new.self c.next.result (search rules) (search rules) l.yielded_by
    (some.x, some.fate) some.is c.next.ensures.steps in
    rw length-append
    (record {
      wrote =
          fates_more xs fs (length l.yielded) (search rules) now.0 now.1 l.invariant.wrote
          (rw (← now.2 0, ← now.3 0) c.put_fate-past.ensures.wrote);
      within = search rules;
    })
