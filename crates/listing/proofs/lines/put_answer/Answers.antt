-- `listing::lines::put_answer` meets its contract: its three parts have room.
use Rattle.listing.proofs.Texts.{answer_wrote}
use Rattle.listing.proofs.lines.put_answer.Goals as goal

pub returns : goal.returns
returns c =
    let n = c.byte_at-n.ensures in
    let m = c.byte_at-m.ensures in
    answer_wrote c.args.answer.now c.args.list.now c.args.fates.now (rw (n, m, c.byte_at.ensures) at c.put_head-head.ensures.wrote)
    (rw (n, m) at c.put_constraints-constraints.ensures.wrote) c.put_fates.ensures
