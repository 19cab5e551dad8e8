use Rattle.std.proofs.Common.{arith}
use Rattle.sheet.proofs.Writing.{laid_none, laid_more, equalities_next}
use Rattle.sheet.proofs.write.put_equalities.Goals as goal

pub loop-i-init : goal.loop-i-init
loop-i-init c = laid_none c.args.out.now 8 c.args.n

pub loop-i-preserved : goal.loop-i-preserved
loop-i-preserved c =
    let e = rw (c.row_of.ensures, c.zero.ensures) at c.put_constraint.ensures in
    laid_more _ c.place.result (omega arith) c.loop-i.invariant (equalities_next c.args.e.now.rows c.loop-i.i) c.place.ensures e.size e.bytes
