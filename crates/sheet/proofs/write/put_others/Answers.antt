use Rattle.std.proofs.Common.{◌+◌, length, arith}
use Rattle.meaning.specs.Bytes.{size_of}
use Rattle.sheet.proofs.Writing.{size_mono, laid_none, laid_more, others_next}
use Rattle.sheet.proofs.write.put_others.Goals as goal

pub loop-i-init : goal.loop-i-init
loop-i-init c =
    let a = c.args in
    laid_none a.out.now (size_of a.n a.eqs) a.n

pub loop-i-preserved : goal.loop-i-preserved
loop-i-preserved c =
    let a = c.args in
    let e = c.put_constraint.ensures in
    let room = size_mono a.n a.eqs (a.eqs + length a.others.now) (omega arith) in
    let next = others_next a.others.now c.loop-i.i c.index-others-i.result c.loop-i-test.true in
    laid_more _ c.place.result (omega arith) c.loop-i.invariant (rw (← c.index-others-i.is) at next)
    (omega (arith, c.place.ensures)) e.size e.bytes
