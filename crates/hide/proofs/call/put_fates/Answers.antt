-- `hide::call::put_fates` meets its contract. The invariant: the first i fates are put.
use Rattle.hide.proofs.Called.{put_next}
use Rattle.hide.proofs.call.put_fates.Goals as goal

pub loop-i-preserved : goal.loop-i-preserved
loop-i-preserved c =
    rw (c.from.ensures, c.loop-i.invariant) (put_next c.args.fates.now c.args.out.now c.loop-i.i c.loop-i-test.true c.requires)
