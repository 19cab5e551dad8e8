-- `hide::walk::walks` meets its contract. The invariant: what the walks to come make of the sheet now is what all of them make.
use Rattle.std.proofs.Common.{◌≡◌, sym, ◌∙◌, arith, length}
use Rattle.hide.proofs.Walking.{follows_then, made_next, made_last, made_all}
use Rattle.hide.proofs.walk.walks.Goals as goal

pub loop-n-preserved : goal.loop-n-preserved
loop-n-preserved c =
    let h = c.loop-n.invariant in
    let q = c.walk.ensures in
    let e = rw h.follows.width at q.walk in
    record {
      follows = follows_then h.follows q.follows;
      few = q.few;
      made = made_next h.made c.loop-n-test.true _ e (sym q.more ∙ c.if-not-walk.false);
    }

pub returns-then-not-walk-clause-walks : goal.returns-then-not-walk-clause-walks
returns-then-not-walk-clause-walks c =
    let h = c.loop-n.invariant in
    let q = c.walk.ensures in
    let e = rw h.follows.width at q.walk in
    made_last h.made c.loop-n-test.true _ e (sym q.more ∙ c.if-not-walk.true)

pub returns-clause-walks : goal.returns-clause-walks
returns-clause-walks c =
    let n : c.loop-n.n ≡ length c.args.list.now = omega (arith, c.loop-n.auto.n-end, c.loop-n-test.false) in
    rw n at (made_all c.loop-n.invariant.made c.loop-n-test.false)
