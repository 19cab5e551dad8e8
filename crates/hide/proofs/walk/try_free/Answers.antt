-- `hide::walk::try_free` meets its contract: by whether there is a surplus.
use Rattle.std.proofs.Common.{refl, sym, ◌∙◌, arith}
use Rattle.sheet.specs.Work.{sheet_work}
use Rattle.hide.proofs.Trying.{tried_fewer, try_spare, try_left}
use Rattle.hide.proofs.walk.try_free.Goals as goal

pub returns-then-has_spare : goal.returns-then-has_spare
returns-then-has_spare c =
    let q = c.requires in
    let s = c.args.s.now in
    let some = rw c.as_slice.ensures at (sym c.has_spare.ensures ∙ c.if-has_spare.true) in
    let t = try_spare s.width c.args.x (sheet_work s) q.sheet.0.work q.sheet.1 q.none q.has some in
    tried_fewer q.sheet.0 q.sheet.1 _ _ refl refl refl c.drop_with.ensures.fewer (t ∙ rw c.drop_with.ensures.without)

pub returns-else-has_spare : goal.returns-else-has_spare
returns-else-has_spare c =
    let q = c.requires in
    let s = c.args.s.now in
    let none = rw c.as_slice.ensures at (sym c.has_spare.ensures ∙ c.if-has_spare.false) in
    tried_fewer q.sheet.0 q.sheet.1 _ _ refl refl refl (omega arith) (try_left s.width c.args.x (sheet_work s) q.sheet.0.work q.sheet.1 q.none q.has none)
