-- `hide::walk::try_in` meets its contract: what is left to show is that a word that no constraint has is absent.
use Rattle.std.proofs.Common.{refl, sym, ◌∙◌, arith}
use Rattle.sheet.specs.Work.{sheet_work}
use Rattle.hide.proofs.Trying.{tried_fewer, try_nowhere}
use Rattle.hide.proofs.walk.try_in.Goals as goal

pub returns-in-None-2 : goal.returns-in-None-2
returns-in-None-2 c =
    let q = c.requires in
    let s = c.args.s.now in
    let none = rw c.as_slice.ensures at (sym c.sides_have.ensures ∙ c.if-sides_have.false) in
    tried_fewer q.0 q.1 _ _ refl refl refl (omega arith) (try_nowhere s.width c.args.x (sheet_work s) q.0.work q.1 c.in-None.ensures.choice none)
