-- The calls make the tidied sheet, by the laws of the steps.
use Rattle.std.proofs.Common.{◌≡◌, refl, false, ap, ◌∙◌, inl, inr, rules}
use Rattle.meaning.specs.Lists.{any_of}
use Rattle.meaning.specs.Tidy.{refuted}
use Rattle.row.specs.Block.{put_row}
use Rattle.sheet.specs.Others.{others_of}
use Rattle.sheet.specs.Work.{constraints_of}
use Rattle.tidy.proofs.Places.{places_of}
use Rattle.tidy.proofs.Steps.{Tidied, with_work, tidied_true, tidied_false}
use Rattle.tidy.proofs.tidy_in.Goals as goal
use Rattle.tidy.proofs.tidy_in.Goals.{else-put_all-via-then-put_all+else-not-any_refuted, else-put_all-via-else-put_all}

solved : (c : goal.After-keep) → Tidied c.args.s.now (with_work c.args.s.now c.fill.new.e.rows c.fill.new.e.count c.keep.new.others)
solved c =
    let none : any_of refuted (constraints_of (others_of c.args.s.now.others)) ≡ false = cc in
    let new = c.new-basis.ensures in
    let w = c.put_all.ensures.width ∙ new.width in
    tidied_true c.requires new.width new.places c.put_all.ensures.places c.put_all.ensures.solvable c.if-put_all.true none
    (places_of (rw (c.reduce.ensures.width ∙ w) at c.reduce.new.self.rows)) (rw w at c.reduce.ensures.places)
    c.fill.ensures.few c.fill.ensures.rows c.keep.ensures.kept c.keep.ensures.fewer

pub returns-then-not-any_refuted-clause-working : goal.returns-then-not-any_refuted-clause-working
returns-then-not-any_refuted-clause-working c = (solved c).0

pub returns-then-not-any_refuted-clause-work : goal.returns-then-not-any_refuted-clause-work
returns-then-not-any_refuted-clause-work c = (solved c).1

unsolved : (c : goal.After-clear) → Tidied c.args.s.now (with_work c.args.s.now c.put_row.new.rows 1 c.clear.new.self)
unsolved c =
    let new = c.new-basis.ensures in
    let all = c.put_all.ensures in
    let used = c.put_all.new.e.rows in
    let last = c.put_row.ensures ∙ ap (put_row used 0) c.one.ensures in
    elim c.else-put_all.branch [
      | else-put_all-via-then-put_all+else-not-any_refuted w ↦
          tidied_false c.requires new.width new.places all.places all.solvable used (inr (cc)) (search rules) last (rw c.clear.ensures refl)
      | else-put_all-via-else-put_all w ↦
          tidied_false c.requires new.width new.places all.places all.solvable used (inl w.if-put_all.false) (search rules) last (rw c.clear.ensures refl)
    ]

pub returns-else-put_all-clause-working : goal.returns-else-put_all-clause-working
returns-else-put_all-clause-working c = (unsolved c).0

pub returns-else-put_all-clause-work : goal.returns-else-put_all-clause-work
returns-else-put_all-clause-work c = (unsolved c).1
