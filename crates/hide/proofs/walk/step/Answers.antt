-- `hide::walk::step` meets its contract: the word is passed over, or left, or hidden and the sheet tidied.
use Rattle.std.proofs.Common.{sym, ap, ◌∙◌}
use Rattle.meaning.specs.Tidy.{tidy}
use Rattle.hide.proofs.Walking.{is_left, is_hidden, step_passed, step_left, step_tidied}
use Rattle.hide.proofs.walk.step.Goals as goal

pub returns-then-ne-clause-walk : goal.returns-then-ne-clause-walk
returns-then-ne-clause-walk c =
    let hidden = is_hidden c.args.fate (sym c.ne.ensures ∙ c.if-ne.true) in
    λ xs fs i ex ef. step_passed c.args.s.now.width xs fs i _ _ hidden ef

pub returns-then-ne-2-clause-walk : goal.returns-then-ne-2-clause-walk
returns-then-ne-2-clause-walk c =
    let left = is_left c.args.fate (sym c.ne.ensures ∙ c.if-ne.false) in
    let t = c.try_in-tried.ensures in
    let hides = is_hidden c.try_in-tried.result (sym c.ne-2.ensures ∙ c.if-ne-2.true) in
    let p = c.args.s.now.width in
    let e = rw t.follows.width at c.tidy_in.ensures.work in
    λ xs fs i ex ef. step_tidied p xs fs i _ ex left t.fate hides (e ∙ ap (tidy p) t.work)

pub returns-else-ne-2-clause-walk : goal.returns-else-ne-2-clause-walk
returns-else-ne-2-clause-walk c =
    let left = is_left c.args.fate (sym c.ne.ensures ∙ c.if-ne.false) in
    let t = c.try_in-tried.ensures in
    let leaves = is_left c.try_in-tried.result (sym c.ne-2.ensures ∙ c.if-ne-2.false) in
    λ xs fs i ex ef. step_left c.args.s.now.width xs fs i _ ex left t.fate leaves t.work
