-- The rows of the constraints are looked at where those of the head pass.
use Rattle.std.proofs.Common.{sym, ◌∙◌}
use Rattle.std.proofs.lemmas.Result.{err_from_is_err_and}
use Rattle.meaning.proofs.Refusals.{head_numbered, first_behind}
use Rattle.sheet.proofs.Judged.{refused_first}
use Rattle.sheet.proofs.judge.judge_sheet.Goals as goal

pub returns-in_err-judge_head : goal.returns-in_err-judge_head
returns-in_err-judge_head c =
    let p = err_from_is_err_and c.from_residual.result c.from_residual.ensures.1 in
    rw (p.1, p.2) (refused_first _ _ (head_numbered _) c.in_err-judge_head.ensures.number)

pub returns : goal.returns
returns c =
    (rw c.in_ok-judge_head.ensures.bytes at c.judge.ensures) ∙ sym (first_behind _ (head_numbered _) (sym c.in_ok-judge_head.ensures.number))
