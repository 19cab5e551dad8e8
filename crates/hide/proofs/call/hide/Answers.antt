-- Refused by the row that applies, or accepted.
use Rattle.std.proofs.lemmas.Result.{err_from_is_err_and}
use Rattle.hide.proofs.Called.{refused_outcome}
use Rattle.hide.proofs.call.hide.Goals as goal

pub returns-in_err-judge_call : goal.returns-in_err-judge_call
returns-in_err-judge_call c =
    let p = err_from_is_err_and c.from_residual.result c.from_residual.ensures.1 in
    rw (p.1, p.2) (refused_outcome _ c.in_err-judge_call.field-0.0 c.in_err-judge_call.ensures)
