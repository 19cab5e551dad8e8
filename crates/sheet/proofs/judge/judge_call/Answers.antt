-- The list and the buffers are looked at where the sheet passes.
use Rattle.std.proofs.Common.{arith, sym, ◌∙◌}
use Rattle.std.proofs.lemmas.Result.{err_from_is_err_and}
use Rattle.meaning.specs.Refusal.{refusal}
use Rattle.meaning.proofs.Refusals.{sheet_numbered, sheet_passes, first_behind}
use Rattle.sheet.proofs.Judged.{refused_first}
use Rattle.sheet.proofs.judge.judge_call.Goals as goal

pub returns-in_err-judge_sheet : goal.returns-in_err-judge_sheet
unfolding refusal
returns-in_err-judge_sheet c =
    let p = err_from_is_err_and c.from_residual.result c.from_residual.ensures.1 in
    rw (p.1, p.2) (refused_first _ _ (sheet_numbered _) c.in_err-judge_sheet.ensures)

pub byte_at-requires : goal.byte_at-requires
byte_at-requires c = omega (arith, ((sheet_passes _).0 (sym c.in_ok-judge_sheet.ensures)).head.long)

pub judge_rest-requires : goal.judge_rest-requires
judge_rest-requires c = rw c.byte_at.ensures ((sheet_passes _).0 (sym c.in_ok-judge_sheet.ensures)).head.limits.few

pub returns : goal.returns
unfolding refusal
returns c =
    (rw c.byte_at.ensures at c.judge_rest.ensures) ∙ sym (first_behind _ (sheet_numbered _) (sym c.in_ok-judge_sheet.ensures))
