-- The rows before the one that is given do not apply.
use Rattle.std.proofs.Common.{rules}
use Rattle.meaning.specs.Refusal.{first_in, call_rows, short_sheet_buffer, short_fate_buffer}
use Rattle.sheet.proofs.judge.judge_rest.Goals as goal

pub returns-then-bad_list : goal.returns-then-bad_list
unfolding first_in call_rows short_sheet_buffer short_fate_buffer
returns-then-bad_list c = search rules

pub returns-then-out-place : goal.returns-then-out-place
unfolding first_in call_rows short_sheet_buffer short_fate_buffer
returns-then-out-place c = search rules

pub returns-then-fates-list : goal.returns-then-fates-list
unfolding first_in call_rows short_sheet_buffer short_fate_buffer
returns-then-fates-list c = search rules

pub returns : goal.returns
unfolding first_in call_rows short_sheet_buffer short_fate_buffer
returns c = search rules
