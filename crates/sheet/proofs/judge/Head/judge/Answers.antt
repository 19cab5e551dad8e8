-- The rows before the one that is given do not apply.
use Rattle.std.proofs.Common.{rules}
use Rattle.meaning.specs.Bytes.{sheet_in}
use Rattle.meaning.specs.Refusal.{first_in, body_rows}
use Rattle.sheet.proofs.judge.Head.judge.Goals as goal

pub returns-then-bad_kind : goal.returns-then-bad_kind
unfolding first_in body_rows sheet_in
returns-then-bad_kind c = search rules

pub returns-then-bad_number : goal.returns-then-bad_number
unfolding first_in body_rows sheet_in
returns-then-bad_number c = search rules

pub returns-then-too_many : goal.returns-then-too_many
unfolding first_in body_rows sheet_in
returns-then-too_many c = search rules

pub returns : goal.returns
unfolding first_in body_rows sheet_in
returns c = search rules
