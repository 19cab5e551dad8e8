-- The rows before the one that is given do not apply.
use Rattle.std.proofs.Common.{rules}
use Rattle.meaning.specs.Refusal.{first_in, head_rows, bad_count, bad_version, bad_width, bad_words, bad_size}
use Rattle.sheet.proofs.judge.judge_head.Goals as goal

pub returns-then-bad_count-clause-number : goal.returns-then-bad_count-clause-number
unfolding first_in head_rows bad_version bad_width bad_words
returns-then-bad_count-clause-number c = search rules

pub returns-then-byte_at-ne1-clause-number : goal.returns-then-byte_at-ne1-clause-number
unfolding first_in head_rows bad_version bad_width bad_words
returns-then-byte_at-ne1-clause-number c = search rules

pub returns-then-width-eq0-clause-number : goal.returns-then-width-eq0-clause-number
unfolding first_in head_rows bad_version bad_width bad_words
returns-then-width-eq0-clause-number c = search rules

pub returns-then-words-eq0-clause-number : goal.returns-then-words-eq0-clause-number
unfolding first_in head_rows bad_version bad_width bad_words
returns-then-words-eq0-clause-number c = search rules

pub returns-then-bad_size-clause-number : goal.returns-then-bad_size-clause-number
unfolding first_in head_rows bad_version bad_width bad_words
returns-then-bad_size-clause-number c = search rules

pub returns-clause-number : goal.returns-clause-number
unfolding first_in head_rows bad_version bad_width bad_words
returns-clause-number c = search rules

pub byte_at-requires : goal.byte_at-requires
unfolding bad_count
byte_at-requires c = search rules

pub byte_at-width-requires : goal.byte_at-width-requires
unfolding bad_count
byte_at-width-requires c = search rules

pub byte_at-words-requires : goal.byte_at-words-requires
unfolding bad_count
byte_at-words-requires c = search rules

pub byte_at-constraints-requires : goal.byte_at-constraints-requires
unfolding bad_count
byte_at-constraints-requires c = search rules

pub invariant_of-result : goal.invariant_of-result
unfolding bad_size
invariant_of-result c = search rules
