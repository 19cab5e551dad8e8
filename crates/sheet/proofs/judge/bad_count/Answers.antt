-- The two tests are those of row 1.
use Rattle.std.proofs.Common.{rules}
use Rattle.meaning.specs.Refusal.{bad_count}
use Rattle.sheet.proofs.judge.bad_count.Goals as goal

pub returns-then-b-lt8 : goal.returns-then-b-lt8
unfolding bad_count
returns-then-b-lt8 c = search rules

pub returns-else-b-lt8 : goal.returns-else-b-lt8
unfolding bad_count
returns-else-b-lt8 c = search rules
