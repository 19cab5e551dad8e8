-- The two tests are those of row 5.
use Rattle.std.proofs.Common.{rules}
use Rattle.meaning.specs.Refusal.{bad_size}
use Rattle.sheet.proofs.judge.bad_size.Goals as goal

pub returns-then-m-gt-READ : goal.returns-then-m-gt-READ
unfolding bad_size
returns-then-m-gt-READ c = search rules

pub returns-else-m-gt-READ : goal.returns-else-m-gt-READ
unfolding bad_size
returns-else-m-gt-READ c = search rules
