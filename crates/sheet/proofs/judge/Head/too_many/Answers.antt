-- The two tests are those of row 8.
use Rattle.std.proofs.Common.{rules}
use Rattle.meaning.specs.Refusal.{too_many}
use Rattle.sheet.proofs.Judged.{many}
use Rattle.sheet.proofs.judge.Head.too_many.Goals as goal

pub returns-then-e-gt-EACH : goal.returns-then-e-gt-EACH
unfolding too_many
returns-then-e-gt-EACH c = search rules

pub returns-else-e-gt-EACH : goal.returns-else-e-gt-EACH
unfolding too_many
returns-else-e-gt-EACH c = search (rules, many)
