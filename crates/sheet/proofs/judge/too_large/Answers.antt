-- The numbers passed are below 2 ^ p.
use Rattle.std.proofs.Common.{arith}
use Rattle.std.proofs.lemmas.Grind.{common_steps}
use Rattle.sheet.proofs.Judged.{large_step, large_none}
use Rattle.sheet.proofs.judge.too_large.Goals as goal

pub returns-then-p-number_at : goal.returns-then-p-number_at
returns-then-p-number_at c = grind (arith, common_steps, large_step)

pub loop-j-preserved : goal.loop-j-preserved
loop-j-preserved c = grind (arith, common_steps, large_step)

pub returns : goal.returns
returns c = grind (arith, large_none)
