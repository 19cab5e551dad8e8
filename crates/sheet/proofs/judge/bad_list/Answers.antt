-- No number passed is too large or listed again: row 9 is about those behind them.
use Rattle.std.proofs.Common.{arith}
use Rattle.sheet.proofs.Judged.{list_step, list_none, contains_behind}
use Rattle.sheet.proofs.judge.bad_list.Goals as goal

pub returns-then-n-x : goal.returns-then-n-x
returns-then-n-x c = grind (arith, list_step, contains_behind)

pub loop-i-preserved : goal.loop-i-preserved
loop-i-preserved c = grind (arith, list_step, contains_behind)

pub returns : goal.returns
returns c = grind (arith, list_none)
