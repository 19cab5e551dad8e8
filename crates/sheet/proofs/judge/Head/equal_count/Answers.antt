-- The equalities passed are counted, and those behind them are yet to be.
use Rattle.std.proofs.Common.{rules}
use Rattle.sheet.proofs.Judged.{behind_none, equal_step}
use Rattle.sheet.proofs.judge.Head.equal_count.Goals as goal

pub loop-i-preserved : goal.loop-i-preserved
loop-i-preserved c = let s = equal_step c.args.self.now.bytes.now c.args.self.now.is c.loop-i.i c.loop-i-test.true in search rules

pub returns-clause-count : goal.returns-clause-count
returns-clause-count c = let s = behind_none c.args.self.now.bytes.now c.args.self.now.is c.loop-i.i c.loop-i-test.false in search rules
