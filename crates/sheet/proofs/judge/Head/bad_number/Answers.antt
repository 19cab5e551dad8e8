-- The constraints passed have no number too large: row 7 is about those behind them.
use Rattle.std.proofs.Common.{rules}
use Rattle.meaning.specs.Refusal.{bad_number}
use Rattle.sheet.proofs.Judged.{behind_none, number_step}
use Rattle.sheet.proofs.judge.Head.bad_number.Goals as goal

pub returns-then-too_large : goal.returns-then-too_large
returns-then-too_large c =
    let s = number_step c.args.self.now.bytes.now c.args.self.now.is c.loop-i.i c.loop-i-test.true in
    search rules

pub loop-i-preserved : goal.loop-i-preserved
loop-i-preserved c =
    let s = number_step c.args.self.now.bytes.now c.args.self.now.is c.loop-i.i c.loop-i-test.true in
    search rules

pub returns : goal.returns
unfolding bad_number
returns c = let s = behind_none c.args.self.now.bytes.now c.args.self.now.is c.loop-i.i c.loop-i-test.false in search rules
