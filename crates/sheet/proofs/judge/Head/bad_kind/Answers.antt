-- The constraints passed have no kind above 3: row 6 is about those behind them.
use Rattle.std.proofs.Common.{rules}
use Rattle.meaning.specs.Refusal.{bad_kind}
use Rattle.sheet.proofs.Judged.{behind_none, kind_step, kind_known}
use Rattle.sheet.proofs.judge.Head.bad_kind.Goals as goal

pub returns-then-is_err : goal.returns-then-is_err
returns-then-is_err c =
    let s = kind_step c.args.self.now.bytes.now c.args.self.now.is c.loop-i.i c.loop-i-test.true in
    let k = kind_known c.byte_at.result c.try_from.result c.try_from.ensures in
    search rules

pub loop-i-preserved : goal.loop-i-preserved
loop-i-preserved c =
    let s = kind_step c.args.self.now.bytes.now c.args.self.now.is c.loop-i.i c.loop-i-test.true in
    let k = kind_known c.byte_at.result c.try_from.result c.try_from.ensures in
    search rules

pub returns : goal.returns
unfolding bad_kind
returns c = let s = behind_none c.args.self.now.bytes.now c.args.self.now.is c.loop-i.i c.loop-i-test.false in search rules
