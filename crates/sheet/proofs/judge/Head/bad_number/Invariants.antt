-- The constraints passed have no number too large: row 7 is about those behind them.
use Rattle.std.proofs.Common.{◌≡◌}
use Rattle.meaning.specs.Bytes.{sheet_in}
use Rattle.meaning.specs.Refusal.{bad_number}
use Rattle.sheet.proofs.Judged.{behind}
use Rattle.sheet.proofs.judge.Head.bad_number.Given as goal

abbrev pub invariant-loop-i : goal.invariant-loop-i
invariant-loop-i l = bad_number l.self.width (behind l.self.bytes.now l.i) ≡ bad_number l.self.width (sheet_in l.self.bytes.now).constraints
