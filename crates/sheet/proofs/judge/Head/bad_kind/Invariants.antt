-- The constraints passed have no kind above 3: row 6 is about those behind them.
use Rattle.std.proofs.Common.{◌≡◌}
use Rattle.meaning.specs.Bytes.{sheet_in}
use Rattle.meaning.specs.Refusal.{bad_kind}
use Rattle.sheet.proofs.Judged.{behind}
use Rattle.sheet.proofs.judge.Head.bad_kind.Given as goal

abbrev pub invariant-loop-i : goal.invariant-loop-i
invariant-loop-i l = bad_kind (behind l.self.bytes.now l.i) ≡ bad_kind (sheet_in l.self.bytes.now).constraints
