-- The equalities passed are counted, and those behind them are yet to be.
use Rattle.std.proofs.Common.{◌≡◌, ◌+◌, ◌≤◌}
use Rattle.meaning.specs.Bytes.{sheet_in}
use Rattle.meaning.specs.Refusal.{equal_count}
use Rattle.sheet.proofs.Judged.{behind}
use Rattle.sheet.proofs.judge.Head.equal_count.Given as goal

abbrev pub invariant-loop-i : goal.invariant-loop-i
invariant-loop-i l = (l.e ≤ l.i) × (l.e + equal_count (behind l.self.bytes.now l.i) ≡ equal_count (sheet_in l.self.bytes.now).constraints)
