-- No number passed is too large or listed again: row 9 is about those behind them.
use Rattle.std.proofs.Common.{◌≡◌, drop}
use Rattle.meaning.specs.Refusal.{bad_list}
use Rattle.sheet.proofs.judge.bad_list.Given as goal

abbrev pub invariant-loop-i : goal.invariant-loop-i
invariant-loop-i l = bad_list l.n (drop l.i l.list) ≡ bad_list l.n l.list
