-- The sheet holds the constraints that are read, and the reader stands behind them.
use Rattle.std.proofs.Common.{◌≡◌, length}
use Rattle.sheet.specs.Others.{others_of}
use Rattle.sheet.proofs.Reading.{Front, Reached}
use Rattle.sheet.proofs.Sheet.read.Given as goal

abbrev pub invariant-loop : goal.invariant-loop
invariant-loop l =
    Front l.b l.p l.n l.m
    × (l.reader.bytes.now ≡ l.b)
    × (l.sheet.width ≡ l.p)
    × (l.sheet.words ≡ l.n)
    × Reached l.b l.reader.at l.sheet.equalities (others_of l.sheet.others) l.counter
    × (length (others_of l.sheet.others) ≡ l.sheet.others.count)
