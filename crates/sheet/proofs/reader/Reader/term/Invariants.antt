-- The first numbers are read, and the reader stands behind them.
use Rattle.std.proofs.Common.{◌≡◌, ◌+◌, ◌*◌, take}
use Rattle.meaning.specs.Bytes.{numbers_at}
use Rattle.sheet.proofs.reader.Reader.term.Given as goal

abbrev pub invariant-loop-x : goal.invariant-loop-x
invariant-loop-x l =
    (l.self.bytes ≡ l.fn.self.bytes)
    × (l.self.at ≡ l.fn.self.at + 4 * l.x-index)
    × (take l.x-index l.x-items ≡ numbers_at l.fn.self.bytes.now l.fn.self.at l.x-index)
