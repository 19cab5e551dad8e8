-- The first k numbers are written.
use Rattle.std.proofs.Common.{◌≡◌, take}
use Rattle.meaning.specs.Bytes.{numbers_bytes}
use Rattle.sheet.specs.Bytes.{written}
use Rattle.sheet.proofs.write.put_term.Given as goal

abbrev pub invariant-loop-k : goal.invariant-loop-k
invariant-loop-k l = l.out ≡ written l.fn.out l.i (numbers_bytes (take l.k l.x-items))
