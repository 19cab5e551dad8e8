-- The numbers passed are below 2 ^ p.
use Rattle.std.proofs.Common.{◌≡◌, ◌^◌, leb, drop}
use Rattle.meaning.specs.Lists.{any_of}
use Rattle.meaning.specs.Bytes.{numbers_at}
use Rattle.sheet.specs.Bytes.{too_large_from}
use Rattle.sheet.proofs.judge.too_large.Given as goal

abbrev pub invariant-loop-j : goal.invariant-loop-j
invariant-loop-j l = any_of (leb (2 ^ l.p)) (drop l.j (numbers_at l.b l.i l.k)) ≡ too_large_from l.p l.b l.i l.k
