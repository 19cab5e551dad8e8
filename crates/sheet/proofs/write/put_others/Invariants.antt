-- The first i others are written.
use Rattle.std.proofs.Common.{take}
use Rattle.meaning.specs.Bytes.{size_of}
use Rattle.sheet.specs.Work.{constraints_of}
use Rattle.sheet.proofs.Writing.{Laid}
use Rattle.sheet.proofs.write.put_others.Given as goal

abbrev pub invariant-loop-i : goal.invariant-loop-i
invariant-loop-i l = Laid l.fn.out (size_of l.n l.eqs) l.n l.i (constraints_of (take l.i l.others)) l.out
