-- The sum so far and what the others from the index on take away are the whole.
use Rattle.std.proofs.Common.{◌≡◌, ◌+◌, ◌*◌, ◌^◌, ◌≤◌, drop}
use Rattle.meaning.specs.Layers.{lost}
use Rattle.sheet.specs.Work.{constraints_of}
use Rattle.layers.proofs.layer2.lost.Given as goal

abbrev pub invariant-loop-c : goal.invariant-loop-c
invariant-loop-c l =
    (l.acc ≤ l.c-index * 2 ^ 32)
    × (l.acc + lost l.p l.x (constraints_of (drop l.c-index l.others)) ≡ lost l.p l.x (constraints_of l.others))
