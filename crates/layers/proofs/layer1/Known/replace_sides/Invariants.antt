-- `layers::layer1::Known::replace_sides` meets its contract. The invariant: the first others are replaced.
use Rattle.std.proofs.Common.{◌≡◌, map, take}
use Rattle.meaning.specs.Layers.{replaced_in}
use Rattle.sheet.specs.Others.{others_of}
use Rattle.sheet.specs.Work.{constraint_of, constraints_of}
use Rattle.layers.proofs.layer1.Known.replace_sides.Given as goal

abbrev pub invariant-loop-c : goal.invariant-loop-c
invariant-loop-c l =
    (constraints_of (others_of l.next)
    ≡ map (λ c. replaced_in l.self.width l.self.word l.self.power l.self.row.w (constraint_of c)) (take l.c-index l.others))
    × (l.next.count ≡ l.c-index)
