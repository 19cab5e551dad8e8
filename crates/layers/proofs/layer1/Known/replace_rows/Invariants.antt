-- `layers::layer1::Known::replace_rows` meets its contract. The invariant: the first i rows are replaced, and those behind are as they were.
use Rattle.meaning.specs.Layers.{replaced}
use Rattle.layers.proofs.Replacing.{Mapped}
use Rattle.layers.proofs.layer1.Known.replace_rows.Given as goal

abbrev pub invariant-loop-i : goal.invariant-loop-i
invariant-loop-i l = Mapped (replaced l.self.width l.self.word l.self.power l.self.row.w) l.initial.e l.e l.i
