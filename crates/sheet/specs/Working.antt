-- What is asked of a working sheet that is worked on.
use Rattle.std.specs.Prelude.{ℕ, ◌≤◌}
use Rattle.meaning.specs.Sheet.{IsWork}
use Rattle.sheet.specs.Work.{sheet_work}
use Rattle.sheet.specs.declared.Sheet.{Sheet}

-- a width that sheets have
pub record IsWidth (p : ℕ) : Type 0 where
  pub some : 1 ≤ p
  pub most : p ≤ 32

-- its width is one that sheets have, its equalities and others fit into their places, and their rows are of that width
pub record IsWorking (s : Sheet) : Type 0 where
  pub width : IsWidth s.width
  pub few_eqs : s.equalities.count ≤ 32
  pub few_others : s.others.count ≤ 32
  pub work : IsWork s.width (sheet_work s)
