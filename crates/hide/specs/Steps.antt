-- The steps of the walks, on a working sheet.
use Rattle.std.specs.Prelude.{ℕ, ◌≡◌, ◌≤◌, List, [], ◌∷◌, get_or, set}
use Rattle.meaning.specs.Layers.{try}
use Rattle.meaning.specs.Walk.{Walked, State, walk, unhidden_from}
use Rattle.sheet.specs.Work.{sheet_work}
use Rattle.sheet.specs.Working.{IsWorking}
use Rattle.sheet.specs.declared.Sheet.{Sheet}
use Rattle.hide.specs.Fate.{fate_number, fate_numbers}
use Rattle.hide.specs.declared.fate.Fate.{Fate}

-- the new sheet can be worked on, has the width and the words of the old, and no more others
pub record Follows (old new : Sheet) : Type 0 where
  pub working : IsWorking new
  pub width : new.width ≡ old.width
  pub words : new.words ≡ old.words
  pub fewer : new.others.count ≤ old.others.count

-- the new sheet and the fate f are what the try of word x comes to
pub record IsTried (x : ℕ) (old new : Sheet) (f : Fate) : Type 0 where
  pub follows : Follows old new
  pub count : new.equalities.count ≡ old.equalities.count
  pub fate : fate_number f ≡ (try old.width x (sheet_work old)).fate
  pub work : sheet_work new ≡ (try old.width x (sheet_work old)).work

-- word x had the fate f, and has g after its turn, in a walk over its position alone, wherever it is listed
abbrev pub IsTurned : ℕ → Sheet → Fate → Sheet → Fate → Type 0
IsTurned x old f new g =
    (list fates : List ℕ) (i : ℕ) → get_or list i 0 ≡ x → get_or fates i 0 ≡ fate_number f
    → walk old.width list (unhidden_from i (fate_number f ∷ [])) (record { work = sheet_work old; fates = fates })
    ≡ record { work = sheet_work new; fates = set fates i (fate_number g) }

-- the sheet and the fates so far, and the number of walks beside them
abbrev pub walked : Sheet → List Fate → Walked
walked s fs = record { work = sheet_work s; fates = fate_numbers fs }

abbrev pub state : Sheet → List Fate → ℕ → State
state s fs n = record { work = sheet_work s; fates = fate_numbers fs; walks = n }
