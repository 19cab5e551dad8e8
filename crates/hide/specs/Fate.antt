-- The fates, by their numbers.
use Rattle.std.specs.Prelude.{ℕ, ◌≡◌, ◌<◌, List, map, Result, MatchResult}
use Rattle.hide.specs.declared.fate.Fate.{Fate}
use Rattle.hide.specs.declared.fate.Fate.TheVariants.{Left, Absent, Layer1, Layer2}
use Rattle.hide.specs.declared.fate.UnknownFate.{UnknownFate}

-- "0 left, 1 absent, 2 Layer1, 3 Layer2"
abbrev pub fate_number : Fate → ℕ
fate_number Left = 0
fate_number Absent = 1
fate_number Layer1 = 2
fate_number Layer2 = 3

abbrev pub fate_numbers : List Fate → List ℕ
fate_numbers fs = map fate_number fs

-- a byte gives the fate whose number it is, and one above 3 gives none
abbrev pub FateRead : ℕ → Result Fate UnknownFate → Type 0
FateRead byte r = MatchResult r (λ fate. byte ≡ fate_number fate) (λ _. 3 < byte)
