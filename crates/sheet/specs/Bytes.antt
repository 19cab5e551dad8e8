-- What the contracts over bytes cite beside the definitions of meaning.
use Rattle.std.specs.Prelude.{ℕ, ◌+◌, ◌^◌, Bool, List, ◌++◌, Result, Ok, Err, leb, length, take, drop}
use Rattle.meaning.specs.Lists.{any_of}
use Rattle.meaning.specs.Sheet.{Sheet, Work, constraints_of}
use Rattle.meaning.specs.Bytes.{numbers_at}
use Rattle.sheet.specs.declared.refusal.Refusal.{Refusal}
use Rattle.sheet.specs.declared.refusal.Refusal.TheVariants.{Count, Version, Width, Words, Size, Kind, Number}
use Rattle.sheet.specs.declared.refusal.Refusal.TheVariants.{TooMany, List as ListRow, SheetBuffer, FateBuffer}

-- ---- the refusals

-- the row's number in the table
abbrev pub number_of : Refusal → ℕ
number_of Count = 1
number_of Version = 2
number_of Width = 3
number_of Words = 4
number_of Size = 5
number_of Kind = 6
number_of Number = 7
number_of TooMany = 8
number_of ListRow = 9
number_of SheetBuffer = 10
number_of FateBuffer = 11

-- 0 where no row applies
abbrev pub number_in : {T : Type 0} → Result T Refusal → ℕ
number_in (Ok _) = 0
number_in (Err r) = number_of r

-- one of the k numbers from i on is 2 ^ p or more
abbrev pub too_large_from : ℕ → List ℕ → ℕ → ℕ → Bool
too_large_from p b i k = any_of (leb (2 ^ p)) (numbers_at b i k)

-- the bytes new in the place of those from i on
abbrev pub written : List ℕ → ℕ → List ℕ → List ℕ
written old i new = take i old ++ (new ++ drop (i + length new) old)

-- the sheet of width p and n words that a working sheet is
abbrev pub sheet_of : ℕ → ℕ → Work → Sheet
sheet_of p n w = record { width = p; words = n; constraints = constraints_of w }
