-- Rows that are tidied alone.
use Rattle.std.specs.Prelude.{ℕ, ◌*◌, ◌^◌, Bool, true, false, not, ◌||◌, List, [], ◌∷◌, ◌++◌, leb, ltb, eqb, length, take}
use Rattle.meaning.specs.Lists.{any_of}
use Rattle.meaning.specs.Row.{Row}
use Rattle.meaning.specs.Tidy.{tidy}
use Rattle.meaning.specs.Outcome.{over}
use Rattle.row.specs.Block.{rows_from}

-- how many they are, and the block afterwards
pub record Tidied : Type 0 where
  pub answer : ℕ
  pub rows : List ℕ

-- they are none to tidy: not 544 numbers, more than 32 rows, a width that is not 1 to 32, or a number that is 2^p or more
unfoldable pub bad_rows : List ℕ → ℕ → ℕ → Bool
bad_rows rows eqs p =
    not (eqb (length rows) 544) || (ltb 32 eqs || (eqb p 0 || (ltb 32 p || any_of (leb (2 ^ p)) (take (eqs * 17) rows))))

-- the numbers of rows, one row after the other
abbrev pub flat : List Row → List ℕ
flat [] = []
flat (r ∷ rs) = r ++ flat rs

unfoldable pub tidied_by : Bool → List ℕ → ℕ → ℕ → Tidied
tidied_by true rows eqs p = record { answer = 255; rows = rows }
tidied_by false rows eqs p =
    let rs : List Row = (tidy p (record { eqs = rows_from rows 0 eqs; others = [] })).eqs in
    record { answer = length rs; rows = over (flat rs) rows }

-- the first eqs rows of the block tidied: they stand at its front, and the numbers behind them stay
unfoldable pub tidied_rows : List ℕ → ℕ → ℕ → Tidied
tidied_rows rows eqs p = tidied_by (bad_rows rows eqs p) rows eqs p
