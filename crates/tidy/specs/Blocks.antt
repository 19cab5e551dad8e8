-- The places of the basis as code holds them.
use Rattle.std.specs.Prelude.{ℕ, true, ◌<◌, List}
use Rattle.meaning.specs.Row.{IsRow}
use Rattle.meaning.specs.Tidy.{Basis}
use Rattle.row.specs.Block.{row_of, rows_from}

-- each of the sixteen places has a row
abbrev pub HasRows : ℕ → List ℕ → Type 0
HasRows p places = (x : ℕ) → x < 16 → IsRow p (row_of places x)

-- the basis of these places, whose rows have had a solution so far
abbrev pub basis_of : List ℕ → Basis
basis_of places = record { places = rows_from places 0 16; solvable = true }
