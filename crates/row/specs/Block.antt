-- A flat list of numbers as a block of rows, seventeen numbers each.
use Rattle.std.specs.Prelude.{List, [], ◌∷◌, ℕ, zero, suc, ◌*◌, take, drop}
use Rattle.std.proofs.Math.Seq.{paste}
use Rattle.meaning.specs.Row.{Row}

-- row i
abbrev pub row_of : List ℕ → ℕ → Row
row_of l i = take 17 (drop (i * 17) l)

-- r in the place of row i
abbrev pub put_row : List ℕ → ℕ → Row → List ℕ
put_row l i r = paste l (i * 17) r 17

-- rows i, i + 1, .., i + n − 1
abbrev pub rows_from : List ℕ → ℕ → ℕ → List Row
rows_from l i zero = []
rows_from l i (suc n) = row_of l i ∷ rows_from l (suc i) n
