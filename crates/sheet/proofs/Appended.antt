-- A row written at the end of its block: one more at the end of the rows that it stands for.
use Rattle.std.proofs.Common.{ℕ, ◌+◌, ◌*◌, ◌≤◌, ◌≡◌, List, [], ◌∷◌, ◌++◌, length, zero-add, add-one, arith}
use Rattle.meaning.specs.Row.{Row}
use Rattle.row.specs.Block.{put_row, rows_from}
use Rattle.row.proofs.Blocks.{put_same, rows_put_other, rows_last}

pub rows_appended : (l : List ℕ) (n : ℕ) (r : Row) → (n + 1) * 17 ≤ length l → length r ≡ 17
    → rows_from (put_row l n r) 0 (n + 1) ≡ rows_from l 0 n ++ (r ∷ [])
rows_appended l n r fits long =
    let kept : rows_from (put_row l n r) 0 n ≡ rows_from l 0 n = rows_put_other l n r fits long 0 n (omega arith) (λ j a b e. omega arith) in
    rw (add-one n, rows_last (put_row l n r) 0 n, zero-add n, kept, put_same l n r fits long)
