-- Any two contents of the lent block that the promise of a function permits are the same.
use Rattle.std.proofs.Common.{◌≡◌, ℕ, List, sym, ◌∙◌}
use Rattle.meaning.specs.Row.{Row, less}
use Rattle.row.specs.Block.{row_of, put_row}

pub put_row_once : (old : List ℕ) (i : ℕ) (r : Row) {new new' : List ℕ} → new ≡ put_row old i r → new' ≡ put_row old i r → new ≡ new'
put_row_once old i r e f = e ∙ sym f

pub less_in_once : (old : List ℕ) (j q p : ℕ) (s : Row) {new new' : List ℕ}
    → new ≡ put_row old j (less p q s (row_of old j)) → new' ≡ put_row old j (less p q s (row_of old j)) → new ≡ new'
less_in_once old j q p s e f = e ∙ sym f
