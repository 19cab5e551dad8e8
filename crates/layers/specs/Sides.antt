-- What putting into both sides of a constraint asks of it.
use Rattle.std.specs.Prelude.{ℕ}
use Rattle.meaning.specs.Row.{IsRow}
use Rattle.meaning.specs.Sheet.{Constraint}

-- both sides are rows of width p
pub record IsSides (p : ℕ) (c : Constraint) : Type 0 where
  pub left : IsRow p c.left
  pub right : IsRow p c.right
