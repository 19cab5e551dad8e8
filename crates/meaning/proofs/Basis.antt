-- The invariant of the basis while rows are put in: what each place holds, and Howell's property as extension, that every
-- solution of the later places can be completed to one of this place by a value of its word.
use mathlib.Core.Path.{◌≡◌}
use mathlib.Core.List.{List, [], ◌∷◌}
use Prim.Native.Nat.{ℕ, suc, ◌^◌, ◌<◌}
use lib.ListN.{set}
use Rattle.meaning.specs.Lists.{Each}
use Rattle.meaning.specs.Row.{Row, IsRow, most_words, coefficient, zero_row}
use Rattle.meaning.specs.Sheet.{Values}
use Rattle.meaning.specs.Form.{PowerBelow}
use Rattle.meaning.proofs.Working.{IsZero}

-- the place of word x has zeros, or a row that leads with a power of two of x
pub data Lead (p x : ℕ) (s : Row) : Type 0 where
  empty : s ≡ zero_row → Lead p x s
  leads : PowerBelow p (coefficient s x) → Lead p x s

pub record Place (p x : ℕ) (s : Row) : Type 0 where
  pub row : IsRow p s
  pub lacks : (i : ℕ) → i < x → coefficient s i ≡ 0
  pub lead : Lead p x s

-- some value of x makes the row zero where the other words have the values a
pub record Extends (p x : ℕ) (a : List ℕ) (s : Row) : Type 0 where
  pub value : ℕ
  pub small : value < 2 ^ p
  pub zero : IsZero p (set a x value) s

-- the places from word x on
pub data Howell (p : ℕ) : ℕ → List Row → Type 0 where
  howell_nil : Howell p most_words []
  howell_cons : {x : ℕ} {s : Row} {ss : List Row} → x < most_words → Place p x s
      → ((a : List ℕ) → Values p a → Each (IsZero p a) ss → Extends p x a s)
      → Howell p (suc x) ss → Howell p x (s ∷ ss)
