-- Sheets and what they say: "a constraint compares two terms: equal, different, at most, below", modulo 2 ^ p, and a
-- sheet is their conjunction.
use Rattle.std.specs.Prelude.{ℕ, zero, suc, ◌≤◌, ◌<◌, ◌^◌, ◌≡◌, ◌≢◌, Bool, ◌||◌, List, ◌++◌, map, length, get_or}
use Rattle.meaning.specs.Lists.{Each, any_of}
use Rattle.meaning.specs.Row.{Row, IsRow, most_words, coefficient, zero_row, value, row_has}

-- the kinds: "0 equal, 1 different, 2 at most, 3 below"
abbrev pub equal : ℕ
equal = 0

abbrev pub different : ℕ
different = 1

abbrev pub at_most : ℕ
at_most = 2

abbrev pub below : ℕ
below = 3

pub record Constraint : Type 0 where
  pub kind : ℕ
  pub left : Row
  pub right : Row

-- its width p, its number of words n, its constraints in order
pub record Sheet : Type 0 where
  pub width : ℕ
  pub words : ℕ
  pub constraints : List Constraint

-- ---- the limits: "p 1 to 32, n 1 to 16, m at most 64, at most 32 equalities and at most 32 others". A tidy sheet has at most 16
-- equalities and so an answer at most 48 constraints

abbrev pub most_width : ℕ
most_width = 32

abbrev pub most_each : ℕ
most_each = 32

abbrev pub most_read : ℕ
most_read = 64

abbrev pub most_written : ℕ
most_written = 48

-- ---- what they say

-- by the kind; a number above 3, which is no kind, is read as below
abbrev pub Compared : ℕ → ℕ → ℕ → Type 0
Compared zero x y = x ≡ y
Compared (suc zero) x y = x ≢ y
Compared (suc (suc zero)) x y = x ≤ y
Compared (suc (suc (suc k))) x y = x < y

-- the constraint holds where the words have the values a
pub record Holds (p : ℕ) (a : List ℕ) (c : Constraint) : Type 0 where
  pub says : Compared c.kind (value p c.left a) (value p c.right a)

abbrev pub HoldAll : ℕ → List ℕ → List Constraint → Type 0
HoldAll p a cs = Each (Holds p a) cs

-- the values of the words: sixteen, each below 2 ^ p
pub record Values (p : ℕ) (a : List ℕ) : Type 0 where
  pub sixteen : length a ≡ 16
  pub small : (x : ℕ) → get_or a x 0 < 2 ^ p

-- ---- what the tests of a sheet leave: seventeen numbers below 2 ^ p on each side, and the words from n on nowhere

pub record IsTerm (p n : ℕ) (r : Row) : Type 0 where
  pub row : IsRow p r
  pub absent : (x : ℕ) → n ≤ x → x < most_words → coefficient r x ≡ 0

pub record IsConstraint (p n : ℕ) (c : Constraint) : Type 0 where
  pub left : IsTerm p n c.left
  pub right : IsTerm p n c.right

pub record IsSheet (s : Sheet) : Type 0 where
  pub wide : 1 ≤ s.width
  pub all : Each (IsConstraint s.width s.words) s.constraints

-- ---- the working sheet: the equalities as rows that are to be zero, and the others

pub record Work : Type 0 where
  pub eqs : List Row
  pub others : List Constraint

-- its shape: rows on every side; an other is no equality, and a disequality has zero on the right
pub record IsOther (p : ℕ) (c : Constraint) : Type 0 where
  pub left : IsRow p c.left
  pub right : IsRow p c.right
  pub other : equal < c.kind
  pub zero_right : c.kind ≡ different → c.right ≡ zero_row

pub record IsWork (p : ℕ) (w : Work) : Type 0 where
  pub rows : Each (IsRow p) w.eqs
  pub sides : Each (IsOther p) w.others

-- its constraints: "its equalities come first, in tidy order, then the others in their input order"
abbrev pub equal_zero : Row → Constraint
equal_zero r = record { kind = equal; left = r; right = zero_row }

abbrev pub constraints_of : Work → List Constraint
constraints_of w = map equal_zero w.eqs ++ w.others

-- ---- which of them have the word x

abbrev pub has : ℕ → Constraint → Bool
has x c = row_has x c.left || row_has x c.right

unfoldable pub occurs : ℕ → Work → Bool
occurs x w = any_of (row_has x) w.eqs || any_of (has x) w.others
