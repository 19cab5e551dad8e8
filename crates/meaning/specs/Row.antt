-- Terms: "a sum of coefficient times word, plus a constant, modulo 2^p". A row is a term's numbers, the coefficients of
-- sixteen words and then the constant. A sheet of n words is one of sixteen of which the words from n on occur nowhere.
use Rattle.std.specs.Prelude.{ℕ, ◌+◌, ◌*◌, ◌/◌, ◌%◌, ◌^◌, ◌<◌, ◌≡◌, Bool, not, List, [], ◌∷◌, ◌++◌, eqb, length, get_or, take, replicate}
use Rattle.meaning.specs.Lists.{all_of}
use Rattle.meaning.specs.Number.{minus, kappa, inverse}

abbrev pub Row : Type 0
Row = List ℕ

abbrev pub most_words : ℕ
most_words = 16

-- the coefficients and the constant
abbrev pub numbers : ℕ
numbers = 17

abbrev pub coefficient : Row → ℕ → ℕ
coefficient r x = get_or r x 0

abbrev pub constant : Row → ℕ
constant r = get_or r most_words 0

-- the term 0
abbrev pub zero_row : Row
zero_row = replicate numbers 0

-- the term 1
abbrev pub one_row : Row
one_row = replicate most_words 0 ++ (1 ∷ [])

-- seventeen numbers, each below 2 ^ p
pub record IsRow (p : ℕ) (r : Row) : Type 0 where
  pub long : length r ≡ numbers
  pub small : (i : ℕ) → get_or r i 0 < 2 ^ p

-- ---- the value

abbrev pub dot : List ℕ → List ℕ → ℕ
dot [] vs = 0
dot (c ∷ r) [] = 0
dot (c ∷ r) (v ∷ vs) = c * v + dot r vs

-- the term's value where the sixteen words have the values a: the constant counts once
unfoldable pub value : ℕ → Row → List ℕ → ℕ
value p r a = dot r (a ++ (1 ∷ [])) % 2 ^ p

-- ---- multiples

-- r less q times s
abbrev pub less : ℕ → ℕ → Row → Row → Row
less p q [] r = []
less p q (y ∷ s) [] = []
less p q (y ∷ s) (x ∷ r) = minus p x (q * y) ∷ less p q s r

abbrev pub scale : ℕ → ℕ → Row → Row
scale p q [] = []
scale p q (x ∷ r) = (q * x) % 2 ^ p ∷ scale p q r

-- the row times the inverse of the odd part of its coefficient of x, which becomes a power of two
unfoldable pub unit : ℕ → ℕ → Row → Row
unit p x r = scale p (inverse p (coefficient r x / 2 ^ kappa p (coefficient r x))) r

-- ---- tests

-- it has no word in it
unfoldable pub wordless : Row → Bool
wordless r = all_of (λ c. eqb c 0) (take most_words r)

-- it has the word x
abbrev pub row_has : ℕ → Row → Bool
row_has x r = not (eqb (coefficient r x) 0)
