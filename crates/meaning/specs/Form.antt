-- The tidy form as document 01 declares it, for a reader to check instead of the algorithm: the equalities are 1 = 0
-- alone, or they have the five properties of the reduced Howell form.
use Rattle.std.specs.Prelude.{ℕ, zero, suc, ◌+◌, ◌*◌, ◌%◌, ◌^◌, ◌≤◌, ◌<◌, ◌≡◌, cond, List, [], ◌∷◌, ltb}
use Rattle.meaning.specs.Lists.{Each, EachPair}
use Rattle.meaning.specs.Row.{Row, most_words, coefficient, zero_row, one_row}

-- "the leading word of a row is the lowest-numbered word with a non-zero coefficient"; 16 or more where it lacks words
unfoldable pub leading : Row → ℕ
leading [] = 0
leading (c ∷ r) = elim c [ zero ↦ suc (leading r) | suc d ↦ 0 ]

abbrev pub lead : Row → ℕ
lead r = coefficient r (leading r)

-- the sum of the rows' multiples, q the multiplier of the first
abbrev pub plus : ℕ → ℕ → Row → Row → Row
plus p q [] r = []
plus p q (y ∷ s) [] = []
plus p q (y ∷ s) (x ∷ r) = (x + q * y) % 2 ^ p ∷ plus p q s r

abbrev pub sum : ℕ → List ℕ → List Row → Row
sum p [] rs = zero_row
sum p (q ∷ qs) [] = zero_row
sum p (q ∷ qs) (r ∷ rs) = plus p q r (sum p qs rs)

pub record IsSum (p : ℕ) (rs : List Row) (r : Row) : Type 0 where
  pub multipliers : List ℕ
  pub is : r ≡ sum p multipliers rs

-- the row lacks words 0 to i
pub record Lacks (i : ℕ) (r : Row) : Type 0 where
  pub lacks : (x : ℕ) → x ≤ i → coefficient r x ≡ 0

-- the rows that lead beyond i
abbrev pub beyond : ℕ → List Row → List Row
beyond i [] = []
beyond i (r ∷ rs) = let bs : List Row = beyond i rs in cond (ltb i (leading r)) (r ∷ bs) bs

-- a power 2 ^ k, k below p
pub record PowerBelow (p c : ℕ) : Type 0 where
  pub exponent : ℕ
  pub bounded : exponent < p
  pub power : c ≡ 2 ^ exponent

pub record ReducedHowell (p : ℕ) (rs : List Row) : Type 0 where
  -- "rows stand in rising order of it, one per leading word"
  pub rising : EachPair (λ r s. leading r < leading s) rs
  -- "a leading coefficient is a power 2^k, k below p"
  pub powers : Each (λ r. PowerBelow p (lead r)) rs
  -- "in every earlier row the coefficient of that word is below 2^k"
  pub below : EachPair (λ r s. coefficient r (leading s) < lead s) rs
  -- "any sum of multiples of rows that lacks words 0 to i is a sum of multiples of the rows that lead beyond i"
  pub closed : (i : ℕ) → i < most_words → (r : Row) → IsSum p rs r → Lacks i r → IsSum p (beyond i rs) r
  -- "no row lacks words"
  pub wordy : Each (λ r. leading r < most_words) rs

pub data TidyRows (p : ℕ) : List Row → Type 0 where
  unsolvable : TidyRows p (one_row ∷ [])
  solvable : {rs : List Row} → ReducedHowell p rs → TidyRows p rs
