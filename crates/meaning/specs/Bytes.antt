-- The sheet in bytes: "All numbers big-endian. Four bytes: the count of bytes that follow. Then version (1), width p,
-- number of words n, number of constraints m, one byte each. Then m constraints: a kind byte, the left term, the right
-- term. A term is n coefficients and a constant, four bytes each."
use Rattle.std.specs.Prelude.{ℕ, zero, suc, ◌+◌, ◌-◌, ◌*◌, ◌/◌, ◌%◌, ◌^◌, List, [], ◌∷◌, ◌++◌, length, get_or, take, replicate}
use Rattle.meaning.specs.Row.{Row, constant, most_words}
use Rattle.meaning.specs.Sheet.{Constraint, Sheet}

-- ---- sizes

-- the bytes of one constraint of n words; "the whole is 8 + m × (1 + 8 × (n + 1)) bytes"
abbrev pub stride : ℕ → ℕ
stride n = 1 + 8 * (n + 1)

abbrev pub size_of : ℕ → ℕ → ℕ
size_of n m = 8 + m * stride n

-- ---- reading

-- the number in the four bytes from i on
unfoldable pub number_at : List ℕ → ℕ → ℕ
number_at b i = ((get_or b i 0 * 256 + get_or b (i + 1) 0) * 256 + get_or b (i + 2) 0) * 256 + get_or b (i + 3) 0

abbrev pub count_in : List ℕ → ℕ
count_in b = number_at b 0

abbrev pub version_in : List ℕ → ℕ
version_in b = get_or b 4 0

abbrev pub width_in : List ℕ → ℕ
width_in b = get_or b 5 0

abbrev pub words_in : List ℕ → ℕ
words_in b = get_or b 6 0

abbrev pub constraints_in : List ℕ → ℕ
constraints_in b = get_or b 7 0

-- the k numbers from i on
unfoldable pub numbers_at : List ℕ → ℕ → ℕ → List ℕ
numbers_at b i zero = []
numbers_at b i (suc k) = number_at b i ∷ numbers_at b (i + 4) k

-- the term from i on: its n coefficients, zeros for the words that the sheet does not have, its constant
unfoldable pub term_at : List ℕ → ℕ → ℕ → Row
term_at b n i = numbers_at b i n ++ (replicate (most_words - n) 0 ++ (number_at b (i + 4 * n) ∷ []))

unfoldable pub constraint_at : List ℕ → ℕ → ℕ → Constraint
constraint_at b n i = record { kind = get_or b i 0; left = term_at b n (i + 1); right = term_at b n (i + 1 + 4 * (n + 1)) }

unfoldable pub constraints_at : List ℕ → ℕ → ℕ → ℕ → List Constraint
constraints_at b n i zero = []
constraints_at b n i (suc m) = constraint_at b n i ∷ constraints_at b n (i + stride n) m

unfoldable pub sheet_in : List ℕ → Sheet
sheet_in b = record { width = width_in b; words = words_in b; constraints = constraints_at b (words_in b) 8 (constraints_in b) }

-- ---- writing

unfoldable pub number_bytes : ℕ → List ℕ
number_bytes x = x / 2 ^ 24 % 256 ∷ x / 2 ^ 16 % 256 ∷ x / 2 ^ 8 % 256 ∷ x % 256 ∷ []

unfoldable pub numbers_bytes : List ℕ → List ℕ
numbers_bytes [] = []
numbers_bytes (x ∷ xs) = number_bytes x ++ numbers_bytes xs

unfoldable pub term_bytes : ℕ → Row → List ℕ
term_bytes n r = numbers_bytes (take n r) ++ number_bytes (constant r)

unfoldable pub constraint_bytes : ℕ → Constraint → List ℕ
constraint_bytes n c = c.kind ∷ (term_bytes n c.left ++ term_bytes n c.right)

unfoldable pub constraints_bytes : ℕ → List Constraint → List ℕ
constraints_bytes n [] = []
constraints_bytes n (c ∷ cs) = constraint_bytes n c ++ constraints_bytes n cs

unfoldable pub sheet_bytes : Sheet → List ℕ
sheet_bytes s =
    let n : ℕ = s.words in
    let m : ℕ = length s.constraints in
    number_bytes (size_of n m - 4) ++ ((1 ∷ s.width ∷ n ∷ m ∷ []) ++ constraints_bytes n s.constraints)
