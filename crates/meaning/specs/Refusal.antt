-- The refusal numbers: "The lowest number that applies is given; later tests are only reached when the earlier ones pass."
-- Each test takes what it looks at, and a call's table is its tests in the order in which it looks, so that calls share them.
use Rattle.std.specs.Prelude.{ℕ, ◌+◌, ◌-◌, ◌^◌, ◌≡◌, Bool, true, false, not, cond, ◌||◌, List, [], ◌∷◌, ◌++◌, leb, ltb, eqb, length}
use Rattle.meaning.specs.Lists.{Each, any_of}
use Rattle.meaning.specs.Row.{most_words}
use Rattle.meaning.specs.Sheet.{equal, below, Constraint, Sheet, most_width, most_each, most_read, most_written}
use Rattle.meaning.specs.Bytes.{size_of, count_in, version_in, width_in, words_in, constraints_in, sheet_in}

-- ---- a table

-- a row: its number, and whether it applies
pub record Test : Type 0 where
  pub number : ℕ
  pub applies : Bool

abbrev pub row : ℕ → Bool → Test
row k b = record { number = k; applies = b }

-- the number of the first row that applies, 0 where none does
unfoldable pub first_in : List Test → ℕ
first_in [] = 0
first_in (t ∷ ts) = elim t.applies [ true ↦ t.number | false ↦ first_in ts ]

-- the same declared: a row with the number k applies and none before it does; none does
pub data Refuses (k : ℕ) : List Test → Type 0 where
  here : {t : Test} {ts : List Test} → t.number ≡ k → t.applies ≡ true → Refuses k (t ∷ ts)
  later : {t : Test} {ts : List Test} → t.applies ≡ false → Refuses k ts → Refuses k (t ∷ ts)

pub record Accepts (ts : List Test) : Type 0 where
  pub none : Each (λ (t : Test). t.applies ≡ false) ts

-- ---- the tests, "given exactly when"

-- 1: "fewer than 8 bytes, or the count differs from the bytes after it"
unfoldable pub bad_count : List ℕ → Bool
bad_count b = ltb (length b) 8 || not (eqb (count_in b) (length b - 4))

-- 2: "version is not 1"
unfoldable pub bad_version : ℕ → Bool
bad_version v = not (eqb v 1)

-- 3: "p is 0 or above 32"
unfoldable pub bad_width : ℕ → Bool
bad_width p = eqb p 0 || ltb most_width p

-- 4: "n is 0 or above 16"
unfoldable pub bad_words : ℕ → Bool
bad_words n = eqb n 0 || ltb most_words n

-- 5: "m above 64, or the size differs from the formula"
unfoldable pub bad_size : ℕ → ℕ → ℕ → Bool
bad_size n m size = ltb most_read m || not (eqb size (size_of n m))

-- 6: "a kind above 3", of all constraints before 7 looks at any number
unfoldable pub bad_kind : List Constraint → Bool
bad_kind cs = any_of (λ (c : Constraint). ltb below c.kind) cs

-- 7: "a number that is 2^p or more", on either side
abbrev pub too_large : ℕ → Constraint → Bool
too_large p c = any_of (leb (2 ^ p)) c.left || any_of (leb (2 ^ p)) c.right

unfoldable pub bad_number : ℕ → List Constraint → Bool
bad_number p cs = any_of (too_large p) cs

-- 8: "more than 32 equalities, or more than 32 others"
abbrev pub equal_count : List Constraint → ℕ
equal_count [] = 0
equal_count (c ∷ cs) = cond (eqb c.kind equal) 1 0 + equal_count cs

unfoldable pub too_many : List Constraint → Bool
too_many cs = ltb most_each (equal_count cs) || ltb most_each (length cs - equal_count cs)

-- 9: "a listed number that is n or more, or listed twice"
abbrev pub twice : List ℕ → Bool
twice [] = false
twice (x ∷ xs) = any_of (eqb x) xs || twice xs

unfoldable pub bad_list : ℕ → List ℕ → Bool
bad_list n xs = any_of (leb n) xs || twice xs

-- 10: "sheet buffer shorter than 8 + 48 × (1 + 8 × (n + 1))"
unfoldable pub short_sheet_buffer : ℕ → List ℕ → Bool
short_sheet_buffer n out = ltb (length out) (size_of n most_written)

-- 11: "fate buffer shorter than the list"
unfoldable pub short_fate_buffer : List ℕ → List ℕ → Bool
short_fate_buffer xs fates = ltb (length fates) (length xs)

-- ---- a sheet's rows: 1 to 5 look at the head, 6 to 8 at the constraints

unfoldable pub head_rows : List ℕ → List Test
head_rows b =
    row 1 (bad_count b)
    ∷ row 2 (bad_version (version_in b))
    ∷ row 3 (bad_width (width_in b))
    ∷ row 4 (bad_words (words_in b))
    ∷ row 5 (bad_size (words_in b) (constraints_in b) (length b))
    ∷ []

unfoldable pub body_rows : Sheet → List Test
body_rows s =
    row 6 (bad_kind s.constraints) ∷ row 7 (bad_number s.width s.constraints) ∷ row 8 (too_many s.constraints) ∷ []

abbrev pub sheet_rows : List ℕ → List Test
sheet_rows b = head_rows b ++ body_rows (sheet_in b)

-- ---- the call

-- its further rows, n the sheet's number of words: the list and the two buffers
unfoldable pub call_rows : ℕ → List ℕ → List ℕ → List ℕ → List Test
call_rows n list out fates =
    row 9 (bad_list n list) ∷ row 10 (short_sheet_buffer n out) ∷ row 11 (short_fate_buffer list fates) ∷ []

-- what it hands over: the sheet and the list, and the two buffers that it lends
pub record Call : Type 0 where
  pub sheet : List ℕ
  pub list : List ℕ
  pub out : List ℕ
  pub fates : List ℕ

abbrev pub table : Call → List Test
table c = sheet_rows c.sheet ++ call_rows (words_in c.sheet) c.list c.out c.fates

-- the number of a call, 0 where no row applies
unfoldable pub refusal : Call → ℕ
refusal c = first_in (table c)
