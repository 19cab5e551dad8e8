-- The listing: what the program prints, as the bytes of its text. "Single spaces, decimal without leading zeros, a line feed
-- after each line."
use Rattle.std.specs.Prelude.{ℕ, zero, suc, ◌+◌, ◌/◌, ◌%◌, true, false, List, [], ◌∷◌, ◌++◌, ltb, length, get_or, take, drop, replicate}
use Rattle.meaning.specs.Row.{Row, most_words, constant}
use Rattle.meaning.specs.Sheet.{Constraint, Sheet, most_written}
use Rattle.meaning.specs.Bytes.{size_of, count_in, sheet_in}
use Rattle.meaning.specs.Refusal.{Call}
use Rattle.meaning.specs.Outcome.{Outcome, answer_in, outcome}

-- ---- numbers and lines

-- the character of a number below 10
abbrev pub digit : ℕ → ℕ
digit d = 48 + d

-- x in at most k digits: "decimal without leading zeros", so that more than the last digit stands only where x is 10 or more
unfoldable pub decimal_in : ℕ → ℕ → List ℕ
decimal_in zero x = []
decimal_in (suc k) x = elim (x / 10) [ zero ↦ digit x ∷ [] | suc q ↦ decimal_in k (x / 10) ++ (digit (x % 10) ∷ []) ]

-- a number below 2 ^ 32 has at most ten digits
unfoldable pub decimal : ℕ → List ℕ
decimal x = decimal_in 10 x

-- numbers, each after a "single space"
unfoldable pub numbers_text : List ℕ → List ℕ
numbers_text [] = []
numbers_text (x ∷ xs) = (32 ∷ decimal x) ++ numbers_text xs

-- "a line feed after each line"
abbrev pub line : List ℕ → List ℕ
line text = text ++ (10 ∷ [])

-- ---- the constraints

-- "kind (eq, ne, le, lt)", and nothing for a number that is no kind
unfoldable pub kind_name : ℕ → List ℕ
kind_name k = get_or ((101 ∷ 113 ∷ []) ∷ (110 ∷ 101 ∷ []) ∷ (108 ∷ 101 ∷ []) ∷ (108 ∷ 116 ∷ []) ∷ []) k []

-- the numbers of a term of a sheet of n words: its "coefficients and constant"
abbrev pub term_numbers : ℕ → Row → List ℕ
term_numbers n r = take n r ++ (constant r ∷ [])

-- "kind (eq, ne, le, lt), left coefficients and constant, bar, right side"
unfoldable pub constraint_line : ℕ → Constraint → List ℕ
constraint_line n c =
    line
    (kind_name c.kind
    ++ (numbers_text (term_numbers n c.left) ++ ((32 ∷ 124 ∷ []) ++ numbers_text (term_numbers n c.right))))

-- "Then a line per constraint"
unfoldable pub constraint_lines : ℕ → List Constraint → List ℕ
constraint_lines n [] = []
constraint_lines n (c ∷ cs) = constraint_line n c ++ constraint_lines n cs

-- ---- the first line and the fates

-- "First line: the answer's p, n, m", after the name `sheet`
abbrev pub head_line : ℕ → ℕ → ℕ → List ℕ
head_line p n m = line ((115 ∷ 104 ∷ 101 ∷ 101 ∷ 116 ∷ []) ++ numbers_text (p ∷ n ∷ m ∷ []))

unfoldable pub first_line : Sheet → List ℕ
first_line s = head_line s.width s.words (length s.constraints)

-- "left, absent, layer1 or layer2", and nothing for a number that is no fate
unfoldable pub fate_name : ℕ → List ℕ
fate_name f =
    get_or
    ((108 ∷ 101 ∷ 102 ∷ 116 ∷ [])
    ∷ (97 ∷ 98 ∷ 115 ∷ 101 ∷ 110 ∷ 116 ∷ [])
    ∷ (108 ∷ 97 ∷ 121 ∷ 101 ∷ 114 ∷ 49 ∷ [])
    ∷ (108 ∷ 97 ∷ 121 ∷ 101 ∷ 114 ∷ 50 ∷ [])
    ∷ [])
    f []

-- "`fate`, its number, and left, absent, layer1 or layer2"
unfoldable pub fate_line : ℕ → ℕ → List ℕ
fate_line x f = line ((102 ∷ 97 ∷ 116 ∷ 101 ∷ []) ++ (numbers_text (x ∷ []) ++ (32 ∷ fate_name f)))

-- "Then one line per listed word, in list order"
unfoldable pub fate_lines : List ℕ → List ℕ → List ℕ
fate_lines [] fs = []
fate_lines (x ∷ xs) [] = []
fate_lines (x ∷ xs) (f ∷ fs) = fate_line x f ++ fate_lines xs fs

-- ---- what is printed

-- the answer s for the list xs, whose fates are fs
unfoldable pub listing : Sheet → List ℕ → List ℕ → List ℕ
listing s xs fs = first_line s ++ (constraint_lines s.words s.constraints ++ fate_lines xs fs)

-- "`refused` and its number"
unfoldable pub refused_text : ℕ → List ℕ
refused_text k = line ((114 ∷ 101 ∷ 102 ∷ 117 ∷ 115 ∷ 101 ∷ 100 ∷ []) ++ numbers_text (k ∷ []))

-- what a call with the list xs comes to, as text
unfoldable pub outcome_text : Outcome → List ℕ → List ℕ
outcome_text o xs =
    elim o.refused [ zero ↦ listing (sheet_in (answer_in o)) xs o.fates | suc k ↦ refused_text (suc k) ]

-- standard input is "a sheet, then list bytes to the end. Bytes that fall short of the sheet's count all go in as the sheet":
-- no more are taken than there are, and fewer than four fall short whatever count they begin
abbrev pub sheet_part : List ℕ → List ℕ
sheet_part b = take (4 + count_in b) b

abbrev pub list_part : List ℕ → List ℕ
list_part b = drop (4 + count_in b) b

-- the call on them: the buffers that are lent have room for the answer of any sheet and for the fates of any list; what they hold is
-- not seen in the text
abbrev pub call_in : List ℕ → Call
call_in b =
    record { sheet = sheet_part b; list = list_part b; out = replicate (size_of most_words most_written) 0; fates = replicate most_words 0 }

-- the text for the whole standard input: "Above 16,384 bytes it prints `refused 1`"
unfoldable pub printed : List ℕ → List ℕ
printed b =
    elim (ltb 16384 (length b)) [
      | true ↦ refused_text 1
      | false ↦ outcome_text (outcome (call_in b)) (list_part b)
    ]
