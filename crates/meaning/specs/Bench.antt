-- The bench sheets B1 to B14 of document 01, computed: "proved against the definitions as a single list under one claim".
-- B1 also from its bytes to its bytes, every one through its bytes, a sheet with one damage for each of rows 1 to 11, and
-- the listing of B1 as document 01 prints it.
use Rattle.std.specs.Prelude.{ℕ, suc, ◌+◌, ◌-◌, Bool, true, false, ◌&&◌, List, [], ◌∷◌, ◌++◌, T, eqb, length, replicate, set}
use Rattle.meaning.specs.Lists.{same, kept_by}
use Rattle.meaning.specs.Number.{minus, kappa, inverse_in, inverse}
use Rattle.meaning.specs.Row.{Row, value, unit, wordless}
use Rattle.meaning.specs.Sheet.{Constraint, Sheet, constraints_of, occurs}
use Rattle.meaning.specs.Tidy.{equalities, others, working, turn_by, turn, put, put_all, lowered, reduced, filled, kept, tidy_by, tidy}
use Rattle.meaning.specs.Layers.{chosen, replaced, layer1_by, layer1, greatest, past_least, tightened, grouped_by, grouped, with_bound_by, gathered, ways, lost, spare, without, try_layer2, try_layer1, try_by, try}
use Rattle.meaning.specs.Walk.{State, settled, turned, walk, unhidden_from, list_order, walks_from, hidden_in, hidden}
use Rattle.meaning.specs.Bytes.{size_of, number_at, numbers_at, term_at, constraint_at, constraints_at, sheet_in, number_bytes, numbers_bytes, term_bytes, constraint_bytes, constraints_bytes, sheet_bytes}
use Rattle.meaning.specs.Refusal.{Call, first_in, bad_count, bad_version, bad_width, bad_words, bad_size, bad_kind, bad_number, too_many, bad_list, short_sheet_buffer, short_fate_buffer, head_rows, body_rows, call_rows, refusal}
use Rattle.meaning.specs.Outcome.{Outcome, answer_of, outcome_by, outcome}
use Rattle.meaning.specs.Listing.{decimal_in, decimal, numbers_text, kind_name, constraint_line, constraint_lines, first_line, fate_name, fate_line, fate_lines, listing, refused_text, outcome_text, printed}

-- ---- B1 to B14: "x, y, z are words 0, 1, 2; n = 3"

abbrev term : ℕ → ℕ → ℕ → ℕ → Row
term x y z c = x ∷ y ∷ z ∷ (replicate 13 0 ++ (c ∷ []))

abbrev eq : Row → Row → Constraint
eq l r = record { kind = 0; left = l; right = r }

abbrev ne : Row → Row → Constraint
ne l r = record { kind = 1; left = l; right = r }

abbrev le : Row → Row → Constraint
le l r = record { kind = 2; left = l; right = r }

abbrev lt : Row → Row → Constraint
lt l r = record { kind = 3; left = l; right = r }

abbrev number : ℕ → Row
number c = term 0 0 0 c

record Case : Type 0 where
  width : ℕ
  sheet : List Constraint
  list : List ℕ
  answer : List Constraint
  fates : List ℕ
  walks : ℕ

-- no list, no walk
abbrev tidied : ℕ → List Constraint → List Constraint → Case
tidied p cs ds = record { width = p; sheet = cs; list = []; answer = ds; fates = []; walks = 0 }

-- one word, one walk
abbrev tried : ℕ → List Constraint → ℕ → List Constraint → ℕ → Case
tried p cs x ds f = record { width = p; sheet = cs; list = x ∷ []; answer = ds; fates = f ∷ []; walks = 1 }

cases : List Case
cases =
    -- B1
    tried 3 (eq (term 6 1 0 0) (number 4) ∷ ne (term 2 0 1 0) (number 0) ∷ le (term 4 1 0 0) (number 3) ∷ []) 0
    (eq (term 0 4 0 0) (number 0) ∷ ne (term 0 5 1 4) (number 0) ∷ le (term 0 3 0 0) (number 3) ∷ []) 2
    -- B2
    ∷ tried 3 (eq (term 0 0 1 0) (term 4 1 0 0) ∷ le (term 6 1 0 0) (number 4) ∷ ne (term 1 0 0 0) (term 0 0 1 0) ∷ []) 0
    (eq (term 0 2 6 0) (number 0) ∷ []) 3
    -- B3
    ∷ tried 3 (eq (term 2 3 0 0) (number 4) ∷ le (term 1 1 0 0) (number 3) ∷ []) 0 (eq (term 0 4 0 0) (number 0) ∷ []) 3
    -- B4
    ∷ tried 3 (eq (term 2 3 0 0) (number 4) ∷ le (term 1 1 0 0) (number 2) ∷ []) 0
    (eq (term 2 3 0 4) (number 0) ∷ eq (term 0 4 0 0) (number 0) ∷ le (term 1 1 0 0) (number 2) ∷ []) 0
    -- B5
    ∷ tidied 3 (eq (term 2 0 0 0) (number 1) ∷ []) (eq (number 1) (number 0) ∷ [])
    -- B6
    ∷ tidied 3 (eq (term 6 1 0 0) (number 4) ∷ []) (eq (term 2 3 0 4) (number 0) ∷ eq (term 0 4 0 0) (number 0) ∷ [])
    -- B7
    ∷ tried 1 (ne (term 1 0 0 0) (term 0 1 0 0) ∷ []) 0 [] 3
    -- B8
    ∷ tried 1 (ne (term 1 0 0 0) (term 0 1 0 0) ∷ ne (term 1 0 0 0) (term 0 0 1 0) ∷ []) 0
    (ne (term 1 1 0 0) (number 0) ∷ ne (term 1 0 1 0) (number 0) ∷ []) 0
    -- B9
    ∷ record {
      width = 1;
      sheet = ne (term 1 0 0 0) (term 0 1 0 0) ∷ ne (term 1 0 0 0) (term 0 0 1 0) ∷ [];
      list = 0 ∷ 1 ∷ [];
      answer = [];
      fates = 3 ∷ 3 ∷ [];
      walks = 2;
    }
    -- B10
    ∷ tried 3 (le (term 2 0 0 0) (term 1 0 0 0) ∷ []) 0 (le (term 2 0 0 0) (term 1 0 0 0) ∷ []) 0
    -- B11
    ∷ tried 3 (lt (term 1 0 0 0) (number 0) ∷ []) 0 (lt (term 1 0 0 0) (number 0) ∷ []) 0
    -- B12
    ∷ tidied 3 (eq (term 2 0 0 0) (number 2) ∷ eq (term 6 0 0 0) (number 6) ∷ []) (eq (term 2 0 0 6) (number 0) ∷ [])
    -- B13
    ∷ tidied 32 (eq (term 4294967295 0 0 0) (number 1) ∷ []) (eq (term 1 0 0 1) (number 0) ∷ [])
    -- B14
    ∷ tidied 3 [] []
    ∷ []

-- three choices of the rules that change no answer's meaning, so that no law sees them: the first of equals is chosen; a side is
-- left alone where 2^k does not divide its coefficient; and a bound that is not constant makes δ = 0, below and above, though some
-- x meets it whatever y is
choices : List Case
choices =
    tried 3 (eq (term 1 0 1 0) (number 0) ∷ eq (term 0 1 1 0) (number 0) ∷ le (term 0 0 1 0) (number 3) ∷ []) 2
    (eq (term 1 7 0 0) (number 0) ∷ le (term 7 0 0 0) (number 3) ∷ []) 2
    ∷ tried 3 (eq (term 2 0 0 0) (number 0) ∷ le (term 1 0 0 0) (number 6) ∷ le (term 3 0 0 0) (number 6) ∷ []) 0
    (eq (term 2 0 0 0) (number 0) ∷ le (term 1 0 0 0) (number 6) ∷ le (term 3 0 0 0) (number 6) ∷ []) 0
    ∷ tried 3 (le (term 0 4 0 0) (term 1 0 0 0) ∷ []) 0 (le (term 0 4 0 0) (term 1 0 0 0) ∷ []) 0
    ∷ tried 3 (le (term 1 0 0 0) (term 0 4 0 0) ∷ []) 0 (le (term 1 0 0 0) (term 0 4 0 0) ∷ []) 0
    ∷ []

abbrev same_constraint : Constraint → Constraint → Bool
same_constraint c d = eqb c.kind d.kind && (same c.left d.left && same c.right d.right)

abbrev same_sheet : List Constraint → List Constraint → Bool
same_sheet [] [] = true
same_sheet [] (d ∷ ds) = false
same_sheet (c ∷ cs) [] = false
same_sheet (c ∷ cs) (d ∷ ds) = same_constraint c d && same_sheet cs ds

abbrev sheet_of : ℕ → ℕ → List Constraint → Sheet
sheet_of p n cs = record { width = p; words = n; constraints = cs }

-- ---- from bytes to bytes, in buffers that are full of 170

-- a call with buffers of these lengths
abbrev call : List ℕ → List ℕ → ℕ → ℕ → Call
call b xs long places = record { sheet = b; list = xs; out = replicate long 170; fates = replicate places 170 }

abbrev accepted : Outcome → List ℕ → List ℕ → ℕ → Bool
accepted o answer fates walks =
    eqb o.refused 0
    && (eqb o.size (length answer)
    && (eqb o.walks walks
    && (same o.out (answer ++ replicate (size_of 3 48 + 5 - length answer) 170) && same o.fates (fates ++ (170 ∷ [])))))

abbrev called : List ℕ → List ℕ → ℕ → Outcome
called b xs n = outcome (call b xs (size_of 3 48 + 5) (n + 1))

right : Case → Bool
right c =
    let s : State = hidden c.list (sheet_of c.width 3 c.sheet) in
    same_sheet (constraints_of s.work) c.answer
    && (same s.fates c.fates
    && (eqb s.walks c.walks
    && accepted (called (sheet_bytes (sheet_of c.width 3 c.sheet)) c.list (length c.fates)) (sheet_bytes (sheet_of c.width 3 c.answer)) c.fates c.walks))

all_right : List Case → Bool
all_right [] = true
all_right (c ∷ cs) = right c && all_right cs

-- numbers below 256 in four bytes each
abbrev in_four : List ℕ → List ℕ
in_four [] = []
in_four (x ∷ xs) = 0 ∷ 0 ∷ 0 ∷ x ∷ in_four xs

abbrev in_bytes : ℕ → List ℕ → List ℕ
in_bytes kind numbers = kind ∷ in_four numbers

-- 107 bytes, of which 103 follow the count: version 1, width 3, three words, three constraints
b1 : List ℕ
b1 =
    (0 ∷ 0 ∷ 0 ∷ 103 ∷ 1 ∷ 3 ∷ 3 ∷ 3 ∷ [])
    ++ (in_bytes 0 (6 ∷ 1 ∷ 0 ∷ 0 ∷ 0 ∷ 0 ∷ 0 ∷ 4 ∷ [])
    ++ (in_bytes 1 (2 ∷ 0 ∷ 1 ∷ 0 ∷ 0 ∷ 0 ∷ 0 ∷ 0 ∷ [])
    ++ in_bytes 2 (4 ∷ 1 ∷ 0 ∷ 0 ∷ 0 ∷ 0 ∷ 0 ∷ 3 ∷ [])))

b1_answer : List ℕ
b1_answer =
    (0 ∷ 0 ∷ 0 ∷ 103 ∷ 1 ∷ 3 ∷ 3 ∷ 3 ∷ [])
    ++ (in_bytes 0 (0 ∷ 4 ∷ 0 ∷ 0 ∷ 0 ∷ 0 ∷ 0 ∷ 0 ∷ [])
    ++ (in_bytes 1 (0 ∷ 5 ∷ 1 ∷ 4 ∷ 0 ∷ 0 ∷ 0 ∷ 0 ∷ [])
    ++ in_bytes 2 (0 ∷ 3 ∷ 0 ∷ 0 ∷ 0 ∷ 0 ∷ 0 ∷ 3 ∷ [])))

-- ---- the refusals

-- 33 equalities of one word: row 8
abbrev many : List ℕ
many = sheet_bytes (sheet_of 3 1 (replicate 33 (eq (number 0) (number 0))))

record Damage : Type 0 where
  place : ℕ
  byte : ℕ

-- of B1, the damage of row 1, of row 2 and so on to row 7: the count, the version, the width, the number of words, the
-- number of constraints, the first kind, the first number
abbrev damages : List Damage
damages =
    record { place = 3; byte = 0 }
    ∷ record { place = 4; byte = 2 }
    ∷ record { place = 5; byte = 0 }
    ∷ record { place = 6; byte = 0 }
    ∷ record { place = 7; byte = 2 }
    ∷ record { place = 8; byte = 4 }
    ∷ record { place = 12; byte = 8 }
    ∷ []

abbrev damaged : List Damage → List ℕ → List ℕ
damaged [] b = b
damaged (d ∷ ds) b = set (damaged ds b) d.place d.byte

-- with the damages from row k on, and those of rows 9 to 11, the number is k
damaged_from : ℕ → List Damage → Bool
unfolding b1
damaged_from k [] = eqb (refusal (call many (3 ∷ []) 1591 0)) k
damaged_from k (d ∷ ds) = eqb (refusal (call (damaged (d ∷ ds) b1) (3 ∷ []) 1591 0)) k && damaged_from (suc k) ds

last_rows : Bool
unfolding b1
last_rows =
    eqb (refusal (call b1 (3 ∷ []) 1591 0)) 9
    && (eqb (refusal (call b1 (0 ∷ 0 ∷ []) 1591 0)) 9
    && (eqb (refusal (call b1 (0 ∷ []) 1591 0)) 10
    && (eqb (refusal (call b1 (0 ∷ []) 1592 0)) 11 && eqb (refusal (call b1 (0 ∷ []) 1592 1)) 0)))

-- ---- the listing

-- "For B1 with three words it prints"
b1_listing : List ℕ
b1_listing =
    -- sheet 3 3 3
    (115 ∷ 104 ∷ 101 ∷ 101 ∷ 116 ∷ 32 ∷ 51 ∷ 32 ∷ 51 ∷ 32 ∷ 51 ∷ 10 ∷ [])
    -- eq 0 4 0 0 | 0 0 0 0
    ++ ((101 ∷ 113 ∷ 32 ∷ 48 ∷ 32 ∷ 52 ∷ 32 ∷ 48 ∷ 32 ∷ 48 ∷ 32 ∷ 124 ∷ 32 ∷ 48 ∷ 32 ∷ 48 ∷ 32 ∷ 48 ∷ 32 ∷ 48 ∷ 10 ∷ [])
    -- ne 0 5 1 4 | 0 0 0 0
    ++ ((110 ∷ 101 ∷ 32 ∷ 48 ∷ 32 ∷ 53 ∷ 32 ∷ 49 ∷ 32 ∷ 52 ∷ 32 ∷ 124 ∷ 32 ∷ 48 ∷ 32 ∷ 48 ∷ 32 ∷ 48 ∷ 32 ∷ 48 ∷ 10 ∷ [])
    -- le 0 3 0 0 | 0 0 0 3
    ++ ((108 ∷ 101 ∷ 32 ∷ 48 ∷ 32 ∷ 51 ∷ 32 ∷ 48 ∷ 32 ∷ 48 ∷ 32 ∷ 124 ∷ 32 ∷ 48 ∷ 32 ∷ 48 ∷ 32 ∷ 48 ∷ 32 ∷ 51 ∷ 10 ∷ [])
    -- fate 0 layer1
    ++ (102 ∷ 97 ∷ 116 ∷ 101 ∷ 32 ∷ 48 ∷ 32 ∷ 108 ∷ 97 ∷ 121 ∷ 101 ∷ 114 ∷ 49 ∷ 10 ∷ []))))

-- the names and numbers that B1 does not show: a word on both sides is left, one is nowhere, one is in a disequality alone
abbrev fated : List ℕ
fated = sheet_bytes (sheet_of 32 3 (ne (term 0 0 1 0) (number 0) ∷ lt (term 4294967295 0 0 0) (term 1 0 0 10) ∷ [])) ++ (0 ∷ 1 ∷ 2 ∷ [])

fated_listing : List ℕ
fated_listing =
    -- sheet 32 3 1
    (115 ∷ 104 ∷ 101 ∷ 101 ∷ 116 ∷ 32 ∷ 51 ∷ 50 ∷ 32 ∷ 51 ∷ 32 ∷ 49 ∷ 10 ∷ [])
    -- lt 4294967295 0 0 0 | 1 0 0 10
    ++ ((108 ∷ 116 ∷ 32 ∷ 52 ∷ 50 ∷ 57 ∷ 52 ∷ 57 ∷ 54 ∷ 55 ∷ 50 ∷ 57 ∷ 53 ∷ 32 ∷ 48 ∷ 32 ∷ 48 ∷ 32 ∷ 48 ∷ 32 ∷ 124 ∷ 32 ∷ 49 ∷ 32 ∷ 48 ∷ 32 ∷ 48 ∷ 32 ∷ 49 ∷ 48 ∷ 10 ∷ [])
    -- fate 0 left
    ++ ((102 ∷ 97 ∷ 116 ∷ 101 ∷ 32 ∷ 48 ∷ 32 ∷ 108 ∷ 101 ∷ 102 ∷ 116 ∷ 10 ∷ [])
    -- fate 1 absent
    ++ ((102 ∷ 97 ∷ 116 ∷ 101 ∷ 32 ∷ 49 ∷ 32 ∷ 97 ∷ 98 ∷ 115 ∷ 101 ∷ 110 ∷ 116 ∷ 10 ∷ [])
    -- fate 2 layer2
    ++ (102 ∷ 97 ∷ 116 ∷ 101 ∷ 32 ∷ 50 ∷ 32 ∷ 108 ∷ 97 ∷ 121 ∷ 101 ∷ 114 ∷ 50 ∷ 10 ∷ []))))

-- `refused 1` and `refused 9`
abbrev refused_with : ℕ → List ℕ
refused_with digit = 114 ∷ 101 ∷ 102 ∷ 117 ∷ 115 ∷ 101 ∷ 100 ∷ 32 ∷ digit ∷ 10 ∷ []

-- no bytes at all, and a list that names word 3 of three
listings : Bool
unfolding b1
listings =
    same (printed (b1 ++ (0 ∷ []))) b1_listing
    && (same (printed fated) fated_listing
    && (same (printed []) (refused_with 49) && same (printed (b1 ++ (3 ∷ []))) (refused_with 57)))

-- ---- the claim

claim : Bool
claim =
    all_right cases
    && (all_right choices
    && (accepted (called b1 (0 ∷ []) 1) b1_answer (2 ∷ []) 1
    && (damaged_from 1 damages && (last_rows && listings))))

bench : T claim
unfolding claim all_right right cases choices b1 b1_answer damaged_from last_rows b1_listing fated_listing listings minus kappa inverse_in inverse kept_by value unit wordless occurs equalities others working turn_by turn put put_all lowered reduced filled kept tidy_by tidy chosen replaced layer1_by layer1 greatest past_least tightened grouped_by grouped with_bound_by gathered ways lost spare without try_layer2 try_layer1 try_by try settled turned walk unhidden_from list_order walks_from hidden_in number_at numbers_at term_at constraint_at constraints_at sheet_in number_bytes numbers_bytes term_bytes constraint_bytes constraints_bytes sheet_bytes first_in bad_count bad_version bad_width bad_words bad_size bad_kind bad_number too_many bad_list short_sheet_buffer short_fate_buffer head_rows body_rows call_rows refusal answer_of outcome_by outcome decimal_in decimal numbers_text kind_name constraint_line constraint_lines first_line fate_name fate_line fate_lines listing refused_text outcome_text printed
bench = tt
