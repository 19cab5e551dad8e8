-- The tests of a sheet's bytes and of the list, read from a place on, and the lowest row of the table.
use Rattle.std.proofs.Common.{◌≡◌, ◌≢◌, ℕ, zero, suc, ◌+◌, ◌*◌, ◌^◌, ◌≤◌, ◌<◌, Bool, true, false, cond, ◌||◌, leb, ltb, eqb}
use Rattle.std.proofs.Common.{List, [], ◌∷◌, ◌++◌, length, get_or, drop, refl, sym, ap, ◌∙◌, add-one, zero-add, suc-add, arith, Result, Ok, Err}
use Rattle.std.proofs.Common.{length-drop, drop_of_length-le, drop-cons, pow_pos, lt-ltb, le-ltb}
use Rattle.std.proofs.Math.Bool.{or-true}
use Rattle.std.proofs.Math.Seq.{take-length}
use Rattle.std.proofs.lemmas.Bool.{lt-leb}
use Rattle.std.proofs.lemmas.Bool.Decides.{nat_tests}
use Rattle.std.specs.List.{list_any, slice_range}
use Rattle.std.specs.Result.{is_err}
use Rattle.meaning.specs.Lists.{any_of}
use Rattle.meaning.specs.Sheet.{Constraint, below}
use Rattle.meaning.specs.Bytes.{stride, size_of, number_at, numbers_at, term_at, constraint_at, constraints_at, sheet_in}
use Rattle.meaning.specs.Bytes.{words_in, constraints_in}
use Rattle.meaning.specs.Refusal.{Test, first_in, too_large, bad_kind, bad_number, equal_count, bad_list}
use Rattle.meaning.proofs.Members.{any_append, any_zeros}
use Rattle.meaning.proofs.Refusals.{Numbered, first_before}
use Rattle.meaning.proofs.Bytes.{numbers_at_snoc, get_or_numbers_at, length_numbers_at, length_constraints_at}
use Rattle.sheet.specs.Bytes.{number_of, too_large_from}
use Rattle.sheet.specs.Head.{IsHead}
use Rattle.sheet.specs.Kind.{KindRead}
use Rattle.sheet.specs.declared.kind.Kind.{Kind}
use Rattle.sheet.specs.declared.kind.UnknownKind.{UnknownKind}
use Rattle.sheet.specs.declared.refusal.Refusal.{Refusal}
use Rattle.sheet.specs.declared.refusal.Refusal.TheVariants.{Count, Version, Width, Words, Size, Kind as KindRow, Number}
use Rattle.sheet.specs.declared.refusal.Refusal.TheVariants.{TooMany, List as ListRow, SheetBuffer, FateBuffer}

-- ---- the list

regroup : (a b c d : Bool) → ((a || b) || (c || d)) ≡ (a || (c || (b || d)))
regroup true b c d = refl
regroup false true c d = sym (or-true c)
regroup false false c d = refl

-- number i is too large or listed again, or the list from i + 1 on is bad
pub list_step
    : (n : ℕ) (xs : List ℕ) (i : ℕ) → i < length xs
    → bad_list n (drop i xs) ≡ (leb n (get_or xs i 0) || (any_of (eqb (get_or xs i 0)) (drop (i + 1) xs) || bad_list n (drop (i + 1) xs)))
unfolding bad_list
list_step n xs i h = rw (add-one i, drop-cons xs i 0 h) (search regroup)

eqb_turn : (x y : ℕ) → eqb x y ≡ eqb y x
eqb_turn x y = grind (arith, nat_tests)

contains_any : (x : ℕ) (ys : List ℕ) → list_any (λ y. eqb y x) ys ≡ any_of (eqb x) ys
contains_any x [] = refl
contains_any x (y ∷ ys) = rw (eqb_turn y x, contains_any x ys)

-- what `contains` answers of the rest of the list
pub contains_behind
    : (x : ℕ) (xs : List ℕ) (i : ℕ)
    → list_any (λ y. eqb y x) (slice_range xs (i + 1) (length xs)) ≡ any_of (eqb x) (drop (i + 1) xs)
contains_behind x xs i = rw (← length-drop (i + 1) xs, take-length (drop (i + 1) xs), contains_any x (drop (i + 1) xs))

pub list_none : (n : ℕ) (xs : List ℕ) (i : ℕ) → length xs ≤ i → bad_list n (drop i xs) ≡ false
unfolding bad_list
list_none n xs i h = rw (drop_of_length-le xs h)

-- ---- the numbers from place i on

pub large_step
    : (p : ℕ) (b : List ℕ) (i k j : ℕ) → j < k
    → any_of (leb (2 ^ p)) (drop j (numbers_at b i k)) ≡ (leb (2 ^ p) (number_at b (i + 4 * j)) || any_of (leb (2 ^ p)) (drop (j + 1) (numbers_at b i k)))
large_step p b i k j h =
    let l : j < length (numbers_at b i k) = rw (length_numbers_at b i k) h in
    rw (add-one j, drop-cons (numbers_at b i k) j 0 l, get_or_numbers_at b i k j h)

pub large_none : (p : ℕ) (b : List ℕ) (i k j : ℕ) → k ≤ j → any_of (leb (2 ^ p)) (drop j (numbers_at b i k)) ≡ false
large_none p b i k j h =
    let l : length (numbers_at b i k) ≤ j = rw (length_numbers_at b i k) h in
    rw (drop_of_length-le (numbers_at b i k) l)

-- ---- the numbers of a constraint: those of both sides stand behind its kind, and the zeros are never too large

numbers_at_append : (b : List ℕ) (i k l : ℕ) → numbers_at b i (k + l) ≡ numbers_at b i k ++ numbers_at b (i + 4 * k) l
unfolding numbers_at
numbers_at_append b i zero l = let e : i ≡ i + 4 * 0 = omega arith in rw (zero-add l, ← e)
numbers_at_append b i (suc k) l =
    let e : i + 4 + 4 * k ≡ i + 4 * suc k = omega arith in
    rw (suc-add k l) (ap {B = List ℕ} (λ r. number_at b i ∷ r) (rw e at (numbers_at_append b (i + 4) k l)))

term_large : (p : ℕ) (b : List ℕ) (n i : ℕ) → any_of (leb (2 ^ p)) (term_at b n i) ≡ too_large_from p b i (n + 1)
unfolding term_at
term_large p b n i =
    let f : ℕ → Bool = leb (2 ^ p) in
    let last : List ℕ = number_at b (i + 4 * n) ∷ [] in
    let z : f 0 ≡ false = lt-leb (2 ^ p) 0 (pow_pos p) in
    rw (add-one n, numbers_at_snoc b i n, any_append f (numbers_at b i n) last, any_append, any_zeros f _ last z)

constraint_large : (p : ℕ) (b : List ℕ) (n i : ℕ) → too_large p (constraint_at b n i) ≡ too_large_from p b (i + 1) (2 * (n + 1))
unfolding constraint_at
constraint_large p b n i =
    let e : 2 * (n + 1) ≡ n + 1 + (n + 1) = omega arith in
    rw (e, numbers_at_append b (i + 1) (n + 1) (n + 1), any_append, ← term_large p b n (i + 1), ← term_large p b n (i + 1 + 4 * (n + 1)))

-- ---- the constraints of a sheet, from constraint i on

get_or_constraints_at
    : (b : List ℕ) (n i m x : ℕ) (d : Constraint) → x < m → get_or (constraints_at b n i m) x d ≡ constraint_at b n (i + x * stride n)
unfolding constraints_at
get_or_constraints_at b n i zero x d h = absurd (omega arith)
get_or_constraints_at b n i (suc m) zero d h = let e : i ≡ i + 0 * stride n = omega arith in ap (constraint_at b n) e
get_or_constraints_at b n i (suc m) (suc x) d h =
    let e : i + stride n + x * stride n ≡ i + suc x * stride n = omega arith in
    rw e at (get_or_constraints_at b n (i + stride n) m x d (omega arith))

pub many : (b : List ℕ) {m : ℕ} → m ≡ constraints_in b → length (sheet_in b).constraints ≡ m
unfolding sheet_in
many b e = length_constraints_at b (words_in b) 8 (constraints_in b) ∙ sym e

abbrev pub behind : List ℕ → ℕ → List Constraint
behind b i = drop i (sheet_in b).constraints

module _ (b : List ℕ) {p n m : ℕ} (head : IsHead b p n m) (i : ℕ) where
  pub behind_none : m ≤ i → behind b i ≡ []
  behind_none l = drop_of_length-le (sheet_in b).constraints {i = i} (rw (many b head.constraints) l)

  module _ (l : i < m) where
    behind_next : behind b i ≡ constraint_at b n (size_of n i) ∷ behind b (i + 1)
    unfolding sheet_in
    behind_next =
        let g : i < constraints_in b = rw head.constraints at l in
        let d : Constraint = constraint_at b n (size_of n i) in
        let k : i < length (sheet_in b).constraints = rw (many b head.constraints) l in
        rw (drop-cons (sheet_in b).constraints i d k, get_or_constraints_at b (words_in b) 8 (constraints_in b) i d g, ← head.words, add-one i)

    pub kind_step : bad_kind (behind b i) ≡ (ltb below (get_or b (size_of n i) 0) || bad_kind (behind b (i + 1)))
    unfolding bad_kind constraint_at
    kind_step = rw behind_next

    pub equal_step : equal_count (behind b i) ≡ cond (eqb (get_or b (size_of n i) 0) 0) 1 0 + equal_count (behind b (i + 1))
    unfolding constraint_at
    equal_step = rw behind_next

    pub number_step
        : bad_number p (behind b i) ≡ (too_large_from p b (size_of n i + 1) (2 * (n + 1)) || bad_number p (behind b (i + 1)))
    unfolding bad_number
    number_step = rw (behind_next, constraint_large p b n (size_of n i))

-- ---- kinds

-- a byte that is no kind is one above 3
pub kind_known : (byte : ℕ) (r : Result Kind UnknownKind) → KindRead byte r → is_err r ≡ ltb below byte
kind_known byte (Ok _) h = sym (le-ltb below byte h.1)
kind_known byte (Err _) h = sym (lt-ltb below byte h.0)

-- ---- a refusal that is a row of the table

pub number_within : (r : Refusal) → (1 ≤ number_of r) × (number_of r ≤ 11)
number_within Count = (omega arith, omega arith)
number_within Version = (omega arith, omega arith)
number_within Width = (omega arith, omega arith)
number_within Words = (omega arith, omega arith)
number_within Size = (omega arith, omega arith)
number_within KindRow = (omega arith, omega arith)
number_within Number = (omega arith, omega arith)
number_within TooMany = (omega arith, omega arith)
number_within ListRow = (omega arith, omega arith)
number_within SheetBuffer = (omega arith, omega arith)
number_within FateBuffer = (omega arith, omega arith)

pub number_some : (r : Refusal) → number_of r ≢ 0
number_some r e = omega (arith, number_within r)

-- a row that the first table gives is what both tables give
pub refused_first : (us : List Test) (r : Refusal) {ts : List Test} → Numbered ts → number_of r ≡ first_in ts → number_of r ≡ first_in (ts ++ us)
refused_first us r ns e = e ∙ sym (first_before us ns (λ z. number_some r (e ∙ z)))
