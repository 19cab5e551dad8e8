-- The laws of the bytes: what is written has its size and is read back, whatever stands before and behind it.
use Prim.Native.Nat.{ℕ, zero, suc, ◌+◌, ◌-◌, ◌*◌, ◌/◌, ◌%◌, ◌^◌, ◌≤◌, ◌<◌}
use mathlib.Core.Path.{◌≡◌, refl, sym, ap, ap₂, subst, ◌∙◌}
use mathlib.Core.List.{List, [], ◌∷◌, ◌++◌, append_assoc, append-nil}
use native.Mathlib.Nat.{lt_of_lt_of_le}
use native.Mathlib.Omega.{arith}
use lib.Pow.{pow_mono, mod-pow-add, recompose}
use lib.ListN.{length, get_or, take, drop, replicate, length-append, length-drop, take-append-drop}
use lib.ListN.{length-replicate, get_or-replicate, get_or-append}
use lib.Seq.{length-take-le, get_or-append-add, get_or-drop}
use Rattle.meaning.specs.Lists.{Each, each_nil, each_cons}
use Rattle.meaning.specs.Row.{Row, most_words, coefficient, constant}
use Rattle.meaning.specs.Sheet.{Constraint, Sheet, IsTerm, IsConstraint}
use Rattle.meaning.proofs.Members.{each_append, each_take, each_get_or}
use Rattle.meaning.specs.Bytes.{stride, size_of, number_at, numbers_at, term_at, constraint_at, constraints_at, sheet_in}
use Rattle.meaning.specs.Bytes.{number_bytes, numbers_bytes, term_bytes, constraint_bytes, constraints_bytes, sheet_bytes}

-- ---- reading behind xs: from length xs on, xs ++ ys reads as ys

pub get_or_behind : (xs ys : List ℕ) (j i : ℕ) → j ≡ length xs + i → get_or (xs ++ ys) j 0 ≡ get_or ys i 0
get_or_behind xs ys j i e = rw e (get_or-append-add xs ys i 0)

pub number_at_behind : (xs ys : List ℕ) (j i : ℕ) → j ≡ length xs + i → number_at (xs ++ ys) j ≡ number_at ys i
unfolding number_at
number_at_behind xs ys j i e =
    rw (
      get_or_behind xs ys j i e,
      get_or_behind xs ys (j + 1) (i + 1) (omega arith),
      get_or_behind xs ys (j + 2) (i + 2) (omega arith),
      get_or_behind xs ys (j + 3) (i + 3) (omega arith),
    )

pub numbers_at_behind : (xs ys : List ℕ) (j i k : ℕ) → j ≡ length xs + i → numbers_at (xs ++ ys) j k ≡ numbers_at ys i k
unfolding numbers_at
numbers_at_behind xs ys j i zero e = refl
numbers_at_behind xs ys j i (suc k) e = rw (number_at_behind xs ys j i e, numbers_at_behind xs ys (j + 4) (i + 4) k (omega arith))

pub term_at_behind : (xs ys : List ℕ) (n j i : ℕ) → j ≡ length xs + i → term_at (xs ++ ys) n j ≡ term_at ys n i
unfolding term_at
term_at_behind xs ys n j i e = rw (numbers_at_behind xs ys j i n e, number_at_behind xs ys (j + 4 * n) (i + 4 * n) (omega arith))

pub constraint_at_behind : (xs ys : List ℕ) (n j i : ℕ) → j ≡ length xs + i → constraint_at (xs ++ ys) n j ≡ constraint_at ys n i
unfolding constraint_at
constraint_at_behind xs ys n j i e =
    rw (
      get_or_behind xs ys j i e,
      term_at_behind xs ys n (j + 1) (i + 1) (omega arith),
      term_at_behind xs ys n (j + 1 + 4 * (n + 1)) (i + 1 + 4 * (n + 1)) (omega arith),
    )

pub constraints_at_behind : (xs ys : List ℕ) (n j i m : ℕ) → j ≡ length xs + i → constraints_at (xs ++ ys) n j m ≡ constraints_at ys n i m
unfolding constraints_at
constraints_at_behind xs ys n j i zero e = refl
constraints_at_behind xs ys n j i (suc m) e =
    rw (constraint_at_behind xs ys n j i e, constraints_at_behind xs ys n (j + stride n) (i + stride n) m (omega arith))

-- ---- one more at the end, and one of many, as a loop reads them

pub numbers_at_snoc : (b : List ℕ) (i k : ℕ) → numbers_at b i (suc k) ≡ numbers_at b i k ++ (number_at b (i + 4 * k) ∷ [])
unfolding numbers_at
numbers_at_snoc b i zero = let e : i ≡ i + 4 * 0 = omega arith in ap (λ (j : ℕ). number_at b j ∷ []) e
numbers_at_snoc b i (suc k) =
    let e : i + 4 + 4 * k ≡ i + 4 * suc k = omega arith in
    ap {B = List ℕ} (λ l. number_at b i ∷ l) (rw e at (numbers_at_snoc b (i + 4) k))

pub get_or_numbers_at : (b : List ℕ) (i k x : ℕ) → x < k → get_or (numbers_at b i k) x 0 ≡ number_at b (i + 4 * x)
unfolding numbers_at
get_or_numbers_at b i zero x h = absurd (omega arith)
get_or_numbers_at b i (suc k) zero h = let e : i ≡ i + 4 * 0 = omega arith in ap (number_at b) e
get_or_numbers_at b i (suc k) (suc x) h =
    let e : i + 4 + 4 * x ≡ i + 4 * suc x = omega arith in
    rw e at (get_or_numbers_at b (i + 4) k x (omega arith))

pub constraints_at_snoc
    : (b : List ℕ) (n i m : ℕ) → constraints_at b n i (suc m) ≡ constraints_at b n i m ++ (constraint_at b n (i + m * stride n) ∷ [])
unfolding constraints_at
constraints_at_snoc b n i zero = let e : i ≡ i + 0 * stride n = omega arith in ap (λ (j : ℕ). constraint_at b n j ∷ []) e
constraints_at_snoc b n i (suc m) =
    let e : i + stride n + m * stride n ≡ i + suc m * stride n = omega arith in
    ap {B = List Constraint} (λ l. constraint_at b n i ∷ l) (rw e at (constraints_at_snoc b n (i + stride n) m))

pub numbers_bytes_append : (xs ys : List ℕ) → numbers_bytes (xs ++ ys) ≡ numbers_bytes xs ++ numbers_bytes ys
unfolding numbers_bytes
numbers_bytes_append [] ys = refl
numbers_bytes_append (x ∷ xs) ys = rw (append_assoc, numbers_bytes_append xs ys)

pub constraints_bytes_append
    : (n : ℕ) (cs ds : List Constraint) → constraints_bytes n (cs ++ ds) ≡ constraints_bytes n cs ++ constraints_bytes n ds
unfolding constraints_bytes
constraints_bytes_append n [] ds = refl
constraints_bytes_append n (c ∷ cs) ds = rw (append_assoc, constraints_bytes_append n cs ds)

-- ---- sizes

pub length_number_bytes : (x : ℕ) → length (number_bytes x) ≡ 4
unfolding number_bytes
length_number_bytes x = refl

pub length_numbers_bytes : (xs : List ℕ) → length (numbers_bytes xs) ≡ 4 * length xs
unfolding numbers_bytes
length_numbers_bytes [] = refl
length_numbers_bytes (x ∷ xs) = rw length-append (omega (arith, length_number_bytes x, length_numbers_bytes xs))

pub length_term_bytes : (n : ℕ) (r : Row) → n ≤ length r → length (term_bytes n r) ≡ 4 * (n + 1)
unfolding term_bytes
length_term_bytes n r h =
    rw length-append (omega (arith, length_numbers_bytes (take n r), length-take-le n r h, length_number_bytes (constant r)))

-- seventeen numbers are enough for sixteen words
reaches : {p n : ℕ} {r : Row} → n ≤ 16 → IsTerm p n r → n ≤ length r
reaches h t = omega arith

pub length_constraint_bytes : {p n : ℕ} (c : Constraint) → n ≤ 16 → IsConstraint p n c → length (constraint_bytes n c) ≡ stride n
unfolding constraint_bytes
length_constraint_bytes {p} {n} c h t =
    rw length-append
    (omega (arith, length_term_bytes n c.left (reaches h t.left), length_term_bytes n c.right (reaches h t.right)))

pub length_constraints_bytes
    : {p n : ℕ} {cs : List Constraint} → n ≤ 16 → Each (IsConstraint p n) cs → length (constraints_bytes n cs) ≡ length cs * stride n
unfolding constraints_bytes
length_constraints_bytes h each_nil = omega arith
length_constraints_bytes h (each_cons {x = c} t ts) =
    rw length-append (omega (arith, length_constraint_bytes c h t, length_constraints_bytes h ts))

-- ---- reading back what is written

pub number_back : (x : ℕ) (ys : List ℕ) → x < 2 ^ 32 → number_at (number_bytes x ++ ys) 0 ≡ x
unfolding number_at number_bytes
number_back x ys h = omega (arith, recompose 8 24 h, mod-pow-add x 8 16, mod-pow-add x 8 8)

pub numbers_back
    : {xs : List ℕ} (ys : List ℕ) → Each (λ x. x < 2 ^ 32) xs → numbers_at (numbers_bytes xs ++ ys) 0 (length xs) ≡ xs
unfolding numbers_at numbers_bytes number_bytes
numbers_back ys each_nil = refl
numbers_back ys (each_cons {x = x} {xs = xs} h hs) =
    let zs : List ℕ = numbers_bytes xs ++ ys in
    rw (append_assoc, number_back x zs h, numbers_at_behind (number_bytes x) zs 4 0 (length xs) refl, numbers_back ys hs)

-- k zeros and one number more
zeros_then : (k : ℕ) (r : List ℕ) → length r ≡ suc k → ((i : ℕ) → i < k → get_or r i 0 ≡ 0) → replicate k 0 ++ (get_or r k 0 ∷ []) ≡ r
zeros_then zero [] e z = absurd (omega arith)
zeros_then zero (x ∷ []) e z = refl
zeros_then zero (x ∷ y ∷ r) e z = absurd (omega arith)
zeros_then (suc k) [] e z = absurd (omega arith)
zeros_then (suc k) (x ∷ r) e z =
    ap₂ {C = List ℕ} ◌∷◌ (sym (z 0 (omega arith))) (zeros_then k r (omega arith) (λ i h. z (suc i) (omega arith)))

-- a term is its first n numbers, zeros and its constant
term_parts : {p n : ℕ} {r : Row} → n ≤ 16 → IsTerm p n r → take n r ++ (replicate (most_words - n) 0 ++ (constant r ∷ [])) ≡ r
term_parts {p} {n} {r} h t =
    let long : length (drop n r) ≡ suc (most_words - n) = rw length-drop (omega arith) in
    let zeros : (i : ℕ) → i < most_words - n → get_or (drop n r) i 0 ≡ 0 = λ i g. rw get_or-drop (t.absent (n + i) (omega arith) (omega arith)) in
    let sixteen : n + (most_words - n) ≡ most_words = omega arith in
    let last : get_or (drop n r) (most_words - n) 0 ≡ constant r = rw (get_or-drop, sixteen) in
    rw (← last, zeros_then (most_words - n) (drop n r) long zeros) (take-append-drop n r)

pub term_back
    : {p n : ℕ} {r : Row} (ys : List ℕ) → p ≤ 32 → n ≤ 16 → IsTerm p n r → term_at (term_bytes n r ++ ys) n 0 ≡ r
unfolding term_at term_bytes
term_back {p} {n} {r} ys hp hn t =
    let small : (i : ℕ) → get_or r i 0 < 2 ^ 32 = λ i. lt_of_lt_of_le (t.row.small i) (pow_mono hp) in
    let xs : List ℕ = take n r in
    let zs : List ℕ = number_bytes (constant r) ++ ys in
    let long : length xs ≡ n = length-take-le n r (reaches hn t) in
    let front : numbers_at (numbers_bytes xs ++ zs) 0 n ≡ xs = rw long at (numbers_back zs (each_take n (each_get_or r 0 small))) in
    let behind : 0 + 4 * n ≡ length (numbers_bytes xs) + 0 = omega (arith, length_numbers_bytes xs) in
    rw (append_assoc, front, number_at_behind (numbers_bytes xs) zs (0 + 4 * n) 0 behind, number_back (constant r) ys (small most_words))
    (term_parts hn t)

pub constraint_back
    : {p n : ℕ} {c : Constraint} (ys : List ℕ) → p ≤ 32 → n ≤ 16 → IsConstraint p n c → constraint_at (constraint_bytes n c ++ ys) n 0 ≡ c
unfolding constraint_at constraint_bytes
constraint_back {p} {n} {c} ys hp hn t =
    let l : List ℕ = term_bytes n c.left in
    let r : List ℕ = term_bytes n c.right in
    let behind : 1 + 4 * (n + 1) ≡ suc (length l) + 0 = omega (arith, length_term_bytes n c.left (reaches hn t.left)) in
    rw (
      append_assoc,
      term_at_behind (c.kind ∷ []) (l ++ (r ++ ys)) n 1 0 refl,
      term_back (r ++ ys) hp hn t.left,
      term_at_behind (c.kind ∷ l) (r ++ ys) n (1 + 4 * (n + 1)) 0 behind,
      term_back ys hp hn t.right,
    )

pub constraints_back
    : {p n : ℕ} {cs : List Constraint} (ys : List ℕ) → p ≤ 32 → n ≤ 16 → Each (IsConstraint p n) cs
    → constraints_at (constraints_bytes n cs ++ ys) n 0 (length cs) ≡ cs
unfolding constraints_at constraints_bytes
constraints_back ys hp hn each_nil = refl
constraints_back {p} {n} ys hp hn (each_cons {x = c} {xs = cs} t ts) =
    let zs : List ℕ = constraints_bytes n cs ++ ys in
    let first : constraint_at (constraint_bytes n c ++ zs) n 0 ≡ c = constraint_back zs hp hn t in
    let rest : constraints_at (constraint_bytes n c ++ zs) n (0 + stride n) (length cs) ≡ cs =
    constraints_at_behind (constraint_bytes n c) zs n (0 + stride n) 0 (length cs) (omega (arith, length_constraint_bytes c hn t))
    ∙ constraints_back ys hp hn ts
    in
    let bytes : (constraint_bytes n c ++ constraints_bytes n cs) ++ ys ≡ constraint_bytes n c ++ zs = rw append_assoc in
    subst (λ (b : List ℕ). constraint_at b n 0 ∷ constraints_at b n (0 + stride n) (length cs) ≡ c ∷ cs) (sym bytes) (rw (first, rest) refl)

-- a sheet that can be written: its terms are terms of its width and count, and its numbers have room in four bytes
pub record Writable (s : Sheet) : Type 0 where
  pub narrow : s.width ≤ 32
  pub few : s.words ≤ 16
  pub terms : Each (IsConstraint s.width s.words) s.constraints

pub length_sheet_bytes : {s : Sheet} → Writable s → length (sheet_bytes s) ≡ size_of s.words (length s.constraints)
unfolding sheet_bytes
length_sheet_bytes {s} w =
    let size : ℕ = size_of s.words (length s.constraints) in
    rw length-append (omega (arith, length_number_bytes (size - 4), length_constraints_bytes w.few w.terms))

pub sheet_back : {s : Sheet} → Writable s → sheet_in (sheet_bytes s) ≡ s
unfolding sheet_in sheet_bytes number_bytes
sheet_back {s} w =
    let n : ℕ = s.words in
    let m : ℕ = length s.constraints in
    let head : List ℕ = number_bytes (size_of n m - 4) ++ (1 ∷ s.width ∷ n ∷ m ∷ []) in
    let body : List ℕ = constraints_bytes n s.constraints in
    let back : constraints_at body n 0 m ≡ s.constraints = rw append-nil at (constraints_back [] w.narrow w.few w.terms) in
    rw (constraints_at_behind head body n 8 0 m refl, back)

-- different sheets have different bytes
pub sheet_bytes_injective : {s t : Sheet} → Writable s → Writable t → sheet_bytes s ≡ sheet_bytes t → s ≡ t
sheet_bytes_injective v w e = sym (sheet_back v) ∙ ap sheet_in e ∙ sheet_back w

-- ---- the shape of what is read, from any bytes

pub length_numbers_at : (b : List ℕ) (i k : ℕ) → length (numbers_at b i k) ≡ k
unfolding numbers_at
length_numbers_at b i zero = refl
length_numbers_at b i (suc k) = ap suc (length_numbers_at b (i + 4) k)

pub length_term_at : (b : List ℕ) (n i : ℕ) → n ≤ 16 → length (term_at b n i) ≡ 17
unfolding term_at
length_term_at b n i h = simp (length-append, length_numbers_at, length-replicate) (omega arith)

-- the words that the sheet does not have
pub term_at_absent : (b : List ℕ) (n i x : ℕ) → n ≤ x → x < most_words → coefficient (term_at b n i) x ≡ 0
unfolding term_at
term_at_absent b n i x h g =
    let zeros : List ℕ = replicate (most_words - n) 0 in
    let last : List ℕ = number_at b (i + 4 * n) ∷ [] in
    let behind : x ≡ length (numbers_at b i n) + (x - n) = omega (arith, length_numbers_at b i n) in
    let inside : x - n < length zeros = omega (arith, length-replicate {A = ℕ} (most_words - n) 0) in
    get_or_behind (numbers_at b i n) (zeros ++ last) x (x - n) behind
    ∙ get_or-append zeros last 0 (x - n) inside
    ∙ get_or-replicate (most_words - n) (x - n) 0 0 (omega arith)

pub length_constraints_at : (b : List ℕ) (n i m : ℕ) → length (constraints_at b n i m) ≡ m
unfolding constraints_at
length_constraints_at b n i zero = refl
length_constraints_at b n i (suc m) = ap suc (length_constraints_at b n (i + stride n) m)

-- ---- the bytes are bytes: below 256

-- what one byte each has to hold
pub record Bytewise (s : Sheet) : Type 0 where
  pub width : s.width < 256
  pub words : s.words < 256
  pub constraints : length s.constraints < 256
  pub kinds : Each (λ (c : Constraint). c.kind < 256) s.constraints

low_byte : (x : ℕ) → x % 256 < 256
low_byte x = omega arith

number_bytes_small : (x : ℕ) → Each (λ b. b < 256) (number_bytes x)
unfolding number_bytes
number_bytes_small x =
    each_cons (low_byte (x / 2 ^ 24))
    (each_cons (low_byte (x / 2 ^ 16)) (each_cons (low_byte (x / 2 ^ 8)) (each_cons (low_byte x) each_nil)))

numbers_bytes_small : (xs : List ℕ) → Each (λ b. b < 256) (numbers_bytes xs)
unfolding numbers_bytes
numbers_bytes_small [] = each_nil
numbers_bytes_small (x ∷ xs) = each_append (number_bytes_small x) (numbers_bytes_small xs)

term_bytes_small : (n : ℕ) (r : Row) → Each (λ b. b < 256) (term_bytes n r)
unfolding term_bytes
term_bytes_small n r = each_append (numbers_bytes_small (take n r)) (number_bytes_small (constant r))

constraints_bytes_small
    : (n : ℕ) {cs : List Constraint} → Each (λ (c : Constraint). c.kind < 256) cs → Each (λ b. b < 256) (constraints_bytes n cs)
unfolding constraints_bytes constraint_bytes
constraints_bytes_small n each_nil = each_nil
constraints_bytes_small n (each_cons {x = c} k ks) =
    each_append (each_cons k (each_append (term_bytes_small n c.left) (term_bytes_small n c.right))) (constraints_bytes_small n ks)

pub sheet_bytes_small : {s : Sheet} → Bytewise s → Each (λ b. b < 256) (sheet_bytes s)
unfolding sheet_bytes
sheet_bytes_small {s} w =
    each_append
    (number_bytes_small (size_of s.words (length s.constraints) - 4))
    (each_append head (constraints_bytes_small s.words w.kinds))
  where
    head : Each (λ b. b < 256) (1 ∷ s.width ∷ s.words ∷ length s.constraints ∷ [])
    head = each_cons {x = 1} (omega arith) (each_cons w.width (each_cons w.words (each_cons w.constraints each_nil)))
