-- The value of a row is linear in its numbers and in the values of the words.
use mathlib.Core.Path.{◌≡◌, refl, ap, sym, ◌∙◌}
use mathlib.Core.Bool.{true, and-eq-true_iff}
use mathlib.Core.List.{List, [], ◌∷◌, ◌++◌}
use Prim.Native.Nat.{ℕ, zero, suc, ◌+◌, ◌*◌, ◌%◌, ◌^◌, ◌<◌, ◌≤◌}
use native.Mathlib.Omega.{arith}
use native.Mathlib.Nat.{suc_inj, mod-lt, le_of_suc-le-suc, mod-eq_of_lt}
use lib.Pow.{pow_pos}
use lib.Dec.{eqb}
use lib.ListN.{length, get_or, take, set, replicate, length-append, length-set, get_or-append}
use lib.Seq.{ext_get_or, set-append_left}
use borrow.Author.Tests.{eqb-true}
use Rattle.meaning.specs.Lists.{all_of}
use Rattle.meaning.specs.Number.{minus}
use Rattle.meaning.specs.Row.{Row, IsRow, most_words, coefficient, constant, zero_row, dot, value, less, scale, wordless}
use Rattle.meaning.specs.Sheet.{Values}
use Rattle.meaning.proofs.Congruence.{◌⊢◌≈◌, ≈mod, ≈small, lin, poly}
use Rattle.meaning.proofs.Two.{minus_lt, minus_add}

-- ---- entry by entry

pub length_less : (p q : ℕ) (s r : Row) → length s ≡ length r → length (less p q s r) ≡ length r
length_less p q [] [] e = refl
length_less p q [] (x ∷ r) e = absurd (let n : ⊥ = omega arith in n)
length_less p q (y ∷ s) [] e = absurd (let n : ⊥ = omega arith in n)
length_less p q (y ∷ s) (x ∷ r) e = ap suc (length_less p q s r (suc_inj e))

pub length_scale : (p q : ℕ) (r : Row) → length (scale p q r) ≡ length r
length_scale p q [] = refl
length_scale p q (x ∷ r) = ap suc (length_scale p q r)

pub get_or_less : (p q : ℕ) (s r : Row) (i : ℕ) → length s ≡ length r → i < length r
    → get_or (less p q s r) i 0 ≡ minus p (get_or r i 0) (q * get_or s i 0)
get_or_less p q [] [] i e l = absurd (let n : ⊥ = omega arith in n)
get_or_less p q [] (x ∷ r) i e l = absurd (let n : ⊥ = omega arith in n)
get_or_less p q (y ∷ s) [] i e l = absurd (let n : ⊥ = omega arith in n)
get_or_less p q (y ∷ s) (x ∷ r) zero e l = refl
get_or_less p q (y ∷ s) (x ∷ r) (suc i) e l = get_or_less p q s r i (suc_inj e) (le_of_suc-le-suc l)

pub get_or_scale : (p q : ℕ) (r : Row) (i : ℕ) → i < length r → get_or (scale p q r) i 0 ≡ (q * get_or r i 0) % 2 ^ p
get_or_scale p q [] i l = absurd (let n : ⊥ = omega arith in n)
get_or_scale p q (x ∷ r) zero l = refl
get_or_scale p q (x ∷ r) (suc i) l = get_or_scale p q r i (le_of_suc-le-suc l)

small_less : (p q : ℕ) (s r : Row) (i : ℕ) → get_or (less p q s r) i 0 < 2 ^ p
small_less p q [] r i = pow_pos p
small_less p q (y ∷ s) [] i = pow_pos p
small_less p q (y ∷ s) (x ∷ r) zero = minus_lt p x (q * y)
small_less p q (y ∷ s) (x ∷ r) (suc i) = small_less p q s r i

small_scale : (p q : ℕ) (r : Row) (i : ℕ) → get_or (scale p q r) i 0 < 2 ^ p
small_scale p q [] i = pow_pos p
small_scale p q (x ∷ r) zero = mod-lt _ (pow_pos p)
small_scale p q (x ∷ r) (suc i) = small_scale p q r i

-- ---- rows stay rows

pub less_row : {p : ℕ} (q : ℕ) {s r : Row} → IsRow p s → IsRow p r → IsRow p (less p q s r)
less_row {p} q {s} {r} hs hr =
    record { long = length_less p q s r (hs.long ∙ sym hr.long) ∙ hr.long; small = small_less p q s r }

pub scale_row : {p : ℕ} (q : ℕ) {r : Row} → IsRow p r → IsRow p (scale p q r)
scale_row {p} q {r} h = record { long = length_scale p q r ∙ h.long; small = small_scale p q r }

pub get_or_zeros : (n i : ℕ) → get_or {A = ℕ} (replicate n 0) i 0 ≡ 0
get_or_zeros zero i = refl
get_or_zeros (suc n) zero = refl
get_or_zeros (suc n) (suc i) = get_or_zeros n i

pub coefficient_zero : (x : ℕ) → coefficient zero_row x ≡ 0
coefficient_zero x = get_or_zeros 17 x

pub zero_row_lem : (p : ℕ) → IsRow p zero_row
zero_row_lem p = record { long = refl; small = λ i. rw (coefficient_zero i) (pow_pos p) }

-- a row's numbers, the constant at 16
pub less_at : {p : ℕ} (q : ℕ) {s r : Row} → IsRow p s → IsRow p r → (i : ℕ) → i ≤ most_words
    → 2 ^ p ⊢ get_or (less p q s r) i 0 + q * get_or s i 0 ≈ get_or r i 0
less_at {p} q {s} {r} hs hr i l =
    rw (get_or_less p q s r i (hs.long ∙ sym hr.long) (rw hr.long (omega arith))) (minus_add p (get_or r i 0) (q * get_or s i 0))

pub scale_at : {p : ℕ} (q : ℕ) {r : Row} → IsRow p r → (i : ℕ) → i ≤ most_words → 2 ^ p ⊢ get_or (scale p q r) i 0 ≈ q * get_or r i 0
scale_at {p} q {r} h i l = rw (get_or_scale p q r i (rw h.long (omega arith))) (≈mod (q * get_or r i 0))

-- rows with the same numbers are equal; congruent ones are
pub row_ext : {p : ℕ} {r s : Row} → IsRow p r → IsRow p s → ((i : ℕ) → i ≤ most_words → 2 ^ p ⊢ get_or r i 0 ≈ get_or s i 0) → r ≡ s
row_ext {p} {r} {s} hr hs h =
    ext_get_or 0 r s (hr.long ∙ sym hs.long) (λ i l. ≈small (h i (let g : i < 17 = rw hr.long at l in omega arith)) (hr.small i) (hs.small i))

-- no multiple comes off
pub less_none : {p : ℕ} {s r : Row} → IsRow p s → IsRow p r → less p 0 s r ≡ r
less_none hs hr = row_ext (less_row 0 hs hr) hr (λ i l. lin 1 (less_at 0 hs hr i l) (poly (omega arith)))

-- a number that is 0 stays 0
pub scale_none : {p : ℕ} (q : ℕ) {r : Row} → IsRow p r → (i : ℕ) → i ≤ most_words → coefficient r i ≡ 0 → coefficient (scale p q r) i ≡ 0
scale_none {p} q h i l e = ≈small (lin 1 (scale_at q h i l) (lin q (poly e) (poly (omega arith)))) ((scale_row q h).small i) (pow_pos p)

-- ---- linear in the row

dot_less : (p q : ℕ) (s r v : List ℕ) → length s ≡ length r → 2 ^ p ⊢ dot (less p q s r) v + q * dot s v ≈ dot r v
dot_less p q [] [] v e = poly (omega arith)
dot_less p q [] (x ∷ r) v e = absurd (let n : ⊥ = omega arith in n)
dot_less p q (y ∷ s) [] v e = absurd (let n : ⊥ = omega arith in n)
dot_less p q (y ∷ s) (x ∷ r) [] e = poly (omega arith)
dot_less p q (y ∷ s) (x ∷ r) (v ∷ vs) e =
    lin v (minus_add p x (q * y)) (lin 1 (dot_less p q s r vs (suc_inj e)) (poly (omega arith)))

dot_scale : (p q : ℕ) (r v : List ℕ) → 2 ^ p ⊢ dot (scale p q r) v ≈ q * dot r v
dot_scale p q [] v = poly (omega arith)
dot_scale p q (x ∷ r) [] = poly (omega arith)
dot_scale p q (x ∷ r) (v ∷ vs) = lin v (≈mod {m = 2 ^ p} (q * x)) (lin 1 (dot_scale p q r vs) (poly (omega arith)))

-- the value before it is taken modulo 2 ^ p
pub sum_at : Row → List ℕ → ℕ
sum_at r a = dot r (a ++ (1 ∷ []))

pub value_sum : (p : ℕ) (r : Row) (a : List ℕ) → value p r a ≡ sum_at r a % 2 ^ p
unfolding value sum_at
value_sum p r a = refl

pub sum_less : {p : ℕ} (q : ℕ) {s r : Row} → IsRow p s → IsRow p r → (a : List ℕ) → 2 ^ p ⊢ sum_at (less p q s r) a + q * sum_at s a ≈ sum_at r a
unfolding sum_at
sum_less {p} q {s} {r} hs hr a = dot_less p q s r (a ++ (1 ∷ [])) (hs.long ∙ sym hr.long)

pub sum_scale : (p q : ℕ) (r : Row) (a : List ℕ) → 2 ^ p ⊢ sum_at (scale p q r) a ≈ q * sum_at r a
unfolding sum_at
sum_scale p q r a = dot_scale p q r (a ++ (1 ∷ []))

dot_zeros : (n : ℕ) (v : List ℕ) → dot (replicate n 0) v ≡ 0
dot_zeros zero v = refl
dot_zeros (suc n) [] = refl
dot_zeros (suc n) (v ∷ vs) = omega (arith, dot_zeros n vs)

pub sum_zero : (a : List ℕ) → sum_at zero_row a ≡ 0
unfolding sum_at
sum_zero a = dot_zeros 17 (a ++ (1 ∷ []))

-- ---- a term without words is its constant

dot_wordless : (r a : List ℕ) → length r ≡ suc (length a) → all_of (λ c. eqb c 0) (take (length a) r) ≡ true
    → dot r (a ++ (1 ∷ [])) ≡ get_or r (length a) 0
dot_wordless [] a e h = absurd (let z : ⊥ = omega arith in z)
dot_wordless (c ∷ []) [] e h = omega arith
dot_wordless (c ∷ d ∷ r) [] e h = absurd (let z : ⊥ = omega arith in z)
dot_wordless (c ∷ r) (v ∷ a) e h =
    let t : (eqb c 0 ≡ true) × (all_of (λ c. eqb c 0) (take (length a) r) ≡ true) = (and-eq-true_iff _ _).0 h in
    omega (arith, dot_wordless r a (suc_inj e) t.1, ap (λ (z : ℕ). z * v) (eqb-true c 0 t.0))

pub value_wordless : {p : ℕ} {r : Row} (a : List ℕ) → IsRow p r → length a ≡ 16 → wordless r ≡ true → value p r a ≡ constant r
unfolding value wordless
value_wordless {p} {r} a row la h =
    let t : all_of (λ c. eqb c 0) (take (length a) r) ≡ true = rw la h in
    let e : dot r (a ++ (1 ∷ [])) ≡ constant r = dot_wordless r a (omega (arith, row.long)) t ∙ ap (λ (n : ℕ). get_or r n 0) la in
    ap (λ (n : ℕ). n % 2 ^ p) e ∙ mod-eq_of_lt (row.small most_words)

-- ---- linear in the values: word x set to v

dot_set : (r v : List ℕ) (x y : ℕ) → x < length v → dot r (set v x y) + get_or r x 0 * get_or v x 0 ≡ dot r v + get_or r x 0 * y
dot_set [] [] x y l = absurd (let n : ⊥ = omega arith in n)
dot_set [] (w ∷ v) zero y l = omega arith
dot_set [] (w ∷ v) (suc x) y l = omega arith
dot_set (c ∷ r) [] x y l = absurd (let n : ⊥ = omega arith in n)
dot_set (c ∷ r) (w ∷ v) zero y l = omega arith
dot_set (c ∷ r) (w ∷ v) (suc x) y l = omega (arith, dot_set r v x y (le_of_suc-le-suc l))

pub sum_set : (r a : List ℕ) (x y : ℕ) → x < length a → sum_at r (set a x y) + coefficient r x * get_or a x 0 ≡ sum_at r a + coefficient r x * y
unfolding sum_at
sum_set r a x y l =
    let long : x < length (a ++ (1 ∷ [])) = rw (length-append a (1 ∷ [])) (omega arith) in
    rw (← set-append_left a (1 ∷ []) x y l, ← get_or-append a (1 ∷ []) 0 x l) (dot_set r (a ++ (1 ∷ [])) x y long)

-- a row that lacks x does not see it
pub sum_lacks : (r a : List ℕ) (x y : ℕ) → x < length a → coefficient r x ≡ 0 → sum_at r (set a x y) ≡ sum_at r a
sum_lacks r a x y l e = let h : sum_at r (set a x y) + coefficient r x * get_or a x 0 ≡ sum_at r a + coefficient r x * y = sum_set r a x y l in
    go (coefficient r x) e h
  where
    go : (c : ℕ) → c ≡ 0 → sum_at r (set a x y) + c * get_or a x 0 ≡ sum_at r a + c * y → sum_at r (set a x y) ≡ sum_at r a
    go zero e h = omega arith
    go (suc c) e h = absurd (let n : ⊥ = omega arith in n)

-- ---- values after a change

pub set_values : {p : ℕ} {a : List ℕ} (x y : ℕ) → y < 2 ^ p → Values p a → Values p (set a x y)
set_values {p} {a} x y l h = record { sixteen = length-set a x y ∙ h.sixteen; small = go a x h.small }
  where
    go : (a : List ℕ) (x : ℕ) → ((i : ℕ) → get_or a i 0 < 2 ^ p) → (i : ℕ) → get_or (set a x y) i 0 < 2 ^ p
    go [] x s i = pow_pos p
    go (w ∷ a) zero s zero = l
    go (w ∷ a) zero s (suc i) = s (suc i)
    go (w ∷ a) (suc x) s zero = s zero
    go (w ∷ a) (suc x) s (suc i) = go a x (λ j. s (suc j)) i
