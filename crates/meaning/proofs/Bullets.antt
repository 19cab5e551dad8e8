-- The reduced Howell form as document 01 declares it, of the filled places of a reduced basis, and back.
use mathlib.Core.Path.{◌≡◌, refl, ap, ap₂, sym, ◌∙◌}
use mathlib.Core.Logic.{⊎_elim}
use mathlib.Core.Bool.{Bool, true, false, ◌&&◌, cond}
use mathlib.Core.List.{List, [], ◌∷◌, ◌++◌}
use Prim.Native.Nat.{ℕ, zero, suc, ◌+◌, ◌*◌, ◌-◌, ◌/◌, ◌^◌, ◌≤◌, ◌<◌}
use native.Mathlib.Omega.{arith}
use native.Mathlib.Decide.{dec_le}
use native.Mathlib.Nat.{mod-lt, le_of_eq, le_of_lt, eq-or-lt_of_le, sub-add_cancel, suc_inj, add-zero, zero-add}
use lib.Pow.{pow_pos}
use lib.Dec.{eqb, ltb}
use lib.ListN.{length, get_or, set, drop, take}
use borrow.Author.Tests.{ltb-true, lt-ltb, le-ltb, ne_eqb}
use Rattle.meaning.specs.Lists.{Each, each_nil, each_cons, EachPair, pair_nil, pair_cons, all_of}
use Rattle.meaning.specs.Number.{kappa, minus}
use Rattle.meaning.specs.Row.{Row, IsRow, most_words, coefficient, zero_row, dot, less, wordless}
use Rattle.meaning.specs.Sheet.{Values}
use Rattle.meaning.specs.Tidy.{lowered, filled}
use Rattle.meaning.specs.Form.{leading, lead, plus, sum, IsSum, Lacks, beyond, PowerBelow, ReducedHowell}
use Rattle.meaning.proofs.Members.{each_head, each_tail, each_to}
use Rattle.meaning.proofs.Congruence.{◌⊢◌≈◌, ≈sym, ≈trans, ≈mod, ≈small, poly, polym, lin, lin⁻, lin≡, quot}
use Rattle.meaning.proofs.Two.{two_split, zero_two, minus_lt, minus_add}
use Rattle.meaning.proofs.Kappa.{kappa_zero, kappa_power}
use Rattle.meaning.proofs.Value.{less_row, less_at, zero_row_lem, coefficient_zero, row_ext, sum_at, sum_less, sum_zero, sum_set}
use Rattle.meaning.proofs.Working.{IsZero, zero_sum, sum_is_zero}
use Rattle.meaning.proofs.Basis.{Lead, empty, leads, Extends, Howell, howell_nil, howell_cons}
use Rattle.meaning.proofs.Reduce.{lead_at, Below, below_nil, below_cons, Reduced, reduced_nil, reduced_cons}
use Rattle.meaning.proofs.Unique.{up_to, in_values, zero_values, Completion, complete, extend, sum_dot}
use Rattle.meaning.proofs.Unique.{zero_below, Follows, dual, SameSolutions, howell_unique}

-- ---- sums of multiples: adding q times a row is taking off −q times it

less_plus : (p q y : ℕ) {x d : ℕ} → 2 ^ p ⊢ d + q * (2 ^ p - 1) * y ≈ x → 2 ^ p ⊢ d ≈ x + q * y
less_plus p q y h = lin 1 h (polym (q * y) 0 (lin≡ (q * y) (sym (sub-add_cancel (pow_pos p))) (omega arith)))

plus_less : (p q : ℕ) (s r : Row) → plus p q s r ≡ less p (q * (2 ^ p - 1)) s r
plus_less p q [] r = refl
plus_less p q (y ∷ s) [] = refl
plus_less p q (y ∷ s) (x ∷ r) =
    let near = ≈trans (≈mod (x + q * y)) (≈sym (less_plus p q y (minus_add p x (q * (2 ^ p - 1) * y)))) in
    ap₂ ◌∷◌ (≈small near (mod-lt _ (pow_pos p)) (minus_lt p x _)) (plus_less p q s r)

plus_row : {p : ℕ} (q : ℕ) {s r : Row} → IsRow p s → IsRow p r → IsRow p (plus p q s r)
plus_row {p} q {s} {r} hs hr = rw (plus_less p q s r) (less_row _ hs hr)

plus_at : {p : ℕ} (q : ℕ) {s r : Row} → IsRow p s → IsRow p r → (i : ℕ) → i ≤ most_words
    → 2 ^ p ⊢ get_or (plus p q s r) i 0 ≈ get_or r i 0 + q * get_or s i 0
plus_at {p} q {s} {r} hs hr i l = rw (plus_less p q s r) (less_plus p q (get_or s i 0) (less_at _ hs hr i l))

sum_plus : {p : ℕ} (q : ℕ) {s r : Row} → IsRow p s → IsRow p r → (a : List ℕ)
    → 2 ^ p ⊢ sum_at (plus p q s r) a ≈ sum_at r a + q * sum_at s a
sum_plus {p} q {s} {r} hs hr a = rw (plus_less p q s r) (less_plus p q (sum_at s a) (sum_less _ hs hr a))

-- what is taken off is put back
plus_back : {p : ℕ} (q : ℕ) {s r : Row} → IsRow p s → IsRow p r → plus p q s (less p q s r) ≡ r
plus_back q hs hr =
    let ht = less_row q hs hr in
    row_ext (plus_row q hs ht) hr (λ i l. ≈trans (plus_at q hs ht i l) (less_at q hs hr i l))

-- no multiple, and any of zeros, adds nothing
plus_none : {p : ℕ} {s r : Row} → IsRow p s → IsRow p r → plus p 0 s r ≡ r
plus_none hs hr = row_ext (plus_row 0 hs hr) hr (λ i l. ≈trans (plus_at 0 hs hr i l) (poly (omega arith)))

plus_zero : {p : ℕ} (q : ℕ) {r : Row} → IsRow p r → plus p q zero_row r ≡ r
plus_zero {p} q h =
    row_ext (plus_row q (zero_row_lem p) h) h (λ i l. ≈trans (plus_at q (zero_row_lem p) h i l) (poly (rw (coefficient_zero i) (omega arith))))

sum_row : {p : ℕ} {rs : List Row} (qs : List ℕ) → Each (IsRow p) rs → IsRow p (sum p qs rs)
sum_row {p} [] hs = zero_row_lem p
sum_row {p} (q ∷ qs) each_nil = zero_row_lem p
sum_row (q ∷ qs) (each_cons h hs) = plus_row q h (sum_row qs hs)

-- a sum of multiples is zero at every solution
pub sum_zeros : {p : ℕ} {rs : List Row} {a : List ℕ} (qs : List ℕ) → Each (IsRow p) rs → Each (IsZero p a) rs → IsZero p a (sum p qs rs)
sum_zeros {a = a} [] hs zs = sum_is_zero (poly (sum_zero a))
sum_zeros {a = a} (q ∷ qs) each_nil zs = sum_is_zero (poly (sum_zero a))
sum_zeros {a = a} (q ∷ qs) (each_cons h hs) (each_cons z zs) =
    sum_is_zero (≈trans (sum_plus q h (sum_row qs hs) a) (lin 1 (zero_sum (sum_zeros qs hs zs)) (lin q (zero_sum z) (poly (omega arith)))))

-- a row that the places lower to zero is a sum of their multiples
pub lowered_sums : {p x : ℕ} {ss : List Row} {r : Row} → Howell p x ss → IsRow p r → lowered p x ss r ≡ zero_row → IsSum p ss r
unfolding lowered
lowered_sums howell_nil h e = record { multipliers = []; is = e }
lowered_sums {p} {x} {ss} {r} (howell_cons {s = s} l hs ext H) h e =
    let q : ℕ = coefficient r x / lead_at p x s in
    let t : IsSum p _ (less p q s r) = lowered_sums H (less_row q hs.row h) e in
    record { multipliers = q ∷ t.multipliers; is = sym (plus_back q hs.row h) ∙ ap (plus p q s) t.is }

-- ---- members of a list

pair_head : {A : Type 0} {R : A → A → Type 0} {x : A} {xs : List A} → EachPair R (x ∷ xs) → Each (R x) xs
pair_head (pair_cons h hs) = h

pair_tail : {A : Type 0} {R : A → A → Type 0} {x : A} {xs : List A} → EachPair R (x ∷ xs) → EachPair R xs
pair_tail (pair_cons h hs) = hs

-- ---- leading words

leading_is : (r : Row) (x : ℕ) → ((i : ℕ) → i < x → coefficient r i ≡ 0) → 0 < coefficient r x → leading r ≡ x
unfolding leading
leading_is [] x lacks l = absurd (let n : ⊥ = omega arith in n)
leading_is (zero ∷ r) zero lacks l = absurd (let n : ⊥ = omega arith in n)
leading_is (suc d ∷ r) zero lacks l = refl
leading_is (zero ∷ r) (suc x) lacks l = ap suc (leading_is r x (λ i b. lacks (suc i) (omega arith)) l)
leading_is (suc d ∷ r) (suc x) lacks l = absurd (let n : ⊥ = omega (arith, lacks 0 (omega arith)) in n)

leading_lacks : (r : Row) (i : ℕ) → i < leading r → coefficient r i ≡ 0
unfolding leading
leading_lacks [] i l = refl
leading_lacks (zero ∷ r) zero l = refl
leading_lacks (zero ∷ r) (suc i) l = leading_lacks r i (omega arith)
leading_lacks (suc d ∷ r) i l = absurd (let n : ⊥ = omega arith in n)

-- s leads with word x
pub record Leads (p x : ℕ) (s : Row) : Type 0 where
  pub row : IsRow p s
  pub at : leading s ≡ x
  pub wordy : x < most_words
  pub power : PowerBelow p (coefficient s x)

leads_pos : {p x : ℕ} {s : Row} → Leads p x s → 0 < coefficient s x
leads_pos h = rw h.power.power (pow_pos h.power.exponent)

-- the leading coefficient, as the form and as the places name it
lead_coefficient : {p x : ℕ} {s : Row} → Leads p x s → lead s ≡ coefficient s x
lead_coefficient {s = s} h = ap (coefficient s) h.at

lead_power : {p x : ℕ} {s : Row} → Leads p x s → lead_at p x s ≡ lead s
lead_power {p} h =
    let k = h.power in
    ap (λ (c : ℕ). 2 ^ kappa p c) k.power ∙ ap (λ (n : ℕ). 2 ^ n) (kappa_power p k.exponent k.bounded)
    ∙ sym k.power ∙ sym (lead_coefficient h)

-- ---- the rows rs in the places ss from word x on

pub data Filled (p : ℕ) : ℕ → List Row → List Row → Type 0 where
  filled_nil : {x : ℕ} → Filled p x [] []
  filled_skip : {x : ℕ} {s : Row} {ss rs : List Row} → s ≡ zero_row → Filled p (suc x) ss rs → Filled p x (s ∷ ss) rs
  filled_row : {x : ℕ} {s : Row} {ss rs : List Row} → Leads p x s → Filled p (suc x) ss rs → Filled p x (s ∷ ss) (s ∷ rs)

and_false : (b : Bool) → (b && false) ≡ false
and_false true = refl
and_false false = refl

has_word : (n : ℕ) (r : Row) (x : ℕ) → x < n → 0 < get_or r x 0 → all_of (λ c. eqb c 0) (take n r) ≡ false
has_word zero r x l pos = absurd (let n : ⊥ = omega arith in n)
has_word (suc n) [] x l pos = absurd (let n : ⊥ = omega arith in n)
has_word (suc n) (c ∷ r) zero l pos = ap (λ (b : Bool). b && all_of (λ c. eqb c 0) (take n r)) (ne_eqb c 0 (λ e. omega arith))
has_word (suc n) (c ∷ r) (suc x) l pos = ap (λ (b : Bool). eqb c 0 && b) (has_word n r x (omega arith) pos) ∙ and_false (eqb c 0)

pub filled_is : {p x : ℕ} {ss rs : List Row} → Filled p x ss rs → filled ss ≡ rs
unfolding filled wordless
filled_is filled_nil = refl
filled_is (filled_skip {ss = ss} e F) = ap (λ (r : Row). cond (wordless r) (filled ss) (r ∷ filled ss)) e ∙ filled_is F
filled_is (filled_row {x = x} {s = s} {ss = ss} h F) =
    ap (λ (b : Bool). cond b (filled ss) (s ∷ filled ss)) (has_word most_words s x h.wordy (leads_pos h))
    ∙ ap (λ (l : List Row). s ∷ l) (filled_is F)

pub howell_filled : {p x : ℕ} {ss : List Row} → Howell p x ss → Filled p x ss (filled ss)
howell_filled {ss = ss} H = let (rs, F) = found H in rw (filled_is F) F
  where
    found : {p x : ℕ} {ss : List Row} → Howell p x ss → (rs : List Row) × Filled p x ss rs
    found howell_nil = ([], filled_nil)
    found {p} {x} (howell_cons {s = s} {ss = ss} l h ext H) = go h.lead (found H)
      where
        go : Lead p x s → (rs : List Row) × Filled p (suc x) ss rs → (rs : List Row) × Filled p x (s ∷ ss) rs
        go (empty e) (rs, F) = (rs, filled_skip e F)
        go (leads k) (rs, F) =
            let pos : 0 < coefficient s x = rw k.power (pow_pos k.exponent) in
            (s ∷ rs, filled_row (record { row = h.row; at = leading_is s x h.lacks pos; wordy = l; power = k }) F)

beyond_all : (i : ℕ) {rs : List Row} → Each (λ r. i < leading r) rs → beyond i rs ≡ rs
beyond_all i each_nil = refl
beyond_all i (each_cons {x = r} {xs = rs} l ls) =
    ap (λ (b : Bool). cond b (r ∷ beyond i rs) (beyond i rs)) (lt-ltb i (leading r) l) ∙ ap (λ (t : List Row). r ∷ t) (beyond_all i ls)

module _ {p : ℕ} where
  pub filled_rows : {x : ℕ} {ss rs : List Row} → Filled p x ss rs → Each (IsRow p) rs
  filled_rows filled_nil = each_nil
  filled_rows (filled_skip e F) = filled_rows F
  filled_rows (filled_row h F) = each_cons h.row (filled_rows F)

  pub filled_zeros : {x : ℕ} {ss rs : List Row} {a : List ℕ} → Filled p x ss rs → Each (IsZero p a) ss → Each (IsZero p a) rs
  filled_zeros filled_nil zs = each_nil
  filled_zeros (filled_skip e F) (each_cons z zs) = filled_zeros F zs
  filled_zeros (filled_row h F) (each_cons z zs) = each_cons z (filled_zeros F zs)

  pub zeros_filled : {x : ℕ} {ss rs : List Row} {a : List ℕ} → Filled p x ss rs → Each (IsZero p a) rs → Each (IsZero p a) ss
  zeros_filled filled_nil zs = each_nil
  zeros_filled {a = a} (filled_skip {s = s} e F) zs = each_cons {x = s} (sum_is_zero (rw e (poly (sum_zero a)))) (zeros_filled F zs)
  zeros_filled (filled_row h F) (each_cons z zs) = each_cons z (zeros_filled F zs)

  -- sums of multiples of the places are sums of multiples of the rows
  filled_multiples : {x : ℕ} {ss rs : List Row} (qs : List ℕ) → Filled p x ss rs → IsSum p rs (sum p qs ss)
  filled_multiples [] F = record { multipliers = []; is = refl }
  filled_multiples (q ∷ qs) filled_nil = record { multipliers = []; is = refl }
  filled_multiples (q ∷ qs) (filled_skip {ss = ss} e F) =
      let t = filled_multiples qs F in
      let row : IsRow p (sum p qs ss) = rw t.is (sum_row t.multipliers (filled_rows F)) in
      record { multipliers = t.multipliers; is = rw e (plus_zero q row) ∙ t.is }
  filled_multiples (q ∷ qs) (filled_row {s = s} h F) =
      let t = filled_multiples qs F in
      record { multipliers = q ∷ t.multipliers; is = ap (plus p q s) t.is }

  pub filled_sum : {x : ℕ} {ss rs : List Row} {r : Row} → Filled p x ss rs → IsSum p ss r → IsSum p rs r
  filled_sum F t = rw t.is (filled_multiples t.multipliers F)

  filled_from : {x : ℕ} {ss rs : List Row} → Filled p x ss rs → Each (λ r. x ≤ leading r) rs
  filled_from filled_nil = each_nil
  filled_from (filled_skip e F) = each_to (λ r l. omega arith) (filled_from F)
  filled_from (filled_row {s = s} h F) = each_cons {x = s} (le_of_eq (sym h.at)) (each_to (λ r l. omega arith) (filled_from F))

  -- ---- the bullets, one by one

  filled_rising : {x : ℕ} {ss rs : List Row} → Filled p x ss rs → EachPair (λ r s. leading r < leading s) rs
  filled_rising filled_nil = pair_nil
  filled_rising (filled_skip e F) = filled_rising F
  filled_rising (filled_row {s = s} h F) = pair_cons {x = s} (each_to (λ r l. rw h.at l) (filled_from F)) (filled_rising F)

  filled_powers : {x : ℕ} {ss rs : List Row} → Filled p x ss rs → Each (λ r. PowerBelow p (lead r)) rs
  filled_powers filled_nil = each_nil
  filled_powers (filled_skip e F) = filled_powers F
  filled_powers (filled_row {s = s} h F) = each_cons {x = s} (rw (lead_coefficient h) h.power) (filled_powers F)

  filled_wordy : {x : ℕ} {ss rs : List Row} → Filled p x ss rs → Each (λ r. leading r < most_words) rs
  filled_wordy filled_nil = each_nil
  filled_wordy (filled_skip e F) = filled_wordy F
  filled_wordy (filled_row {s = s} h F) = each_cons {x = s} (rw h.at h.wordy) (filled_wordy F)

  below_filled : {x : ℕ} {ss rs : List Row} {r : Row} → Filled p x ss rs → Below p x ss r
      → Each (λ s. coefficient r (leading s) < lead s) rs
  below_filled filled_nil below_nil = each_nil
  below_filled (filled_skip e F) (below_cons l b) = below_filled F b
  below_filled {r = r} (filled_row {s = s} h F) (below_cons l b) =
      each_cons {x = s} (rw (ap (coefficient r) h.at, ← lead_power h) l) (below_filled F b)

  filled_below : {x : ℕ} {ss rs : List Row} → Filled p x ss rs → Reduced p x ss → EachPair (λ r s. coefficient r (leading s) < lead s) rs
  filled_below filled_nil reduced_nil = pair_nil
  filled_below (filled_skip e F) (reduced_cons b R) = filled_below F R
  filled_below (filled_row h F) (reduced_cons b R) = pair_cons (below_filled F b) (filled_below F R)

  -- the rows that lead beyond i are those of the places from i + 1 on
  beyond_filled : {x : ℕ} {ss rs : List Row} (i n : ℕ) → x + n ≡ suc i → Filled p x ss rs → Filled p (suc i) (drop n ss) (beyond i rs)
  beyond_filled {x} i zero e F =
      let s : x ≡ suc i = omega arith in
      rw (beyond_all i (each_to (λ r l. omega arith) (filled_from F)), ← s) F
  beyond_filled i (suc n) e filled_nil = filled_nil
  beyond_filled i (suc n) e (filled_skip z F) = beyond_filled i n (omega arith) F
  beyond_filled {x} i (suc n) e (filled_row {s = s} {rs = rs} h F) =
      let first : ltb i (leading s) ≡ false = le-ltb i (leading s) (rw h.at (omega arith)) in
      rw first (beyond_filled i n (omega arith) F)

howell_drop : {p x : ℕ} {ss : List Row} (n : ℕ) → x + n ≤ most_words → Howell p x ss → Howell p (x + n) (drop n ss)
howell_drop {x = x} zero l H = rw (add-zero x) H
howell_drop (suc n) l howell_nil = absurd (let n : ⊥ = omega arith in n)
howell_drop {p} {x} (suc n) l (howell_cons {ss = ss} b h ext H) =
    let e : x + suc n ≡ suc x + n = omega arith in
    rw e (howell_drop n (omega arith) H)

-- values that differ only at words that the row lacks
dot_same : (r a b : List ℕ) → length a ≡ length b → ((i : ℕ) → get_or r i 0 * get_or a i 0 ≡ get_or r i 0 * get_or b i 0)
    → dot r (a ++ (1 ∷ [])) ≡ dot r (b ++ (1 ∷ []))
dot_same [] a b l e = refl
dot_same (c ∷ r) [] [] l e = refl
dot_same (c ∷ r) [] (w ∷ b) l e = absurd (let n : ⊥ = omega arith in n)
dot_same (c ∷ r) (v ∷ a) [] l e = absurd (let n : ⊥ = omega arith in n)
dot_same (c ∷ r) (v ∷ a) (w ∷ b) l e = ap₂ ◌+◌ (e 0) (dot_same r a b (suc_inj l) (λ i. e (suc i)))

-- a row without words 0 to i that is zero at every solution is zero at every solution of the places from i + 1 on
follows_beyond : {p : ℕ} {ss : List Row} {r : Row} (i : ℕ) → Howell p 0 ss → Follows p ss r → Lacks i r → Follows p (drop (suc i) ss) r
follows_beyond {p} {ss} {r} i H f lacks = record { at = λ a fit zs. go a fit (complete (suc i) H fit zs) }
  where
    same : {a : List ℕ} (c : Completion p 0 (suc i) a ss) (j : ℕ) → get_or r j 0 * get_or a j 0 ≡ get_or r j 0 * get_or c.values j 0
    same c j = elim (dec_le j i) [
      | yes l ↦ rw (lacks.lacks j l) (omega arith)
      | no n ↦ ap (λ (v : ℕ). get_or r j 0 * v) (sym (c.after j (omega arith)))
    ]

    go : (a : List ℕ) → Values p a → Completion p 0 (suc i) a ss → IsZero p a r
    go a fit c =
        let b : List ℕ = c.values in
        let e : dot r (a ++ (1 ∷ [])) ≡ dot r (b ++ (1 ∷ [])) = dot_same r a b (fit.sixteen ∙ sym c.fit.sixteen) (same c) in
        let z : 2 ^ p ⊢ sum_at r b ≈ 0 = zero_sum (f.at b c.fit c.zeros) in
        sum_is_zero (≈trans (sum_dot p r a) (≈trans (poly e) (≈trans (≈sym (sum_dot p r b)) z)))

filled_closed : {p : ℕ} {ss rs : List Row} → Howell p 0 ss → Filled p 0 ss rs
    → (i : ℕ) → i < most_words → (r : Row) → IsSum p rs r → Lacks i r → IsSum p (beyond i rs) r
filled_closed {p} {ss} {rs} H F i l r t lacks =
    let row : IsRow p r = rw t.is (sum_row t.multipliers (filled_rows F)) in
    let f : Follows p ss r = record { at = λ a fit zs. rw t.is (sum_zeros t.multipliers (filled_rows F) (filled_zeros F zs)) } in
    let K : Howell p (suc i) (drop (suc i) ss) = rw (zero-add (suc i)) at (howell_drop (suc i) (omega arith) H) in
    filled_sum (beyond_filled i (suc i) (omega arith) F)
    (lowered_sums K row ((dual K row (λ j b. lacks.lacks j (omega arith))).0 (follows_beyond i H f lacks)))

pub filled_form : {p : ℕ} {ss : List Row} → Howell p 0 ss → Reduced p 0 ss → ReducedHowell p (filled ss)
filled_form {p} {ss} H R =
    let F : Filled p 0 ss (filled ss) = howell_filled H in
    record {
      rising = filled_rising F;
      powers = filled_powers F;
      below = filled_below F R;
      closed = filled_closed H F;
      wordy = filled_wordy F;
    }

-- ---- back: rows of that form spread over the places

-- places that hold the rows, each in that of its leading word
pub record Spread (p x : ℕ) (rs : List Row) : Type 0 where
  pub places : List Row
  pub howell : Howell p x places
  pub small : Reduced p x places
  pub fills : Filled p x places rs

spread_skip : {p x : ℕ} {rs : List Row} → x < most_words → Spread p (suc x) rs → Spread p x rs
spread_skip {p} {x} l t =
    record {
      places = zero_row ∷ t.places;
      howell = howell_cons l (record { row = zero_row_lem p; lacks = λ i b. coefficient_zero i; lead = empty refl })
          (λ a fit zs. record { value = 0; small = pow_pos p; zero = sum_is_zero (poly (sum_zero (set a x 0))) }) t.howell;
      small = reduced_cons (zero_below p (suc x) t.places) t.small;
      fills = filled_skip refl t.fills;
    }

filled_under : {p x : ℕ} {ss rs : List Row} {r : Row} → IsRow p r → Filled p x ss rs
    → Each (λ s. coefficient r (leading s) < lead s) rs → Below p x ss r
filled_under row filled_nil each_nil = below_nil
filled_under {p} {x} {r = r} row (filled_skip {s = s} e F) ls =
    below_cons {x = x} {s = s} {r = r} (rw (e, coefficient_zero x, kappa_zero p) (row.small x)) (filled_under row F ls)
filled_under {p} {x} {r = r} row (filled_row {s = s} h F) (each_cons l ls) =
    below_cons {x = x} {s = s} {r = r} (rw (lead_power h, ap (coefficient r) (sym h.at)) l) (filled_under row F ls)

-- where the coefficient of x divides the row, some value of x makes it zero
extends_of_divides : {p x : ℕ} {s : Row} {a : List ℕ} → x < most_words → Values p a → coefficient s x ⊢ sum_at s a ≈ 0 → Extends p x a s
extends_of_divides {p} {x} {s} {a} l fit d =
    let c : ℕ = coefficient s x in
    let t : ℕ = sum_at s a / c in
    let v : ℕ = minus p (get_or a x 0) t in
    record {
      value = v;
      small = minus_lt p (get_or a x 0) t;
      zero = sum_is_zero (lin 1 (poly (sum_set s a x v (in_values fit l)))
          (lin 1 (poly (quot d)) (lin c (minus_add p (get_or a x 0) t) (poly (omega arith)))));
    }

beyond_head : (r : Row) {rs : List Row} → Each (λ s. leading r < leading s) rs → beyond (leading r) (r ∷ rs) ≡ rs
beyond_head r {rs} ls =
    let i : ℕ = leading r in
    ap (λ (b : Bool). cond b (r ∷ beyond i rs) (beyond i rs)) (le-ltb i i (omega arith)) ∙ beyond_all i ls

multiple_lacks : {p : ℕ} (q : ℕ) {r : Row} → IsRow p r → (i : ℕ) → i ≤ most_words → 2 ^ p ⊢ q * coefficient r i ≈ 0
    → coefficient (plus p q r zero_row) i ≡ 0
multiple_lacks {p} q h i l z =
    let near = ≈trans (plus_at q h (zero_row_lem p) i l) (≈trans (poly (rw (coefficient_zero i) (omega arith))) z) in
    ≈small near ((plus_row q h (zero_row_lem p)).small i) (pow_pos p)

-- 2 ^ (p - k) times a row of lead 2 ^ k lacks its leading word
scaled_lacks : {p x : ℕ} {r : Row} → (h : Leads p x r) → Lacks x (plus p (2 ^ (p - h.power.exponent)) r zero_row)
scaled_lacks {p} {x} {r} h =
    let q : ℕ = 2 ^ (p - h.power.exponent) in
    let before : (i : ℕ) → i < x → 2 ^ p ⊢ q * coefficient r i ≈ 0 = λ i b. rw (leading_lacks r i (rw h.at b)) (poly (omega arith)) in
    let whole : q * 2 ^ h.power.exponent ≡ 2 ^ p = two_split (le_of_lt h.power.bounded) in
    let here : 2 ^ p ⊢ q * coefficient r x ≈ 0 = rw h.power.power (polym 0 1 (omega arith)) in
    let wordy : x < most_words = h.wordy in
    record { lacks = λ i l. multiple_lacks q h.row i (omega arith) (up_to before here i (omega arith)) }

-- so that multiple is a sum of multiples of the rows beyond, and zero where they are
lead_of_rest : {p x : ℕ} {r : Row} {rs : List Row} {a : List ℕ} → Leads p x r → Each (IsRow p) rs → ReducedHowell p (r ∷ rs)
    → Each (IsZero p a) rs → coefficient r x ⊢ sum_at r a ≈ 0
lead_of_rest {p} {x} {r} {rs} {a} h rows f zs =
    let k = h.power in
    let q : ℕ = 2 ^ (p - k.exponent) in
    let t : Row = plus p q r zero_row in
    let u : IsSum p (beyond x (r ∷ rs)) t = f.closed x h.wordy t (record { multipliers = q ∷ []; is = refl }) (scaled_lacks h) in
    let rest : beyond x (r ∷ rs) ≡ rs = ap (λ (i : ℕ). beyond i (r ∷ rs)) (sym h.at) ∙ beyond_head r (pair_head f.rising) in
    let v : IsSum p rs t = rw rest at u in
    let z : IsZero p a t = rw v.is (sum_zeros v.multipliers rows zs) in
    rw k.power (zero_two (le_of_lt k.bounded)
    (lin 1 (zero_sum z) (lin⁻ 1 (sum_plus q h.row (zero_row_lem p) a) (lin⁻ 1 (poly (sum_zero a)) (poly (omega arith))))))

spread_row : {p x : ℕ} {r : Row} {rs : List Row} → Leads p x r → Each (IsRow p) rs → ReducedHowell p (r ∷ rs)
    → Spread p (suc x) rs → Spread p x (r ∷ rs)
spread_row {p} {x} {r} h rows f t =
    record {
      places = r ∷ t.places;
      howell = howell_cons h.wordy (record { row = h.row; lacks = λ i b. leading_lacks r i (rw h.at b); lead = leads h.power })
          (λ a fit zs. extends_of_divides h.wordy fit (lead_of_rest h rows f (filled_zeros t.fills zs))) t.howell;
      small = reduced_cons (filled_under h.row t.fills (pair_head f.below)) t.small;
      fills = filled_row h t.fills;
    }

-- without its first row it is the form still
form_tail : {p : ℕ} {r : Row} {rs : List Row} → Each (IsRow p) (r ∷ rs) → ReducedHowell p (r ∷ rs) → ReducedHowell p rs
form_tail {p} {r} {rs} (each_cons h hs) f =
    record {
      rising = pair_tail f.rising;
      powers = each_tail f.powers;
      below = pair_tail f.below;
      closed = λ i l t u lacks. go i l t u lacks (ltb i (leading r)) refl;
      wordy = each_tail f.wordy;
    }
  where
    go : (i : ℕ) → i < most_words → (t : Row) → IsSum p rs t → Lacks i t → (b : Bool) → ltb i (leading r) ≡ b → IsSum p (beyond i rs) t
    go i l t u lacks true e =
        let m : i < leading r = ltb-true i (leading r) e in
        rw (beyond_all i (each_to (λ s b. omega arith) (pair_head f.rising))) u
    go i l t u lacks false e =
        let w : IsSum p (beyond i (r ∷ rs)) t =
        f.closed i l t (record { multipliers = 0 ∷ u.multipliers; is = u.is ∙ sym (plus_none h (sum_row u.multipliers hs)) }) lacks in
        rw e at w

spread : {p : ℕ} {rs : List Row} (n x : ℕ) → x + n ≡ most_words → Each (IsRow p) rs → ReducedHowell p rs → Each (λ r. x ≤ leading r) rs
    → Spread p x rs
spread {p} zero x e each_nil f ls =
    let H : Howell p x [] = rw (let s : x ≡ most_words = omega arith in s) howell_nil in
    record { places = []; howell = H; small = reduced_nil; fills = filled_nil }
spread zero x e (each_cons h hs) f (each_cons l ls) = absurd (let n : ⊥ = omega (arith, each_head f.wordy) in n)
spread (suc n) x e each_nil f ls = spread_skip (omega arith) (spread n (suc x) (omega arith) each_nil f each_nil)
spread {p} (suc n) x e (each_cons {x = r} {xs = rs} h hs) f (each_cons l ls) =
    let later : Each (λ s. suc x ≤ leading s) rs = each_to (λ s b. omega arith) (pair_head f.rising) in
    ⊎_elim
    (λ q. spread_row (record { row = h; at = sym q; wordy = omega arith; power = rw q (each_head f.powers) }) hs f
    (spread n (suc x) (omega arith) hs (form_tail (each_cons h hs) f) later))
    (λ q. spread_skip (omega arith) (spread n (suc x) (omega arith) (each_cons h hs) f (each_cons {x = r} q later)))
    (eq-or-lt_of_le l)

pub form_spread : {p : ℕ} {rs : List Row} → Each (IsRow p) rs → ReducedHowell p rs → Spread p 0 rs
form_spread hs f = spread most_words 0 (omega arith) hs f (each_to (λ r l. omega arith) hs)

-- ---- what it comes to

-- rows of the form with the same solutions are equal
pub form_unique : {p : ℕ} {rs ts : List Row} → Each (IsRow p) rs → ReducedHowell p rs → Each (IsRow p) ts → ReducedHowell p ts
    → SameSolutions p rs ts → rs ≡ ts
form_unique {p} {rs} {ts} hr fr ht ft e =
    let R = form_spread hr fr in
    let T = form_spread ht ft in
    let same : R.places ≡ T.places = howell_unique R.howell R.small T.howell T.small (record {
      forth = λ a fit zs. zeros_filled T.fills (e.forth a fit (filled_zeros R.fills zs));
      back = λ a fit zs. zeros_filled R.fills (e.back a fit (filled_zeros T.fills zs));
    }) in
    sym (filled_is R.fills) ∙ ap filled same ∙ filled_is T.fills

filled_length : {p x : ℕ} {ss rs : List Row} → Howell p x ss → Filled p x ss rs → x + length rs ≤ most_words
filled_length howell_nil filled_nil = omega arith
filled_length (howell_cons l h ext H) (filled_skip e F) = omega (arith, filled_length H F)
filled_length (howell_cons l h ext H) (filled_row g F) = omega (arith, filled_length H F)

-- there are at most sixteen of them
pub form_length : {p : ℕ} {rs : List Row} → Each (IsRow p) rs → ReducedHowell p rs → length rs ≤ 16
form_length hs f = let t = form_spread hs f in omega (arith, filled_length t.howell t.fills)

-- and they have a solution
pub form_solution : {p : ℕ} {rs : List Row} → Each (IsRow p) rs → ReducedHowell p rs → (a : List ℕ) × Values p a × Each (IsZero p a) rs
form_solution {p} hs f =
    let t = form_spread hs f in
    let c = extend t.howell (zero_values p) in
    (c.values, c.fit, filled_zeros t.fills c.zeros)
