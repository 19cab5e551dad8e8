-- A row lowered by the places of a basis: it keeps its value at their solutions, and each of its coefficients comes below
-- the lead of that word's place.
use mathlib.Core.Path.{◌≡◌, refl, ap, ◌∙◌}
use mathlib.Core.List.{List, [], ◌∷◌}
use Prim.Native.Nat.{ℕ, suc, ◌/◌, ◌%◌, ◌^◌, ◌≤◌, ◌<◌}
use native.Mathlib.Omega.{arith}
use native.Mathlib.Nat.{mod-lt, mod-add-div, lt_of_lt_of_le, zero-div}
use lib.Pow.{pow_pos, pow_mono}
use lib.ListN.{length, set}
use Rattle.meaning.specs.Lists.{Each, each_nil, each_cons}
use Rattle.meaning.specs.Number.{kappa}
use Rattle.meaning.specs.Row.{Row, IsRow, most_words, coefficient, zero_row, less}
use Rattle.meaning.specs.Sheet.{Values}
use Rattle.meaning.specs.Tidy.{lowered, reduced}
use Rattle.meaning.proofs.Congruence.{◌⊢◌≈◌, ≈refl, ≈sym, ≈trans, ≈small, poly, polym, lin, lin⁻}
use Rattle.meaning.proofs.Kappa.{kappa_le, kappa_zero, kappa_power}
use Rattle.meaning.proofs.Value.{less_row, less_at, less_none, zero_row_lem, coefficient_zero, sum_at, sum_less, sum_lacks}
use Rattle.meaning.proofs.Working.{IsZero, zero_sum, sum_is_zero}
use Rattle.meaning.proofs.Basis.{Lead, empty, leads, Place, Extends, Howell, howell_nil, howell_cons}

-- rows that lack x stay zero when x changes
pub zeros_set : {p : ℕ} {a : List ℕ} (x v : ℕ) {rs : List Row} → x < length a → Each (λ r. coefficient r x ≡ 0) rs
    → Each (IsZero p a) rs → Each (IsZero p (set a x v)) rs
zeros_set x v l each_nil each_nil = each_nil
zeros_set {p} {a} x v l (each_cons {x = r} e es) (each_cons z zs) =
    each_cons (sum_is_zero (≈trans (poly (sum_lacks r a x v l e)) (zero_sum z))) (zeros_set x v l es zs)

-- ---- a place's lead

-- 2 ^ k where a row leads with 2 ^ k, and 2 ^ p where the place is empty
abbrev pub lead_at : ℕ → ℕ → Row → ℕ
lead_at p x s = 2 ^ kappa p (coefficient s x)

pub lead_is : {p x : ℕ} {s : Row} → Place p x s → 2 ^ p ⊢ coefficient s x ≈ lead_at p x s
lead_is {p} {x} {s} h = go h.lead
  where
    go : Lead p x s → 2 ^ p ⊢ coefficient s x ≈ lead_at p x s
    go (empty e) = rw (e, coefficient_zero x, kappa_zero p) (polym 1 0 (omega arith))
    go (leads k) = rw (k.power, kappa_power p k.exponent k.bounded) ≈refl

pub howell_le : {p x : ℕ} {ss : List Row} → Howell p x ss → x ≤ most_words
howell_le howell_nil = omega arith
howell_le (howell_cons l s e H) = omega arith

-- the later places lack the word
pub later_lack : {p x : ℕ} {ss : List Row} (i : ℕ) → i < x → Howell p x ss → Each (λ s. coefficient s i ≡ 0) ss
later_lack i l howell_nil = each_nil
later_lack i l (howell_cons h s e H) = each_cons (s.lacks i l) (later_lack i (omega arith) H)

-- ---- one place's turn

less_lacked : {p : ℕ} (q : ℕ) {s r : Row} → IsRow p s → IsRow p r → (i : ℕ) → i ≤ most_words → coefficient s i ≡ 0
    → coefficient (less p q s r) i ≡ coefficient r i
less_lacked {p} q {s} {r} hs hr i l e =
    ≈small (≈trans (poly (rw e (omega arith))) (less_at q hs hr i l)) ((less_row q hs hr).small i) (hr.small i)

lower_at : {p x : ℕ} {s r : Row} → x < most_words → Place p x s → IsRow p r
    → coefficient (less p (coefficient r x / lead_at p x s) s r) x ≡ coefficient r x % lead_at p x s
lower_at {p} {x} {s} {r} l hs hr =
    let m : ℕ = lead_at p x s in
    let c : ℕ = coefficient r x in
    ≈small
    (lin 1 (less_at (c / m) hs.row hr x (omega arith)) (lin (c / m) (≈sym (lead_is hs)) (poly (omega (arith, mod-add-div c m)))))
    ((less_row (c / m) hs.row hr).small x)
    (lt_of_lt_of_le (mod-lt c (pow_pos (kappa p (coefficient s x)))) (pow_mono (kappa_le p (coefficient s x))))

-- ---- lowered by the places from word x on

pub lowered_row : {p x : ℕ} {ss : List Row} {r : Row} → Howell p x ss → IsRow p r → IsRow p (lowered p x ss r)
unfolding lowered
lowered_row howell_nil h = h
lowered_row (howell_cons l s e H) h = lowered_row H (less_row _ s.row h)

pub lowered_sum : {p x : ℕ} {ss : List Row} {r : Row} {a : List ℕ} → Howell p x ss → IsRow p r → Each (IsZero p a) ss
    → 2 ^ p ⊢ sum_at (lowered p x ss r) a ≈ sum_at r a
unfolding lowered
lowered_sum howell_nil h each_nil = ≈refl
lowered_sum {p} {x} {ss} {r} {a} (howell_cons {s = s} l hs e H) h (each_cons z zs) =
    let q : ℕ = coefficient r x / lead_at p x s in
    ≈trans (lowered_sum H (less_row q hs.row h) zs)
    (lin 1 (sum_less q hs.row h a) (lin⁻ q (zero_sum z) (poly (omega arith))))

-- a word that the places lack keeps its coefficient
pub lowered_lacked : {p x : ℕ} {ss : List Row} {r : Row} (i : ℕ) → i ≤ most_words → Howell p x ss → IsRow p r
    → Each (λ s. coefficient s i ≡ 0) ss → coefficient (lowered p x ss r) i ≡ coefficient r i
unfolding lowered
lowered_lacked i l howell_nil h each_nil = refl
lowered_lacked i l (howell_cons _ s e H) h (each_cons z zs) =
    lowered_lacked i l H (less_row _ s.row h) zs ∙ less_lacked _ s.row h i l z

pub lowered_before : {p x : ℕ} {ss : List Row} {r : Row} (i : ℕ) → i < x → Howell p x ss → IsRow p r
    → coefficient (lowered p x ss r) i ≡ coefficient r i
lowered_before i l H h = lowered_lacked i (let b : _ ≤ most_words = howell_le H in omega arith) H h (later_lack i l H)

pub lowered_zero : {p x : ℕ} {ss : List Row} → Howell p x ss → lowered p x ss zero_row ≡ zero_row
unfolding lowered
lowered_zero howell_nil = refl
lowered_zero {p} {x} (howell_cons {s = s} {ss = ss} l hs e H) =
    let q0 : coefficient zero_row x / lead_at p x s ≡ 0 = rw (coefficient_zero x) (zero-div (lead_at p x s)) in
    ap (λ (q : ℕ). lowered p (suc x) ss (less p q s zero_row)) q0 ∙ ap (lowered p (suc x) ss) (less_none hs.row (zero_row_lem p)) ∙ lowered_zero H

-- each coefficient from word x on is below the lead of its place
pub data Below (p : ℕ) : ℕ → List Row → Row → Type 0 where
  below_nil : {x : ℕ} {r : Row} → Below p x [] r
  below_cons : {x : ℕ} {s : Row} {ss : List Row} {r : Row} → coefficient r x < lead_at p x s → Below p (suc x) ss r → Below p x (s ∷ ss) r

pub lowered_below : {p x : ℕ} {ss : List Row} {r : Row} → Howell p x ss → IsRow p r → Below p x ss (lowered p x ss r)
unfolding lowered
lowered_below howell_nil h = below_nil
lowered_below {p} {x} {ss} {r} (howell_cons {s = s} {ss = ts} l hs e H) h =
    let t : Row = less p (coefficient r x / lead_at p x s) s r in
    let ht : IsRow p t = less_row _ hs.row h in
    let first : coefficient (lowered p (suc x) ts t) x < lead_at p x s =
    rw (lowered_before x (omega arith) H ht, lower_at l hs h) (mod-lt (coefficient r x) (pow_pos (kappa p (coefficient s x)))) in
    below_cons first (lowered_below H ht)

-- ---- every row lowered by the later places

pub data Reduced (p : ℕ) : ℕ → List Row → Type 0 where
  reduced_nil : {x : ℕ} → Reduced p x []
  reduced_cons : {x : ℕ} {s : Row} {ss : List Row} → Below p (suc x) ss s → Reduced p (suc x) ss → Reduced p x (s ∷ ss)

-- ts is a reduced form of ss
pub record ReducesTo (p x : ℕ) (ss ts : List Row) : Type 0 where
  pub howell : Howell p x ts
  pub small : Reduced p x ts
  pub keeps : (a : List ℕ) → Each (IsZero p a) ss → Each (IsZero p a) ts
  pub adds_none : (a : List ℕ) → Each (IsZero p a) ts → Each (IsZero p a) ss

lowered_place : {p x : ℕ} {s : Row} {ts : List Row} → Howell p (suc x) ts → Place p x s → Place p x (lowered p (suc x) ts s)
lowered_place {p} {x} {s} {ts} H h =
    record {
      row = lowered_row H h.row;
      lacks = λ i l. lowered_before i (omega arith) H h.row ∙ h.lacks i l;
      lead = go h.lead;
    }
  where
    go : Lead p x s → Lead p x (lowered p (suc x) ts s)
    go (empty e) = empty (ap (lowered p (suc x) ts) e ∙ lowered_zero H)
    go (leads k) = leads (rw (lowered_before x (omega arith) H h.row) k)

reduced_step : {p x : ℕ} {s : Row} {ss ts : List Row} → x < most_words → Place p x s
    → ((a : List ℕ) → Values p a → Each (IsZero p a) ss → Extends p x a s)
    → ReducesTo p (suc x) ss ts → ReducesTo p x (s ∷ ss) (lowered p (suc x) ts s ∷ ts)
reduced_step {p} {x} {s} {ss} {ts} l h ext r =
    let H : Howell p (suc x) ts = r.howell in
    record {
      howell = howell_cons l (lowered_place H h) (λ a v zs.
          let e : Extends p x a s = ext a v (r.adds_none a zs) in
          let zs' : Each (IsZero p (set a x e.value)) ts =
          zeros_set x e.value (let n : length a ≡ 16 = v.sixteen in omega arith) (later_lack x (omega arith) H) zs in
          record { value = e.value; small = e.small; zero = sum_is_zero (≈trans (lowered_sum H h.row zs') (zero_sum e.zero)) }) H;
      small = reduced_cons (lowered_below H h.row) r.small;
      keeps = keep;
      adds_none = none;
    }
  where
    keep : (a : List ℕ) → Each (IsZero p a) (s ∷ ss) → Each (IsZero p a) (lowered p (suc x) ts s ∷ ts)
    keep a (each_cons z zs) =
        let zs' : Each (IsZero p a) ts = r.keeps a zs in
        each_cons (sum_is_zero (≈trans (lowered_sum r.howell h.row zs') (zero_sum z))) zs'

    none : (a : List ℕ) → Each (IsZero p a) (lowered p (suc x) ts s ∷ ts) → Each (IsZero p a) (s ∷ ss)
    none a (each_cons z zs) =
        each_cons (sum_is_zero (≈trans (≈sym (lowered_sum r.howell h.row zs)) (zero_sum z))) (r.adds_none a zs)

pub reduced_law : {p x : ℕ} {ss : List Row} → Howell p x ss → ReducesTo p x ss (reduced p x ss)
unfolding reduced
reduced_law howell_nil = record { howell = howell_nil; small = reduced_nil; keeps = λ a z. z; adds_none = λ a z. z }
reduced_law (howell_cons l h e H) = reduced_step l h e (reduced_law H)

-- words that all the places lack stay lacking
pub reduced_lacks : {p x : ℕ} {ss : List Row} (i : ℕ) → i ≤ most_words → Howell p x ss
    → Each (λ s. coefficient s i ≡ 0) ss → Each (λ s. coefficient s i ≡ 0) (reduced p x ss)
unfolding reduced
reduced_lacks i l howell_nil each_nil = each_nil
reduced_lacks i l (howell_cons b h e H) (each_cons z zs) =
    let rs = reduced_lacks i l H zs in
    each_cons (lowered_lacked i l (reduced_law H).howell h.row rs ∙ z) rs
