-- Layer1: the chosen row, what it says of 2^k × x, and putting that in.
use mathlib.Core.Path.{◌≡◌, refl, ap, sym, ◌∙◌}
use mathlib.Core.Logic.{◌↔◌}
use mathlib.Core.Bool.{Bool, true, false, cond, true≢false}
use mathlib.Core.List.{List, [], ◌∷◌}
use Prim.Native.Nat.{ℕ, suc, ◌+◌, ◌*◌, ◌-◌, ◌/◌, ◌^◌, ◌≤◌, ◌<◌}
use native.Mathlib.Omega.{arith}
use native.Mathlib.Nat.{zero-div}
use borrow.Author.Tests.{leb-true, leb-false, ltb-true, ltb-false, le-leb, lt-leb}
use lib.Dec.{leb, ltb}
use lib.Pow.{pow_pos}
use lib.ListN.{length, get_or, set}
use Rattle.meaning.specs.Lists.{Each, each_nil, each_cons, any_of}
use Rattle.meaning.specs.Number.{minus, kappa}
use Rattle.meaning.specs.Row.{Row, IsRow, most_words, coefficient, zero_row, value, less, scale, row_has}
use Rattle.meaning.specs.Sheet.{Constraint, Holds, HoldAll, Values, Work, IsOther}
use Rattle.meaning.specs.Layers.{Chosen, chosen, replaced, replaced_in}
use Rattle.meaning.proofs.Turn.{less_lacks}
use Rattle.meaning.proofs.Congruence.{◌⊢◌≈◌, ≈sym, ≈trans, ≈small, ≈scale, quot, poly, polym, lin, lin⁻}
use Rattle.meaning.proofs.Two.{two_split, two_down, two_zero, zero_two, minus_lt, minus_add}
use Rattle.meaning.proofs.Kappa.{kappa_le, kappa_zero, zero_of_kappa, divides_below}
use Rattle.meaning.proofs.Value.{coefficient_zero, zero_row_lem, less_row, scale_row, less_at, scale_at, less_none, scale_none, sum_at, value_sum, sum_less, sum_scale, sum_set, sum_lacks}
use Rattle.meaning.proofs.Working.{IsZero, Solved, zero_sum, sum_is_zero}
use Rattle.meaning.proofs.Members.{each_to, each_both, each_iff, each_get, each_none, none_each}
use Rattle.meaning.proofs.Absent.{Lacking, LackingIn, Absent, lacking_row_has, row_has_lacking}

-- ---- zeros and values as congruences

pub value_same : (p : ℕ) (r s : Row) (a b : List ℕ) → 2 ^ p ⊢ sum_at r a ≈ sum_at s b → value p r a ≡ value p s b
value_same p r s a b h = value_sum p r a ∙ h.eq ∙ sym (value_sum p s b)

pub scale_zero : {p : ℕ} {a : List ℕ} {r : Row} (q : ℕ) → IsZero p a r → IsZero p a (scale p q r)
scale_zero {p} {a} {r} q z = sum_is_zero (lin 1 (sum_scale p q r a) (lin q (zero_sum z) (poly (omega arith))))

-- ---- where the word x is lacked, its value does not matter

module _ {p x : ℕ} (l : x < most_words) {a : List ℕ} (ha : Values p a) (v : ℕ) where
  pub value_set : {r : Row} → Lacking x r → value p r (set a x v) ≡ value p r a
  value_set {r} h = value_same p r r _ a (poly (sum_lacks r a x v (rw ha.sixteen l) h.lacks))

  pub zero_set : {r : Row} → Lacking x r → IsZero p (set a x v) r ↔ IsZero p a r
  zero_set h = (λ z. record { zero = sym (value_set h) ∙ z.zero }, λ z. record { zero = value_set h ∙ z.zero })

  pub holds_set : {c : Constraint} → LackingIn x c → Holds p (set a x v) c ↔ Holds p a c
  holds_set {c} h = (
    λ z. record { says = rw (value_set h.left, value_set h.right) at z.says },
    λ z. record { says = rw (value_set h.left, value_set h.right) z.says },
  )

  pub zeros_set : {rs : List Row} → Each (Lacking x) rs → Each (IsZero p (set a x v)) rs ↔ Each (IsZero p a) rs
  zeros_set hs = each_iff (λ r. zero_set) hs

  pub hold_all_set : {cs : List Constraint} → Each (LackingIn x) cs → HoldAll p (set a x v) cs ↔ HoldAll p a cs
  hold_all_set hs = each_iff (λ c. holds_set) hs

  pub solved_set : {w : Work} → Absent x w → Solved p (set a x v) w ↔ Solved p a w
  solved_set h = (
    λ s. record { zeros = (zeros_set h.rows).0 s.zeros; hold = (hold_all_set h.sides).0 s.hold },
    λ s. record { zeros = (zeros_set h.rows).1 s.zeros; hold = (hold_all_set h.sides).1 s.hold },
  )

-- ---- words that rows lack stay lacked

pub scale_lacks : {p y : ℕ} (q : ℕ) {r : Row} → IsRow p r → y < most_words → Lacking y r → Lacking y (scale p q r)
scale_lacks q hr l h = record { lacks = scale_none q hr _ (omega arith) h.lacks }

-- ---- the chosen row

pub record IsChosen (p x : ℕ) (rs : List Row) (c : Chosen) : Type 0 where
  pub bounded : c.power ≤ p
  pub least : Each (λ r. c.power ≤ kappa p (coefficient r x)) rs
  pub found : c.power < p → (c.at < length rs) × (kappa p (coefficient (get_or rs c.at zero_row) x) ≡ c.power)

pub chosen_law : (p x : ℕ) (rs : List Row) → IsChosen p x rs (chosen p x rs)
unfolding chosen
chosen_law p x [] = record { bounded = omega arith; least = each_nil; found = λ l. absurd (let n : ⊥ = omega arith in n) }
chosen_law p x (r ∷ rs) = go (leb k c.power) refl (chosen_law p x rs)
  where
    c : Chosen
    c = chosen p x rs

    k : ℕ
    k = kappa p (coefficient r x)

    go : (b : Bool) → leb k c.power ≡ b → IsChosen p x rs c
        → IsChosen p x (r ∷ rs) (cond b (record { power = k; at = 0 }) (record { power = c.power; at = suc c.at }))
    go true e h =
        record {
          bounded = kappa_le p (coefficient r x);
          least = each_cons {x = r} (omega arith) (each_to (λ s l. omega (arith, leb-true)) h.least);
          found = λ l. (omega arith, refl);
        }
    go false e h =
        record {
          bounded = h.bounded;
          least = each_cons {x = r} (omega (arith, leb-false)) h.least;
          found = λ l. (omega (arith, (h.found l).0), (h.found l).1);
        }

-- where the power is p, no row has x; below p, some row has it
pub unchosen_lacks : {p x : ℕ} {rs : List Row} → Each (IsRow p) rs → p ≤ (chosen p x rs).power → Each (Lacking x) rs
unchosen_lacks {p} {x} {rs} hs l =
    each_both (λ r h m. record { lacks = zero_of_kappa p (h.small x) (omega arith) }) hs (chosen_law p x rs).least

pub chosen_some : (p x : ℕ) {rs : List Row} → Each (IsRow p) rs → (chosen p x rs).power < p ↔ any_of (row_has x) rs ≡ true
chosen_some p x {rs} hs = (λ l. some l _ refl, λ e. below e _ refl)
  where
    some : (chosen p x rs).power < p → (b : Bool) → any_of (row_has x) rs ≡ b → b ≡ true
    some l true e = refl
    some l false e =
        let f : ((chosen p x rs).at < length rs) × (kappa p (coefficient (get_or rs (chosen p x rs).at zero_row) x) ≡ (chosen p x rs).power) =
        (chosen_law p x rs).found l in
        let z : coefficient (get_or rs (chosen p x rs).at zero_row) x ≡ 0 =
        (each_get _ zero_row f.0 (none_each (row_has x) row_has_lacking rs e)).lacks in
        absurd (let n : ⊥ = omega (arith, kappa_zero p, ap (kappa p) z, f.1) in n)

    below : any_of (row_has x) rs ≡ true → (b : Bool) → ltb (chosen p x rs).power p ≡ b → (chosen p x rs).power < p
    below e true t = ltb-true _ _ t
    below e false t =
        absurd (true≢false (sym e ∙ each_none (row_has x) (λ r. lacking_row_has) (unchosen_lacks hs (ltb-false _ _ t))))

-- ---- putting in what a row says of 2^k × x

-- the row t says what 2^k × x is
pub record Tells (p x k : ℕ) (t : Row) : Type 0 where
  pub row : IsRow p t
  pub word : x < most_words
  pub power : k ≤ p
  pub lead : coefficient t x ≡ 2 ^ k

-- there is nothing to replace: 2^k × x is not in it
pub data Unreplaced (p x k : ℕ) (r : Row) : Type 0 where
  unreplaced_lacks : coefficient r x ≡ 0 → Unreplaced p x k r
  unreplaced_below : kappa p (coefficient r x) < k → Unreplaced p x k r

pub record UnreplacedIn (p x k : ℕ) (c : Constraint) : Type 0 where
  pub left : Unreplaced p x k c.left
  pub right : Unreplaced p x k c.right

-- with no row to tell, only 0 × x would be replaced
pub row_unreplaced : {p x : ℕ} {r : Row} → IsRow p r → Unreplaced p x p r
row_unreplaced {p} {x} {r} h = go (leb p (kappa p (coefficient r x))) refl
  where
    go : (b : Bool) → leb p (kappa p (coefficient r x)) ≡ b → Unreplaced p x p r
    go true e = unreplaced_lacks (zero_of_kappa p (h.small x) (leb-true _ _ e))
    go false e = unreplaced_below (leb-false _ _ e)

module _ {p x k : ℕ} {t : Row} (tells : Tells p x k t) where
  pub replaced_row : {r : Row} → IsRow p r → IsRow p (replaced p x k t r)
  unfolding replaced
  replaced_row {r} h = go (leb k (kappa p (coefficient r x)))
    where
      go : (b : Bool) → IsRow p (cond b (less p (coefficient r x / 2 ^ k) t r) r)
      go true = less_row _ tells.row h
      go false = h

  pub replaced_lacks : {y : ℕ} {r : Row} → IsRow p r → y < most_words → Lacking y t → Lacking y r → Lacking y (replaced p x k t r)
  unfolding replaced
  replaced_lacks {y} {r} h l ht hr = go (leb k (kappa p (coefficient r x)))
    where
      go : (b : Bool) → Lacking y (cond b (less p (coefficient r x / 2 ^ k) t r) r)
      go true = record { lacks = less_lacks _ tells.row h _ (omega arith) ht.lacks hr.lacks }
      go false = hr

  -- where t is zero the value stays
  pub replaced_value : {r : Row} {a : List ℕ} → IsRow p r → IsZero p a t → value p (replaced p x k t r) a ≡ value p r a
  unfolding replaced
  replaced_value {r} {a} h z = go (leb k (kappa p (coefficient r x)))
    where
      q : ℕ
      q = coefficient r x / 2 ^ k

      go : (b : Bool) → value p (cond b (less p q t r) r) a ≡ value p r a
      go true = value_same p (less p q t r) r a a (lin 1 (sum_less q tells.row h a) (lin⁻ q (zero_sum z) (poly (omega arith))))
      go false = refl

  pub replaced_zero : {r : Row} {a : List ℕ} → IsRow p r → IsZero p a t → IsZero p a (replaced p x k t r) ↔ IsZero p a r
  replaced_zero h z =
      (λ y. record { zero = sym (replaced_value h z) ∙ y.zero }, λ y. record { zero = replaced_value h z ∙ y.zero })

  -- 2^k × c × x is replaced, and what 2^k does not divide stays
  pub replaced_gone : {r : Row} → IsRow p r → k ≤ kappa p (coefficient r x) → Lacking x (replaced p x k t r)
  unfolding replaced
  replaced_gone {r} h l =
      let c : ℕ = coefficient r x in
      let q : ℕ = c / 2 ^ k in
      let e : c ≡ 2 ^ k * q = quot (divides_below p k l) in
      let s : 2 ^ p ⊢ get_or (less p q t r) x 0 + q * 2 ^ k ≈ c =
      rw tells.lead at (less_at q tells.row h x (omega (arith, tells.word))) in
      let z : 2 ^ p ⊢ get_or (less p q t r) x 0 ≈ 0 = lin 1 s (poly (omega arith)) in
      rw (le-leb k (kappa p c) l) (record { lacks = ≈small z ((less_row q tells.row h).small x) (pow_pos p) })

  pub replaced_not : {r : Row} → kappa p (coefficient r x) < k → replaced p x k t r ≡ r
  unfolding replaced
  replaced_not {r} l = rw (lt-leb k (kappa p (coefficient r x)) l)

  pub replaced_unreplaced : {r : Row} → IsRow p r → Unreplaced p x k (replaced p x k t r)
  replaced_unreplaced {r} h = go (leb k (kappa p (coefficient r x))) refl
    where
      go : (b : Bool) → leb k (kappa p (coefficient r x)) ≡ b → Unreplaced p x k (replaced p x k t r)
      go true e = unreplaced_lacks (replaced_gone h (leb-true _ _ e)).lacks
      go false e = let l : kappa p (coefficient r x) < k = leb-false _ _ e in rw (replaced_not l) (unreplaced_below l)

  -- a right side that is zero stays zero
  pub replaced_zero_row : replaced p x k t zero_row ≡ zero_row
  unfolding replaced
  replaced_zero_row = go (leb k (kappa p (coefficient zero_row x)))
    where
      q : ℕ
      q = coefficient zero_row x / 2 ^ k

      none : q ≡ 0
      none = rw (coefficient_zero x) (zero-div (2 ^ k))

      go : (b : Bool) → cond b (less p q t zero_row) zero_row ≡ zero_row
      go true = rw none (less_none tells.row (zero_row_lem p))
      go false = refl

  -- ---- in both sides of a constraint

  pub replaced_in_other : {c : Constraint} → IsOther p c → IsOther p (replaced_in p x k t c)
  replaced_in_other {c} h =
      record {
        left = replaced_row h.left;
        right = replaced_row h.right;
        other = h.other;
        zero_right = λ e. ap (replaced p x k t) (h.zero_right e) ∙ replaced_zero_row;
      }

  pub replaced_in_unreplaced : {c : Constraint} → IsOther p c → UnreplacedIn p x k (replaced_in p x k t c)
  replaced_in_unreplaced h = record { left = replaced_unreplaced h.left; right = replaced_unreplaced h.right }

  pub replaced_in_lacks : {y : ℕ} {c : Constraint} → IsOther p c → y < most_words → Lacking y t → LackingIn y c
      → LackingIn y (replaced_in p x k t c)
  replaced_in_lacks h l ht hc =
      record { left = replaced_lacks h.left l ht hc.left; right = replaced_lacks h.right l ht hc.right }

  pub replaced_in_holds : {c : Constraint} {a : List ℕ} → IsOther p c → IsZero p a t → Holds p a (replaced_in p x k t c) ↔ Holds p a c
  replaced_in_holds h z = (
    λ s. record { says = rw (replaced_value h.left z, replaced_value h.right z) at s.says },
    λ s. record { says = rw (replaced_value h.left z, replaced_value h.right z) s.says },
  )

  -- ---- leaving x in t alone

  pub scaled_gone : Lacking x (scale p (2 ^ (p - k)) t)
  scaled_gone =
      let s : 2 ^ p ⊢ coefficient (scale p (2 ^ (p - k)) t) x ≈ 2 ^ (p - k) * 2 ^ k =
      rw tells.lead at (scale_at (2 ^ (p - k)) tells.row x (omega (arith, tells.word))) in
      let z : 2 ^ p ⊢ coefficient (scale p (2 ^ (p - k)) t) x ≈ 0 = ≈trans s (polym 0 1 (omega (arith, two_split tells.power))) in
      record { lacks = ≈small z ((scale_row _ tells.row).small x) (pow_pos p) }

  module _ {a : List ℕ} (ha : Values p a) where
    -- t at another value of x
    told : (v : ℕ) → sum_at t (set a x v) + 2 ^ k * get_or a x 0 ≡ sum_at t a + 2 ^ k * v
    told v = rw tells.lead at (sum_set t a x v (rw ha.sixteen tells.word))

    pub told_some : ((v : ℕ) × (v < 2 ^ p) × IsZero p (set a x v) t) ↔ IsZero p a (scale p (2 ^ (p - k)) t)
    told_some = (some, value_of)
      where
        some : ((v : ℕ) × (v < 2 ^ p) × IsZero p (set a x v) t) → IsZero p a (scale p (2 ^ (p - k)) t)
        some (v, l, z) =
            let d : 2 ^ k ⊢ sum_at t a ≈ 0 = lin 1 (two_down k tells.power (zero_sum z)) (polym v (get_or a x 0) (omega (arith, told v))) in
            sum_is_zero (≈trans (sum_scale p (2 ^ (p - k)) t a) (two_zero tells.power d))

        value_of : IsZero p a (scale p (2 ^ (p - k)) t) → (v : ℕ) × (v < 2 ^ p) × IsZero p (set a x v) t
        value_of z =
            let d : 2 ^ k ⊢ sum_at t a ≈ 0 = zero_two tells.power (≈trans (≈sym (sum_scale p (2 ^ (p - k)) t a)) (zero_sum z)) in
            let q : ℕ = sum_at t a / 2 ^ k in
            let v : ℕ = minus p (get_or a x 0) q in
            (v, minus_lt p _ _, sum_is_zero {r = t} (lin (2 ^ k) (minus_add p (get_or a x 0) q) (poly (omega (arith, told v, quot d)))))

    -- x may move by multiples of 2^(p−k)
    pub told_again : {v w : ℕ} → IsZero p (set a x v) t → 2 ^ (p - k) ⊢ w ≈ v → IsZero p (set a x w) t
    told_again {v} {w} z h =
        let e : 2 ^ k * 2 ^ (p - k) ≡ 2 ^ p = omega (arith, two_split tells.power) in
        let s : 2 ^ p ⊢ 2 ^ k * w ≈ 2 ^ k * v = rw e at (≈scale (2 ^ k) h) in
        sum_is_zero {r = t} (lin 1 (zero_sum z) (lin 1 s (poly (omega (arith, told v, told w)))))
