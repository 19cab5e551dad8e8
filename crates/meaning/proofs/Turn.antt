-- The turn of a word: the row in its place and the pending row are exchanged for a row in its place and a pending row that
-- lacks the word. The two have the same solutions as before, and what could be completed at the word still can.
use mathlib.Core.Path.{◌≡◌, refl, ap, sym, ◌∙◌}
use mathlib.Core.Logic.{◌↔◌, ⊎_elim}
use mathlib.Core.Bool.{Bool, true, false}
use mathlib.Core.List.{List}
use Prim.Native.Nat.{ℕ, zero, suc, ◌+◌, ◌*◌, ◌-◌, ◌^◌, ◌/◌, ◌≤◌, ◌<◌}
use native.Mathlib.Omega.{arith}
use native.Mathlib.Nat.{eq-or-lt_of_le, le_of_suc-le-suc}
use lib.Pow.{pow_pos, pow-lt}
use lib.Dec.{leb}
use lib.ListN.{set, get_or}
use lib.Seq.{set-set}
use borrow.Author.Tests.{leb-true, leb-false}
use Rattle.meaning.specs.Number.{minus, kappa, inverse}
use Rattle.meaning.specs.Row.{Row, IsRow, most_words, coefficient, less, scale, unit}
use Rattle.meaning.specs.Sheet.{Values}
use Rattle.meaning.specs.Form.{PowerBelow}
use Rattle.meaning.specs.Tidy.{Turn, turn_by, turn}
use Rattle.meaning.proofs.Congruence.{◌⊢◌≈◌, ≈small, lin, lin⁻, poly, polym, quot}
use Rattle.meaning.proofs.Two.{two_split, two_down, zero_two, minus_lt, minus_add, inverse_law}
use Rattle.meaning.proofs.Kappa.{kappa_le, kappa_zero, kappa_power, kappa_split, divides_below, Split}
use Rattle.meaning.proofs.Value.{sum_at, sum_less, sum_scale, sum_set, sum_lacks, less_row, scale_row, less_at, scale_at, scale_none, coefficient_zero, set_values}
use Rattle.meaning.proofs.Working.{IsZero, zero_sum, sum_is_zero}
use Rattle.meaning.proofs.Basis.{Lead, empty, leads, Place, Extends}

-- ---- rows that are zero at a

module _ {p : ℕ} {a : List ℕ} where
  -- where s is zero, r is just if r less a multiple of s is
  pub less_zero : (q : ℕ) {s r : Row} → IsRow p s → IsRow p r → IsZero p a s → IsZero p a r ↔ IsZero p a (less p q s r)
  less_zero q hs hr zs =
      let e = sum_less q hs hr a in (
        λ z. sum_is_zero (lin 1 e (lin⁻ q (zero_sum zs) (lin 1 (zero_sum z) (poly (omega arith))))),
        λ z. sum_is_zero (lin⁻ 1 e (lin q (zero_sum zs) (lin 1 (zero_sum z) (poly (omega arith))))),
      )

-- ---- words that rows lack

pub less_lacks : {p : ℕ} (q : ℕ) {s r : Row} → IsRow p s → IsRow p r → (i : ℕ) → i ≤ most_words → coefficient s i ≡ 0 → coefficient r i ≡ 0
    → coefficient (less p q s r) i ≡ 0
less_lacks {p} q hs hr i l es er =
    ≈small (lin 1 (less_at q hs hr i l) (lin⁻ q (poly es) (lin 1 (poly er) (poly (omega arith))))) ((less_row q hs hr).small i) (pow_pos p)

-- a row that lacks the words before x
pub record Later (p x : ℕ) (r : Row) : Type 0 where
  pub row : IsRow p r
  pub lacks : (i : ℕ) → i < x → coefficient r i ≡ 0

place_later : {p x : ℕ} {s : Row} → Place p x s → Later p x s
place_later h = record { row = h.row; lacks = h.lacks }

-- a difference that clears x
less_later : {p x : ℕ} (q : ℕ) {s r : Row} → x < most_words → Later p x s → Later p x r → 2 ^ p ⊢ q * coefficient s x ≈ coefficient r x
    → Later p (suc x) (less p q s r)
less_later {p} {x} q {s} {r} l hs hr e =
    let row : IsRow p (less p q s r) = less_row q hs.row hr.row in
    let clear : coefficient (less p q s r) x ≡ 0 =
    ≈small (lin 1 (less_at q hs.row hr.row x (omega arith)) (lin⁻ 1 e (poly (omega arith)))) (row.small x) (pow_pos p) in
    let before : (i : ℕ) → i < x → coefficient (less p q s r) i ≡ 0 =
    λ i b. less_lacks q hs.row hr.row i (omega arith) (hs.lacks i b) (hr.lacks i b) in
    let at : (i : ℕ) → i ≡ x → coefficient (less p q s r) i ≡ 0 = λ i h. ap (coefficient (less p q s r)) h ∙ clear in
    record { row = row; lacks = λ i b. ⊎_elim (at i) (before i) (eq-or-lt_of_le (le_of_suc-le-suc b)) }

-- ---- the row times the inverse of the odd part of its coefficient

module _ {p : ℕ} (x : ℕ) {r : Row} where
  pub unit_row : IsRow p r → IsRow p (unit p x r)
  unfolding unit
  unit_row h = scale_row _ h

  pub unit_lacks : IsRow p r → (i : ℕ) → i ≤ most_words → coefficient r i ≡ 0 → coefficient (unit p x r) i ≡ 0
  unfolding unit
  unit_lacks h i l e = scale_none _ h i l e

  module _ (below : kappa p (coefficient r x) < p) where
    pub unit_power : IsRow p r → x ≤ most_words → coefficient (unit p x r) x ≡ 2 ^ kappa p (coefficient r x)
    unfolding unit
    unit_power h l =
        let k : ℕ = kappa p (coefficient r x) in
        let o : ℕ = coefficient r x / 2 ^ k in
        let s : Split (coefficient r x) k o = kappa_split p (coefficient r x) below in
        let u : ℕ = inverse p o in
        let c : 2 ^ p ⊢ coefficient (scale p u r) x ≈ 2 ^ k =
        lin 1 (scale_at u h x l) (lin u (poly s.is) (lin (2 ^ k) (inverse_law p s.odd) (poly (omega arith)))) in
        ≈small c ((scale_row u h).small x) (pow-lt below)

    pub unit_zero : {a : List ℕ} → IsZero p a r ↔ IsZero p a (unit p x r)
    unfolding unit
    unit_zero {a} =
        let o : ℕ = coefficient r x / 2 ^ kappa p (coefficient r x) in
        let u : ℕ = inverse p o in
        let i : 2 ^ p ⊢ o * u ≈ 1 = inverse_law p (kappa_split p (coefficient r x) below).odd in
        let e : 2 ^ p ⊢ sum_at (scale p u r) a ≈ u * sum_at r a = sum_scale p u r a in (
          λ z. sum_is_zero (lin 1 e (lin u (zero_sum z) (poly (omega arith)))),
          λ z. sum_is_zero (lin⁻ o e (lin o (zero_sum z) (lin⁻ (sum_at r a) i (poly (omega arith))))),
        )

    unit_place : x < most_words → Later p x r → Place p x (unit p x r)
    unit_place l h =
        record {
          row = unit_row h.row;
          lacks = λ i b. unit_lacks h.row i (omega arith) (h.lacks i b);
          lead = leads (record { exponent = kappa p (coefficient r x); bounded = below; power = unit_power h.row (omega arith) });
        }

-- ---- the power of a place, 2 ^ p where it has zeros

pub power_own : {p c : ℕ} → PowerBelow p c → c ≡ 2 ^ kappa p c
power_own {p} w = w.power ∙ ap (λ (k : ℕ). 2 ^ k) (sym (ap (kappa p) w.power ∙ kappa_power p w.exponent w.bounded))

pub place_power : {p x : ℕ} {s : Row} → Place p x s → 2 ^ p ⊢ coefficient s x ≈ 2 ^ kappa p (coefficient s x)
place_power {p} {x} {s} h = go h.lead
  where
    nothing : (c : ℕ) → c ≡ 0 → 2 ^ p ⊢ c ≈ 2 ^ kappa p c
    nothing zero e = rw (kappa_zero p) (polym 1 0 (omega arith))
    nothing (suc c) e = absurd (let n : ⊥ = omega arith in n)

    go : Lead p x s → 2 ^ p ⊢ coefficient s x ≈ 2 ^ kappa p (coefficient s x)
    go (empty e) = nothing (coefficient s x) (ap (λ (r : Row). coefficient r x) e ∙ coefficient_zero x)
    go (leads w) = poly (power_own w)

-- what the power of x divides is made zero by x
pub extends_divides : {p x : ℕ} {a : List ℕ} {t : Row} (j : ℕ) → Values p a → x < most_words → coefficient t x ≡ 2 ^ j → 2 ^ j ⊢ sum_at t a ≈ 0
    → Extends p x a t
extends_divides {p} {x} {a} {t} j values l e d =
    let o : ℕ = get_or a x 0 in
    let w : ℕ = sum_at t a / 2 ^ j in
    let v : ℕ = minus p o w in
    let same : sum_at t (set a x v) + 2 ^ j * o ≡ sum_at t a + 2 ^ j * v = rw e at (sum_set t a x v (rw values.sixteen l)) in
    record { value = v; small = minus_lt p o w; zero = sum_is_zero (lin (2 ^ j) (minus_add p o w) (poly (omega (arith, quot d)))) }

extends_set : {p x : ℕ} {t : Row} (a : List ℕ) (v : ℕ) → Extends p x (set a x v) t → Extends p x a t
extends_set {p} {x} {t} a v h =
    record { value = h.value; small = h.small; zero = rw (set-set a x v h.value) at h.zero }

-- a row that leads with less than another can be completed where the other can and what it leaves of the other is zero
extends_less : {p x k j : ℕ} {s t : Row} {a : List ℕ} → x < most_words → j ≤ k → k ≤ p → IsRow p s → IsRow p t → coefficient t x ≡ 2 ^ j
    → coefficient (less p (2 ^ (k - j)) t s) x ≡ 0
    → Values p a → Extends p x a s → IsZero p a (less p (2 ^ (k - j)) t s) → Extends p x a t
extends_less {p} {x} {k} {j} {s} {t} {a} l jk kp hs ht power gone values e z =
    let b : List ℕ = set a x e.value in
    let n : Row = less p (2 ^ (k - j)) t s in
    let left : 2 ^ p ⊢ sum_at n b ≈ 0 = rw (sum_lacks n a x e.value (rw values.sixteen l) gone) (zero_sum z) in
    let d : 2 ^ p ⊢ 2 ^ (k - j) * sum_at t b ≈ 0 =
    lin 1 (sum_less (2 ^ (k - j)) ht hs b) (lin⁻ 1 left (lin 1 (zero_sum e.zero) (poly (omega arith)))) in
    extends_set a e.value (extends_divides j (set_values x e.value e.small values) l power (zero_two jk (two_down k kp d)))

-- ---- the turn

pub record Turned (p x : ℕ) (s r : Row) (t : Turn) : Type 0 where
  pub place : Place p x t.place
  pub pending : Later p (suc x) t.pending
  pub absent : (i : ℕ) → i ≤ most_words → coefficient s i ≡ 0 → coefficient r i ≡ 0
      → (coefficient t.place i ≡ 0) × (coefficient t.pending i ≡ 0)
  pub zeros : {a : List ℕ} → (IsZero p a s × IsZero p a r) ↔ (IsZero p a t.place × IsZero p a t.pending)
  pub extends : {a : List ℕ} → Values p a → Extends p x a s → IsZero p a t.pending → Extends p x a t.place

module _ {p x : ℕ} {s r : Row} (l : x < most_words) (hs : Place p x s) (hr : Later p x r) where
  -- s stays
  turned_old : kappa p (coefficient s x) ≤ kappa p (coefficient r x) → Turned p x s r (turn_by true p x s r)
  unfolding turn_by
  turned_old k =
      let q : ℕ = coefficient r x / 2 ^ kappa p (coefficient s x) in
      let e : 2 ^ p ⊢ q * coefficient s x ≈ coefficient r x = lin q (place_power hs) (poly (omega (arith, quot (divides_below p _ k)))) in
      record {
        place = hs;
        pending = less_later q l (place_later hs) hr e;
        absent = λ i b es er. (es, less_lacks q hs.row hr.row i b es er);
        zeros = (
          λ z. (z.0, (less_zero q hs.row hr.row z.0).0 z.1),
          λ z. (z.0, (less_zero q hs.row hr.row z.0).1 z.1),
        );
        extends = λ v e z. e;
      }

  -- r stays, as its unit
  turned_new : kappa p (coefficient r x) < kappa p (coefficient s x) → Turned p x s r (turn_by false p x s r)
  unfolding turn_by
  turned_new k =
      let j : ℕ = kappa p (coefficient r x) in
      let f : ℕ = 2 ^ (kappa p (coefficient s x) - j) in
      let t : Row = unit p x r in
      let below : j < p = omega (arith, kappa_le p (coefficient s x)) in
      let place : Place p x t = unit_place x below l hr in
      let lacks : (i : ℕ) → i ≤ most_words → coefficient r i ≡ 0 → coefficient t i ≡ 0 = unit_lacks x hr.row in
      let power : coefficient t x ≡ 2 ^ j = unit_power x below hr.row (omega arith) in
      let split : f * 2 ^ j ≡ 2 ^ kappa p (coefficient s x) = two_split (omega arith) in
      let e : 2 ^ p ⊢ f * coefficient t x ≈ coefficient s x = lin f (poly power) (lin⁻ 1 (place_power hs) (poly (omega arith))) in
      let pending : Later p (suc x) (less p f t s) = less_later f l (place_later place) (place_later hs) e in
      record {
        place = place;
        pending = pending;
        absent = λ i b es er. (lacks i b er, less_lacks f place.row hs.row i b (lacks i b er) es);
        zeros = (
          λ z. let zt = (unit_zero x below).0 z.1 in (zt, (less_zero f place.row hs.row zt).0 z.0),
          λ z. ((less_zero f place.row hs.row z.0).1 z.1, (unit_zero x below).1 z.0),
        );
        extends = λ v e z. extends_less l (omega arith) (kappa_le p _) hs.row place.row power (pending.lacks x (omega arith)) v e z;
      }

  pub turned : Turned p x s r (turn p x s r)
  unfolding turn
  turned = go _ refl
    where
      go : (b : Bool) → leb (kappa p (coefficient s x)) (kappa p (coefficient r x)) ≡ b → Turned p x s r (turn_by b p x s r)
      go true e = turned_old (leb-true _ _ e)
      go false e = turned_new (leb-false _ _ e)
