-- What Howell's property gives. Solutions are completed word by word; a row is zero at every solution just if it is lowered
-- to zero; and two reduced bases with the same solutions are equal.
use mathlib.Core.Path.{◌≡◌, refl, ap, ap₂, sym, ◌∙◌}
use mathlib.Core.Logic.{◌↔◌, ◌≢◌, ⊎_elim}
use mathlib.Core.List.{List, [], ◌∷◌, ◌++◌}
use Prim.Native.Nat.{ℕ, zero, suc, ◌+◌, ◌*◌, ◌-◌, ◌%◌, ◌^◌, ◌≤◌, ◌<◌}
use native.Mathlib.Omega.{arith}
use native.Mathlib.Nat.{mod-lt, le_antisymm, eq-or-lt_of_le}
use lib.Pow.{pow_pos}
use lib.ListN.{length, get_or, set, drop, replicate}
use lib.Seq.{get_or-set_other, drop-length, set-set, set-get_or}
use Rattle.meaning.specs.Lists.{Each, each_nil, each_cons}
use Rattle.meaning.specs.Number.{kappa}
use Rattle.meaning.specs.Row.{Row, IsRow, most_words, coefficient, zero_row, dot, value}
use Rattle.meaning.specs.Sheet.{Values}
use Rattle.meaning.specs.Tidy.{lowered}
use Rattle.meaning.proofs.Members.{each_head, each_tail}
use Rattle.meaning.proofs.Congruence.{◌⊢◌≈◌, ≈sym, ≈trans, ≈mod, ≈small, poly, polym, lin, lin⁻}
use Rattle.meaning.proofs.Two.{two_down, two_in, two_out}
use Rattle.meaning.proofs.Kappa.{kappa_le, kappa_greatest}
use Rattle.meaning.proofs.Value.{zero_row_lem, coefficient_zero, row_ext, sum_at, value_sum, sum_zero, sum_set, set_values}
use Rattle.meaning.proofs.Working.{IsZero, zero_sum, sum_is_zero}
use Rattle.meaning.proofs.Basis.{Place, Extends, Howell, howell_nil, howell_cons}
use Rattle.meaning.proofs.Reduce.{zeros_set, lead_at, lead_is, later_lack}
use Rattle.meaning.proofs.Reduce.{lowered_row, lowered_sum, lowered_before, lowered_below}
use Rattle.meaning.proofs.Reduce.{Below, below_nil, below_cons, Reduced, reduced_nil, reduced_cons}

-- ---- small things

pub up_to : {P : ℕ → Type 0} {x : ℕ} → ((i : ℕ) → i < x → P i) → P x → (i : ℕ) → i < suc x → P i
up_to {P} {x} before here i l = ⊎_elim (λ (e : i ≡ x). rw e here) (λ b. before i b) (eq-or-lt_of_le (let w : i ≤ x = omega arith in w))

-- factors 2 ^ k go out of a congruence modulo 2 ^ p, and come in
power_cancel : {k p a b : ℕ} → k ≤ p → 2 ^ p ⊢ 2 ^ k * a ≈ 2 ^ k * b ↔ 2 ^ (p - k) ⊢ a ≈ b
power_cancel {k} {p} h =
    let back : p - (p - k) ≡ k = omega arith in
    (λ e. two_out {k = p - k} {p = p} (omega arith) (rw back e), λ e. rw back at (two_in {k = p - k} {p = p} (omega arith) e))

pub in_values : {p : ℕ} {a : List ℕ} {x : ℕ} → Values p a → x < most_words → x < length a
in_values {a = a} v l = let e : length a ≡ 16 = v.sixteen in omega arith

pub zero_values : (p : ℕ) → Values p (replicate most_words 0)
zero_values p = record { sixteen = refl; small = λ x. rw (coefficient_zero (suc x)) (pow_pos p) }

howell_in : {p x : ℕ} {s : Row} {ss : List Row} → Howell p x (s ∷ ss) → x < most_words
howell_in (howell_cons l h ext H) = l

howell_end : {p x : ℕ} {ss : List Row} → most_words ≤ x → Howell p x ss → ss ≡ []
howell_end l howell_nil = refl
howell_end l (howell_cons b h ext H) = absurd (let n : ⊥ = omega arith in n)

-- ---- completing

-- a solution of the later places has a value of this word
pub complete_one : {p x : ℕ} {s : Row} {ss : List Row} {a : List ℕ} → Howell p x (s ∷ ss) → Values p a → Each (IsZero p a) ss
    → (v : ℕ) × (v < 2 ^ p) × Each (IsZero p (set a x v)) (s ∷ ss)
complete_one {p} {x} {s} {ss} {a} (howell_cons l h ext H) fit zs =
    let e : Extends p x a s = ext a fit zs in
    (e.value, e.small, each_cons e.zero (zeros_set x e.value (in_values fit l) (later_lack x (omega arith) H) zs))

-- a, changed at no words but the n from x on, where all the places are zero
pub record Completion (p x n : ℕ) (a : List ℕ) (ss : List Row) : Type 0 where
  pub values : List ℕ
  pub fit : Values p values
  pub before : (i : ℕ) → i < x → get_or values i 0 ≡ get_or a i 0
  pub after : (i : ℕ) → x + n ≤ i → get_or values i 0 ≡ get_or a i 0
  pub zeros : Each (IsZero p values) ss

-- a solution of the places behind the first n is completed to one of them all
pub complete : {p x : ℕ} {ss : List Row} {a : List ℕ} (n : ℕ) → Howell p x ss → Values p a → Each (IsZero p a) (drop n ss)
    → Completion p x n a ss
complete {a = a} zero H fit zs = record { values = a; fit = fit; before = λ i l. refl; after = λ i l. refl; zeros = zs }
complete {a = a} (suc n) howell_nil fit zs = record { values = a; fit = fit; before = λ i l. refl; after = λ i l. refl; zeros = each_nil }
complete {p} {x} {ss} {a} (suc n) (howell_cons {s = s} {ss = ts} l h ext H) fit zs = go (complete n H fit zs)
  where
    go : Completion p (suc x) n a ts → Completion p x (suc n) a (s ∷ ts)
    go c =
        let (v, small, zeros) = complete_one (howell_cons l h ext H) c.fit c.zeros in
        let other : (i : ℕ) → i ≢ x → get_or (set c.values x v) i 0 ≡ get_or c.values i 0 = λ i d. get_or-set_other c.values x i v 0 d in
        record {
          values = set c.values x v;
          fit = set_values x v small c.fit;
          before = λ i b. other i (omega arith) ∙ c.before i (omega arith);
          after = λ i b. other i (omega arith) ∙ c.after i (omega arith);
          zeros = zeros;
        }

-- so any values before word x belong to a solution
pub extend : {p x : ℕ} {ss : List Row} {a : List ℕ} → Howell p x ss → Values p a → Completion p x (length ss) a ss
extend {ss = ss} H v = complete (length ss) H v (rw (drop-length ss) each_nil)

-- where a place is zero, it is zero for the values of its word that are congruent modulo 2 ^ (p - k), and for no others
pub freedom : {p x : ℕ} {s : Row} {a : List ℕ} (v : ℕ) → x < most_words → Place p x s → Values p a → IsZero p a s
    → IsZero p (set a x v) s ↔ 2 ^ (p - kappa p (coefficient s x)) ⊢ v ≈ get_or a x 0
freedom {p} {x} {s} {a} v l h fit z =
    let m : ℕ = lead_at p x s in
    let w : ℕ = get_or a x 0 in
    let kp : kappa p (coefficient s x) ≤ p = kappa_le p (coefficient s x) in
    let moved : 2 ^ p ⊢ sum_at s (set a x v) + m * w ≈ m * v =
    lin v (lead_is h) (lin⁻ w (lead_is h) (lin 1 (poly (sum_set s a x v (in_values fit l))) (lin 1 (zero_sum z) (poly (omega arith))))) in (
      λ z'. (power_cancel kp).0 (lin⁻ 1 moved (lin 1 (zero_sum z') (poly (omega arith)))),
      λ e. sum_is_zero (lin 1 moved (lin 1 ((power_cancel kp).1 e) (poly (omega arith)))),
    )

-- so by such values one solution of the places from x on becomes another
pub zeros_move : {p x : ℕ} {s : Row} {ss : List Row} {a : List ℕ} (v : ℕ) → Howell p x (s ∷ ss) → Values p a
    → Each (IsZero p a) (s ∷ ss) → 2 ^ (p - kappa p (coefficient s x)) ⊢ v ≈ get_or a x 0 → Each (IsZero p (set a x v)) (s ∷ ss)
zeros_move {x = x} v (howell_cons l h ext H) fit (each_cons z zs) e =
    each_cons ((freedom v l h fit z).1 e) (zeros_set x v (in_values fit l) (later_lack x (omega arith) H) zs)

-- ---- rows with the same values at all solutions

pub record Agree (p : ℕ) (ss : List Row) (r t : Row) : Type 0 where
  pub at : (a : List ℕ) → Values p a → Each (IsZero p a) ss → 2 ^ p ⊢ sum_at r a ≈ sum_at t a

-- word x moved by e
sum_shift : {m w : ℕ} (r a : List ℕ) (x e : ℕ) → x < length a → m ⊢ w ≈ get_or a x 0 + e
    → m ⊢ sum_at r (set a x w) ≈ sum_at r a + coefficient r x * e
sum_shift {m} {w} r a x e l h = lin 1 (poly (sum_set r a x w l)) (lin (coefficient r x) h (poly (omega arith)))

-- they agree in the word's coefficient, as far as its place's lead tells
agree_lead : {p x : ℕ} {s : Row} {ss : List Row} {r t : Row} → Howell p x (s ∷ ss) → Agree p (s ∷ ss) r t
    → lead_at p x s ⊢ coefficient r x ≈ coefficient t x
agree_lead {p} {x} {s} {ss} {r} {t} H e =
    let k : ℕ = kappa p (coefficient s x) in
    let step : ℕ = 2 ^ (p - k) in
    let c = extend H (zero_values p) in
    let a : List ℕ = c.values in
    let w : ℕ = (get_or a x 0 + step) % 2 ^ p in
    let near : step ⊢ w ≈ get_or a x 0 = ≈trans (two_down (p - k) (omega arith) (≈mod (get_or a x 0 + step))) (polym 0 1 (omega arith)) in
    let at-w = e.at (set a x w) (set_values x w (mod-lt _ (pow_pos p)) c.fit) (zeros_move w H c.fit c.zeros near) in
    let sum-w : (q : Row) → 2 ^ p ⊢ sum_at q (set a x w) ≈ sum_at q a + coefficient q x * step =
    λ q. sum_shift q a x step (in_values c.fit (howell_in H)) (≈mod _) in
    let at_a = e.at a c.fit c.zeros in
    two_out (kappa_le p (coefficient s x)) (lin⁻ 1 (sum-w r) (lin 1 (sum-w t) (lin⁻ 1 at_a (lin 1 at-w (poly (omega arith))))))

agree_later : {p x : ℕ} {s : Row} {ss : List Row} {r t : Row} → Howell p x (s ∷ ss) → Agree p (s ∷ ss) r t
    → coefficient r x ≡ coefficient t x → Agree p ss r t
agree_later {p} {x} {s} {ss} {r} {t} H e c =
    record {
      at = λ a fit zs.
          let (v, small, zs') = complete_one H fit zs in
          let l : x < length a = in_values fit (howell_in H) in
          let t-set : sum_at t (set a x v) + coefficient r x * get_or a x 0 ≡ sum_at t a + coefficient r x * v = rw c (sum_set t a x v l) in
          let at-v = e.at (set a x v) (set_values x v small fit) zs' in
          lin⁻ 1 (poly (sum_set r a x v l)) (lin 1 (poly t-set) (lin 1 at-v (poly (omega arith))));
    }

dot_last : (n : ℕ) (r : Row) → dot r (replicate n 0 ++ (1 ∷ [])) ≡ get_or r n 0
dot_last zero [] = refl
dot_last (suc n) [] = refl
dot_last zero (c ∷ []) = omega arith
dot_last zero (c ∷ d ∷ r) = omega arith
dot_last (suc n) (c ∷ r) = omega (arith, dot_last n r)

pub sum_dot : (p : ℕ) (r : Row) (a : List ℕ) → 2 ^ p ⊢ sum_at r a ≈ dot r (a ++ (1 ∷ []))
unfolding value
sum_dot p r a = record { eq = sym (value_sum p r a) }

sum_at_zeros : (p : ℕ) (r : Row) → 2 ^ p ⊢ get_or r most_words 0 ≈ sum_at r (replicate most_words 0)
sum_at_zeros p r = ≈trans (poly (sym (dot_last most_words r))) (≈sym (sum_dot p r (replicate most_words 0)))

-- and if each coefficient is below its place's lead, they are equal
agree_equal : {p x : ℕ} {ss : List Row} {r t : Row} → Howell p x ss → IsRow p r → IsRow p t → Below p x ss r → Below p x ss t
    → ((i : ℕ) → i < x → coefficient r i ≡ coefficient t i) → Agree p ss r t → r ≡ t
agree_equal {p} {x} {ss} {r} {t} howell_nil hr ht below_nil below_nil before e = row_ext hr ht at
  where
    at : (i : ℕ) → i ≤ most_words → 2 ^ p ⊢ get_or r i 0 ≈ get_or t i 0
    at i l = ⊎_elim
        (λ q. rw q (≈trans (sum_at_zeros p r) (≈trans (e.at (replicate most_words 0) (zero_values p) each_nil) (≈sym (sum_at_zeros p t)))))
        (λ b. poly (before i b)) (eq-or-lt_of_le l)
agree_equal {p} {x} {ss} {r} {t} (howell_cons l h ext H) hr ht (below_cons b br) (below_cons d bt) before e =
    let K = howell_cons l h ext H in
    let here : coefficient r x ≡ coefficient t x = ≈small (agree_lead K e) b d in
    agree_equal H hr ht br bt (up_to before here) (agree_later K e here)

-- ---- duality

-- the row is zero at every solution
pub record Follows (p : ℕ) (ss : List Row) (r : Row) : Type 0 where
  pub at : (a : List ℕ) → Values p a → Each (IsZero p a) ss → IsZero p a r

follows_zero : {p : ℕ} {ss : List Row} {r : Row} → Follows p ss r → Agree p ss r zero_row
follows_zero f = record { at = λ a fit zs. ≈trans (zero_sum (f.at a fit zs)) (poly (sym (sum_zero a))) }

pub zero_below : (p x : ℕ) (ss : List Row) → Below p x ss zero_row
zero_below p x [] = below_nil
zero_below p x (s ∷ ss) =
    let first : coefficient zero_row x < lead_at p x s = rw (coefficient_zero x) (pow_pos (kappa p (coefficient s x))) in
    below_cons first (zero_below p (suc x) ss)

-- a row without the words before x is zero at every solution of the places from x on just if they lower it to zero
pub dual : {p x : ℕ} {ss : List Row} {r : Row} → Howell p x ss → IsRow p r → ((i : ℕ) → i < x → coefficient r i ≡ 0)
    → Follows p ss r ↔ (lowered p x ss r ≡ zero_row)
dual {p} {x} {ss} {r} H h lacks = (
  λ f. agree_equal H (lowered_row H h) (zero_row_lem p) (lowered_below H h) (zero_below p x ss)
      (λ i l. lowered_before i l H h ∙ lacks i l ∙ sym (coefficient_zero i))
      (record { at = λ a fit zs. ≈trans (lowered_sum H h zs) ((follows_zero f).at a fit zs) }),
  λ e. record { at = λ a fit zs. sum_is_zero (≈trans (≈sym (lowered_sum H h zs)) (rw e (poly (sum_zero a)))) },
)

-- ---- uniqueness

pub record SameSolutions (p : ℕ) (ss ts : List Row) : Type 0 where
  pub forth : (a : List ℕ) → Values p a → Each (IsZero p a) ss → Each (IsZero p a) ts
  pub back : (a : List ℕ) → Values p a → Each (IsZero p a) ts → Each (IsZero p a) ss

-- a value of this word makes a solution of the later places one of all, and back the later ones lack it
later_solves : {p x : ℕ} {s t : Row} {ss ts : List Row} → Howell p x (s ∷ ss) → Howell p (suc x) ts
    → ((a : List ℕ) → Values p a → Each (IsZero p a) (s ∷ ss) → Each (IsZero p a) (t ∷ ts))
    → (a : List ℕ) → Values p a → Each (IsZero p a) ss → Each (IsZero p a) ts
later_solves {p} {x} {ts = ts} H K to a fit zs =
    let (v, small, zs') = complete_one H fit zs in
    let fit' : Values p (set a x v) = set_values x v small fit in
    let back : set (set a x v) x (get_or a x 0) ≡ a = set-set a x v (get_or a x 0) ∙ set-get_or a x 0 in
    let ts-zero : Each (IsZero p (set a x v)) ts = each_tail (to (set a x v) fit' zs') in
    rw back at (zeros_set x (get_or a x 0) (in_values fit' (howell_in H)) (later_lack x (omega arith) K) ts-zero)

-- a row that is zero at every solution has this word by a multiple of its place's lead
pub lead_divides : {p x : ℕ} {s : Row} {ss : List Row} {r : Row} → Howell p x (s ∷ ss) → Follows p (s ∷ ss) r
    → lead_at p x s ⊢ coefficient r x ≈ 0
lead_divides {x = x} H f = ≈trans (agree_lead H (follows_zero f)) (poly (coefficient_zero x))

-- so rows of one place that are zero at each other's solutions have the same lead
same_lead : {p x : ℕ} {s t : Row} {ss ts : List Row} → Howell p x (s ∷ ss) → Howell p x (t ∷ ts) → Place p x s → Place p x t
    → Follows p (s ∷ ss) t → Follows p (t ∷ ts) s → coefficient s x ≡ coefficient t x
same_lead {p} {x} {s} {t} H K hs ht f g =
    let same : kappa p (coefficient s x) ≡ kappa p (coefficient t x) =
    le_antisymm (kappa_greatest p _ (kappa_le p _) (lead_divides H f)) (kappa_greatest p _ (kappa_le p _) (lead_divides K g)) in
    ≈small (≈trans (lead_is hs) (≈trans (poly (ap (λ (k : ℕ). 2 ^ k) same)) (≈sym (lead_is ht)))) (hs.row.small x) (ht.row.small x)

pub howell_unique : {p x : ℕ} {ss ts : List Row} → Howell p x ss → Reduced p x ss → Howell p x ts → Reduced p x ts
    → SameSolutions p ss ts → ss ≡ ts
howell_unique howell_nil reduced_nil K S e = sym (howell_end (omega arith) K)
howell_unique (howell_cons l h ext H) R howell_nil S e = absurd (let n : ⊥ = omega arith in n)
howell_unique {p} {x} (howell_cons {s = s} {ss = ss} l h ext H) (reduced_cons b R)
    (howell_cons {s = t} {ss = ts} l' h' ext' K) (reduced_cons b' S) e =
    let Hs : Howell p x (s ∷ ss) = howell_cons l h ext H in
    let Ht : Howell p x (t ∷ ts) = howell_cons l' h' ext' K in
    let later : ss ≡ ts = howell_unique H R K S (record { forth = later_solves Hs K e.forth; back = later_solves Ht H e.back }) in
    let t-follows : Follows p (s ∷ ss) t = record { at = λ a fit zs. each_head (e.forth a fit zs) } in
    let s-follows : Follows p (t ∷ ts) s = record { at = λ a fit zs. each_head (e.back a fit zs) } in
    let here : coefficient s x ≡ coefficient t x = same_lead Hs Ht h h' t-follows s-follows in
    let both_zero : Agree p (s ∷ ss) s t =
    record { at = λ a fit zs. ≈trans (zero_sum (each_head zs)) (≈sym (zero_sum (t-follows.at a fit zs))) } in
    let upto-x = up_to (λ i q. h.lacks i q ∙ sym (h'.lacks i q)) here in
    ap₂ ◌∷◌ (agree_equal H h.row h'.row b (rw later b') upto-x (agree_later Hs both_zero here)) later
