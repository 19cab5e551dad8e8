-- Reading a sheet: the numbers of a term one after the other, and the constraints one after the other into the working sheet.
use Rattle.std.proofs.Common.{ℕ, zero, suc, ◌+◌, ◌-◌, ◌*◌, ◌≤◌, ◌<◌, ◌≡◌, ◌≢◌, refl, ap, ap₂, ◌∙◌, Bool, true, false, cond, eqb, ne_eqb}
use Rattle.std.proofs.Common.{List, [], ◌∷◌, ◌++◌, length, get_or, set, take, drop, replicate, length-append, append_assoc, append-nil}
use Rattle.std.proofs.Common.{add-zero, mul-le-mul_right, add-one, arith}
use Rattle.std.proofs.lemmas.List.{set_at, map-append, length-replicate, drop-replicate, replicate_more}
use Rattle.std.proofs.lemmas.Grind.{take-set_at}
use Rattle.meaning.specs.Lists.{Each, each_cons}
use Rattle.meaning.specs.Row.{Row}
use Rattle.meaning.specs.Sheet.{Constraint, below}
use Rattle.meaning.specs.Tidy.{difference, equalities, against_zero, others, working}
use Rattle.meaning.specs.Bytes.{stride, size_of, width_in, words_in, constraints_in, number_at, numbers_at, term_at}
use Rattle.meaning.specs.Bytes.{constraint_at, constraints_at, sheet_in}
use Rattle.meaning.specs.Refusal.{equal_count}
use Rattle.meaning.specs.Accepted.{Headed, Readable}
use Rattle.meaning.proofs.Bytes.{numbers_at_snoc, constraints_at_snoc, length_numbers_at, length_constraints_at}
use Rattle.sheet.specs.Kind.{kind_number}
use Rattle.sheet.specs.Work.{constraint_of, constraints_of, equalities_of}
use Rattle.sheet.specs.declared.constraint.Constraint.{Constraint as Held}
use Rattle.sheet.specs.declared.Equalities.{Equalities}

-- ---- a term: its coefficients, one after the other, and its constant behind the zeros

pub numbers_started : (b : List ℕ) (i : ℕ) → [] ≡ numbers_at b i 0
unfolding numbers_at
numbers_started b i = refl

pub numbers_next : (b : List ℕ) (i k : ℕ) (xs : List ℕ) {v : ℕ} → k < length xs → take k xs ≡ numbers_at b i k
    → v ≡ number_at b (i + 4 * k) → take (k + 1) (set xs k v) ≡ numbers_at b i (k + 1)
numbers_next b i k xs {v} h e f = rw (take-set_at xs k (k + 1) v refl h, e, f, add-one k, numbers_at_snoc b i k) refl

pub term_read : (b : List ℕ) (n i : ℕ) (xs : List ℕ) {v : ℕ} → n ≤ 16 → xs ≡ numbers_at b i n
    → v ≡ number_at b (i + 4 * n) → set (xs ++ drop n (replicate 17 0)) 16 v ≡ term_at b n i
unfolding term_at
term_read b n i xs h e f =
    let one : 17 - n ≡ 16 - n + 1 = omega arith in
    let front : List ℕ = numbers_at b i n ++ replicate (16 - n) 0 in
    let long : length front ≡ 16 = simp (length-append, length_numbers_at, length-replicate) (omega arith) in
    rw (e, f, drop-replicate {X = ℕ} n 17 0, one, ← replicate_more {X = ℕ} (16 - n) 0, ← append_assoc, ← append_assoc)
    (set_at front 0 [] (number_at b (i + 4 * n)) 16 long)

-- ---- the constraints of two lists, one behind the other

-- a list that is one of two, with something behind it
cond_append : {A : Type 0} (b : Bool) (xs ys zs : List A) {us vs : List A}
    → us ≡ xs ++ zs → vs ≡ ys ++ zs → cond b us vs ≡ cond b xs ys ++ zs
cond_append true xs ys zs e f = e
cond_append false xs ys zs e f = f

module _ (p : ℕ) (ds : List Constraint) where
  equalities_append : (cs : List Constraint) → equalities p (cs ++ ds) ≡ equalities p cs ++ equalities p ds
  unfolding equalities
  equalities_append [] = refl
  equalities_append (c ∷ cs) =
      let e = equalities_append cs in
      cond_append (eqb c.kind 0) (difference p c ∷ equalities p cs) (equalities p cs) (equalities p ds)
      (ap {B = List Row} (λ rs. difference p c ∷ rs) e) e

  others_append : (cs : List Constraint) → others p (cs ++ ds) ≡ others p cs ++ others p ds
  unfolding others
  others_append [] = refl
  others_append (c ∷ cs) =
      let e = others_append cs in
      cond_append (eqb c.kind 0) (others p cs) (against_zero p c ∷ others p cs) (others p ds) e
      (ap {B = List Constraint} (λ os. against_zero p c ∷ os) e)

equal_count_append : (cs ds : List Constraint) → equal_count (cs ++ ds) ≡ equal_count cs + equal_count ds
equal_count_append [] ds = omega arith
equal_count_append (c ∷ cs) ds = omega (arith, equal_count_append cs ds)

-- one constraint alone
module _ (p : ℕ) (c : Constraint) where
  equalities_equal : c.kind ≡ 0 → equalities p (c ∷ []) ≡ difference p c ∷ []
  unfolding equalities
  equalities_equal z = rw z

  others_equal : c.kind ≡ 0 → others p (c ∷ []) ≡ []
  unfolding others
  others_equal z = rw z

  equalities_other : c.kind ≢ 0 → equalities p (c ∷ []) ≡ []
  unfolding equalities
  equalities_other z = rw (ne_eqb c.kind 0 z)

  others_other : c.kind ≢ 0 → others p (c ∷ []) ≡ against_zero p c ∷ []
  unfolding others
  others_other z = rw (ne_eqb c.kind 0 z)

-- ---- the first i constraints of the bytes

abbrev pub first_of : List ℕ → ℕ → List Constraint
first_of b i = constraints_at b (words_in b) 8 i

-- constraint i
abbrev pub next : List ℕ → ℕ → Constraint
next b i = constraint_at b (words_in b) (size_of (words_in b) i)

first_more : (b : List ℕ) (i : ℕ) → first_of b (i + 1) ≡ first_of b i ++ (next b i ∷ [])
first_more b i = rw (add-one i) (constraints_at_snoc b (words_in b) 8 i)

count_more : (b : List ℕ) (i : ℕ) → equal_count (first_of b (i + 1)) ≡ equal_count (first_of b i) + equal_count (next b i ∷ [])
count_more b i = rw (first_more b i) (equal_count_append (first_of b i) (next b i ∷ []))

count_one : (c : Constraint) → equal_count (c ∷ []) ≤ 1
count_one c = go (eqb c.kind 0)
  where
    go : (b : Bool) → cond b 1 0 + 0 ≤ 1
    go true = omega arith
    go false = omega arith

-- of k constraints more, some are equalities
count_grows : (b : List ℕ) (i k : ℕ)
    → (equal_count (first_of b i) ≤ equal_count (first_of b (i + k))) × (equal_count (first_of b (i + k)) ≤ equal_count (first_of b i) + k)
count_grows b i zero = rw (add-zero i) (omega arith, omega arith)
count_grows b i (suc k) =
    let e : i + suc k ≡ i + k + 1 = omega arith in
    let h = count_grows b i k in
    let m = count_more b (i + k) in
    let o = count_one (next b (i + k)) in
    rw e (omega arith, omega arith)

-- ---- the loop over the constraints

-- what is accepted, of the bytes themselves

pub record Limited (b : List ℕ) : Type 0 where
  pub head : Headed b
  pub kinds : Each (λ (c : Constraint). c.kind ≤ below) (first_of b (constraints_in b))
  pub equalities : equal_count (first_of b (constraints_in b)) ≤ 32
  pub others : constraints_in b - equal_count (first_of b (constraints_in b)) ≤ 32

limited : {b : List ℕ} → Readable b → Limited b
unfolding sheet_in
limited {b} h =
    let l = length_constraints_at b (words_in b) 8 (constraints_in b) in
    record { head = h.head; kinds = h.body.kinds; equalities = h.body.equalities; others = rw l at h.body.others }

-- of the first i constraints, e are equalities and o are others
pub record Counted (b : List ℕ) (e o i : ℕ) : Type 0 where
  pub limits : Limited b
  pub inside : i ≤ constraints_in b
  pub all : e + o ≡ i
  pub equal : e ≡ equal_count (first_of b i)

-- the sheet holds them, and the reader stands behind them
pub record Reached (b : List ℕ) (at : ℕ) (es : Equalities) (os : List Held) (i : ℕ) : Type 0 where
  pub counted : Counted b es.count (length os) i
  pub place : at ≡ size_of (words_in b) i
  pub equal : equalities_of es ≡ equalities (width_in b) (first_of b i)
  pub other : constraints_of os ≡ others (width_in b) (first_of b i)

-- the later ones only add to both
pub counts_fit : {b : List ℕ} {e o i : ℕ} → Counted b e o i → (e ≤ 32) × (o ≤ 32)
counts_fit {b} {i = i} h =
    let m : i + (constraints_in b - i) ≡ constraints_in b = omega arith in
    let g = rw m at (count_grows b i (constraints_in b - i)) in
    omega arith

-- ---- before the first, and after the last

pub reached_none : {b : List ℕ} (rows : List ℕ) {at : ℕ} → Readable b → at ≡ 8 → Reached b at (record { rows = rows; count = 0 }) [] 0
unfolding constraints_at equalities others
reached_none rows h l =
    record {
      counted = record { limits = limited h; inside = omega arith; all = refl; equal = refl };
      place = omega arith;
      equal = refl;
      other = refl;
    }

pub reached_all : {b : List ℕ} {es : Equalities} {os : List Held} {at i : ℕ} → Reached b at es os i → constraints_in b ≤ i
    → record { eqs = equalities_of es; others = constraints_of os } ≡ working (sheet_in b)
unfolding working sheet_in
reached_all {b} {i = i} h l = let f : i ≡ constraints_in b = omega arith in rw (h.equal, h.other, f)

-- ---- constraint i

-- the front of the bytes, as it is read
pub record Front (b : List ℕ) (p n m : ℕ) : Type 0 where
  pub width : p ≡ width_in b
  pub words : n ≡ words_in b
  pub many : m ≡ constraints_in b

-- its kind is one that there is
kind_from : (b : List ℕ) (n j i m : ℕ) → Each (λ (c : Constraint). c.kind ≤ below) (constraints_at b n j m) → i < m
    → get_or b (j + i * stride n) 0 ≤ below
unfolding constraints_at constraint_at
kind_from b n j zero (suc m) (each_cons h hs) l = let e : j + 0 * stride n ≡ j = omega arith in rw e h
kind_from b n j (suc i) (suc m) (each_cons h hs) l =
    let e : j + suc i * stride n ≡ j + stride n + i * stride n = omega arith in
    rw e (kind_from b n (j + stride n) i m hs (omega arith))
kind_from b n j i zero h l = absurd (let z : ⊥ = omega arith in z)

module _ {b : List ℕ} {es : Equalities} {os : List Held} {p n m at i : ℕ} (f : Front b p n m) (h : Reached b at es os i) where
  -- there is room for constraint i at its place
  pub place_inside : i < m → (n ≤ 16) × (at + stride n ≤ length b) × (get_or b at 0 ≤ below)
  place_inside more =
      let l = h.counted.limits in
      let some : i < constraints_in b = omega (arith, f.many) in
      let k = mul-le-mul_right (stride (words_in b)) some in
      let few : n ≤ 16 = omega (arith, f.words, l.head.limits.few) in
      let room : at + stride n ≤ length b = rw (h.place, f.words) (omega (arith, l.head.sized, f.many)) in
      let kind : get_or b at 0 ≤ below = rw h.place (kind_from b (words_in b) 8 i (constraints_in b) l.kinds some) in
      (few, room, kind)

  -- what is read there is constraint i
  pub constraint_read : (c : Held) → constraint_of c ≡ constraint_at b n at → constraint_of c ≡ next b i
  constraint_read c r = rw (h.place, f.words) at r

module _ {b : List ℕ} {e o i : ℕ} {c : Constraint} (h : Counted b e o i) (more : i < constraints_in b) (is : c ≡ next b i) where
  pub equal_counted : c.kind ≡ 0 → Counted b (e + 1) o (i + 1)
  equal_counted z =
      let one : equal_count (c ∷ []) ≡ 1 = rw z in
      let n = rw is at one in
      record { limits = h.limits; inside = omega arith; all = omega arith; equal = omega (arith, count_more b i) }

  pub other_counted : c.kind ≢ 0 → Counted b e (o + 1) (i + 1)
  other_counted z =
      let none : equal_count (c ∷ []) ≡ 0 = rw (ne_eqb c.kind 0 z) in
      let n = rw is at none in
      record { limits = h.limits; inside = omega arith; all = omega arith; equal = omega (arith, count_more b i) }

module _ {b : List ℕ} {es : Equalities} {os : List Held} {at at' i : ℕ} (c : Held)
    (h : Reached b at es os i) (more : i < constraints_in b) (is : constraint_of c ≡ next b i)
    (past : at' ≡ at + stride (words_in b)) where
  abbrev p : ℕ
  p = width_in b

  abbrev d : Constraint
  d = constraint_of c

  first_now : first_of b (i + 1) ≡ first_of b i ++ (d ∷ [])
  first_now = rw is (first_more b i)

  equalities_now : equalities p (first_of b (i + 1)) ≡ equalities p (first_of b i) ++ equalities p (d ∷ [])
  equalities_now = rw first_now (equalities_append p (d ∷ []) (first_of b i))

  others_now : others p (first_of b (i + 1)) ≡ others p (first_of b i) ++ others p (d ∷ [])
  others_now = rw first_now (others_append p (d ∷ []) (first_of b i))

  place_now : at' ≡ size_of (words_in b) (i + 1)
  place_now = omega (arith, past, h.place)

  pub equal_read : kind_number c.kind ≡ 0 → (es' : Equalities) {t : Row} → equalities_of es' ≡ equalities_of es ++ (t ∷ [])
      → es'.count ≡ es.count + 1 → t ≡ difference (width_in b) (constraint_of c) → Reached b at' es' os (i + 1)
  equal_read z es' f k g =
      record {
        counted = rw k (equal_counted h.counted more is z);
        place = place_now;
        equal = rw (f, equalities_now, equalities_equal p d z, h.equal, g);
        other = rw (others_now, others_equal p d z, append-nil) h.other;
      }

  pub other_read : kind_number c.kind ≢ 0 → (os' : List Held) (a : Held) → os' ≡ os ++ (a ∷ [])
      → constraint_of a ≡ against_zero (width_in b) (constraint_of c) → Reached b at' es os' (i + 1)
  other_read z os' a f g =
      let l : length os' ≡ length os + 1 = rw (f, length-append) in
      record {
        counted = rw l (other_counted h.counted more is z);
        place = place_now;
        equal = rw (equalities_now, equalities_other p d z, append-nil) h.equal;
        other = rw (f, map-append constraint_of os (a ∷ []), others_now, others_other p d z, h.other, g);
      }

-- ---- a constraint, front to back: three readers of the same bytes, each where the one before it ends

-- the kind and the two sides that they read are those of the constraint that stands there
pub constraint_parts
    : {b b₀ b₁ b₂ l r : List ℕ} (n : ℕ) {i i₀ i₁ i₂ k : ℕ} → b₀ ≡ b → i₀ ≡ i → b₁ ≡ b₀ → i₁ ≡ i₀ + 1 → b₂ ≡ b₁ → i₂ ≡ i₁ + 4 * (n + 1)
    → k ≡ get_or b₀ i₀ 0 → l ≡ term_at b₁ n i₁ → r ≡ term_at b₂ n i₂
    → ◌≡◌ {A = Constraint} (record { kind = k; left = l; right = r }) (constraint_at b n i)
unfolding constraint_at
constraint_parts {b} n e₀ f₀ e₁ f₁ e₂ f₂ k l r =
    let g₁ = e₁ ∙ e₀ in
    let g₂ = e₂ ∙ g₁ in
    let h₁ = f₁ ∙ ap (λ (x : ℕ). x + 1) f₀ in
    let h₂ = f₂ ∙ ap (λ (x : ℕ). x + 4 * (n + 1)) h₁ in
    let kind = k ∙ ap₂ (λ (bs : List ℕ) (x : ℕ). get_or bs x 0) e₀ f₀ in
    let left = l ∙ ap₂ (λ (bs : List ℕ) (x : ℕ). term_at bs n x) g₁ h₁ in
    let right = r ∙ ap₂ (λ (bs : List ℕ) (x : ℕ). term_at bs n x) g₂ h₂ in
    rw (kind, left, right) refl
