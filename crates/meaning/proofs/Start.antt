-- The working sheet that a sheet begins with says what the sheet says, is in shape, and has no word that the sheet lacks. And
-- any working sheet says what its listed constraints say.
use mathlib.Core.Path.{◌≡◌, refl, sym, ◌∙◌}
use mathlib.Core.Logic.{◌↔◌, ◌≢◌}
use mathlib.Core.Bool.{Bool, true, false, ◌||◌}
use mathlib.Core.List.{List, [], ◌∷◌, ◌++◌, map}
use Prim.Native.Nat.{ℕ, ◌+◌, ◌*◌, ◌%◌, ◌^◌, ◌≤◌, ◌<◌}
use native.Mathlib.Omega.{arith}
use lib.Dec.{eqb}
use lib.ListN.{length}
use lib.Pow.{pow_pos}
use borrow.Author.Tests.{eqb-true, eqb-false, ne_eqb}
use Rattle.meaning.specs.Lists.{Each, each_nil, each_cons, any_of}
use Rattle.meaning.specs.Row.{Row, IsRow, most_words, coefficient, zero_row, value, less, row_has}
use Rattle.meaning.specs.Sheet.{Constraint, Sheet, Holds, HoldAll, IsConstraint, IsSheet, Work, equal_zero, constraints_of, has, occurs, IsOther, IsWork}
use Rattle.meaning.specs.Tidy.{difference, equalities, others, working}
use Rattle.meaning.specs.Refusal.{equal_count}
use Rattle.meaning.specs.Demands.{IsEquality}
use Rattle.meaning.proofs.Congruence.{◌⊢◌≈◌, ≈zero, ≈sym, ≈small, zero≈, lin, poly}
use Rattle.meaning.proofs.Value.{less_row, less_at, zero_row_lem, coefficient_zero, sum_at, value_sum, sum_less}
use Rattle.meaning.proofs.Working.{IsZero, Solved, value_zero}
use Rattle.meaning.proofs.Members.{each_to}
use Rattle.meaning.proofs.Absent.{LackingIn}

-- ---- "the term is the left side less the right"

-- it is zero just where the sides are equal
pub difference_zero : {p : ℕ} {l r : Row} → IsRow p l → IsRow p r → (a : List ℕ)
    → (value p (less p 1 r l) a ≡ 0) ↔ (value p l a ≡ value p r a)
difference_zero {p} {l} {r} hl hr a = rw (value_sum p (less p 1 r l) a, value_sum p l a, value_sum p r a) (go, back)
  where
    d : 2 ^ p ⊢ sum_at (less p 1 r l) a + 1 * sum_at r a ≈ sum_at l a
    d = sum_less 1 hr hl a

    go : sum_at (less p 1 r l) a % 2 ^ p ≡ 0 → sum_at l a % 2 ^ p ≡ sum_at r a % 2 ^ p
    go e = let h : 2 ^ p ⊢ sum_at l a ≈ sum_at r a = lin 1 (≈sym d) (lin 1 (≈zero e) (poly (omega arith))) in h.eq

    back : sum_at l a % 2 ^ p ≡ sum_at r a % 2 ^ p → sum_at (less p 1 r l) a % 2 ^ p ≡ 0
    back e = let h : 2 ^ p ⊢ sum_at l a ≈ sum_at r a = record { eq = e } in zero≈ (lin 1 d (lin 1 h (poly (omega arith))))

-- ---- the constraints sorted: the equalities' rows, and the others with the disequalities written with zero on the right

abbrev pub unequal : ℕ → Constraint → Constraint
unequal p c = record { kind = 1; left = difference p c; right = zero_row }

pub data Sorted (p : ℕ) : List Constraint → List Row → List Constraint → Type 0 where
  none : Sorted p [] [] []
  equal : {c : Constraint} {cs os : List Constraint} {rs : List Row} → c.kind ≡ 0 → Sorted p cs rs os
      → Sorted p (c ∷ cs) (difference p c ∷ rs) os
  different : {c : Constraint} {cs os : List Constraint} {rs : List Row} → c.kind ≡ 1 → Sorted p cs rs os
      → Sorted p (c ∷ cs) rs (unequal p c ∷ os)
  ordered : {c : Constraint} {cs os : List Constraint} {rs : List Row} → 1 < c.kind → Sorted p cs rs os → Sorted p (c ∷ cs) rs (c ∷ os)

pub sorted : (p : ℕ) (cs : List Constraint) → Sorted p cs (equalities p cs) (others p cs)
unfolding equalities others
sorted p [] = none
sorted p (c ∷ cs) = go _ refl _ refl (sorted p cs)
  where
    go : (b : Bool) → eqb c.kind 0 ≡ b → (d : Bool) → eqb c.kind 1 ≡ d → Sorted p cs (equalities p cs) (others p cs)
        → Sorted p (c ∷ cs) (equalities p (c ∷ cs)) (others p (c ∷ cs))
    go true e d f r = rw e (equal (eqb-true _ 0 e) r)
    go false e true f r = rw (e, f) (different (eqb-true _ 1 f) r)
    go false e false f r = rw (e, f) (ordered {c = c} (omega (arith, eqb-false c.kind 0 e, eqb-false c.kind 1 f)) r)

-- ---- it is in shape

module _ {p n : ℕ} {c : Constraint} (h : IsConstraint p n c) where
  difference_row : IsRow p (difference p c)
  difference_row = less_row 1 h.right.row h.left.row

  unequal_other : IsOther p (unequal p c)
  unequal_other = record { left = difference_row; right = zero_row_lem p; other = omega arith; zero_right = λ k. refl }

  ordered_other : 1 < c.kind → IsOther p c
  ordered_other l =
      record { left = h.left.row; right = h.right.row; other = omega arith; zero_right = λ k. absurd (let z : ⊥ = omega arith in z) }

sorted_rows : {p n : ℕ} {cs os : List Constraint} {rs : List Row} → Each (IsConstraint p n) cs → Sorted p cs rs os → Each (IsRow p) rs
sorted_rows hs none = each_nil
sorted_rows (each_cons h hs) (equal e r) = each_cons (difference_row h) (sorted_rows hs r)
sorted_rows (each_cons h hs) (different e r) = sorted_rows hs r
sorted_rows (each_cons h hs) (ordered e r) = sorted_rows hs r

sorted_others : {p n : ℕ} {cs os : List Constraint} {rs : List Row} → Each (IsConstraint p n) cs → Sorted p cs rs os → Each (IsOther p) os
sorted_others hs none = each_nil
sorted_others (each_cons h hs) (equal e r) = sorted_others hs r
sorted_others (each_cons h hs) (different e r) = each_cons (unequal_other h) (sorted_others hs r)
sorted_others (each_cons h hs) (ordered e r) = each_cons (ordered_other h e) (sorted_others hs r)

pub working_work : {s : Sheet} → IsSheet s → IsWork s.width (working s)
unfolding working
working_work {s} h =
    let r = sorted s.width s.constraints in
    record { rows = sorted_rows h.all r; sides = sorted_others h.all r }

-- ---- it says what the sheet says

module _ {p n : ℕ} {c : Constraint} (h : IsConstraint p n c) (a : List ℕ) where
  sides : (value p (difference p c) a ≡ 0) ↔ (value p c.left a ≡ value p c.right a)
  sides = difference_zero h.left.row h.right.row a

  equal_says : c.kind ≡ 0 → Holds p a c ↔ IsZero p a (difference p c)
  equal_says e = (λ k. record { zero = sides.1 (rw e at k.says) }, λ k. record { says = rw e (sides.0 k.zero) })

  different_says : c.kind ≡ 1 → Holds p a c ↔ Holds p a (unequal p c)
  different_says e = (
    λ k.
        let apart : value p c.left a ≢ value p c.right a = rw e at k.says in
        record { says = rw (value_zero p a) (λ z. apart (sides.0 z)) },
    λ k. record { says = rw e (λ q. k.says (sides.1 q ∙ sym (value_zero p a))) },
  )

module _ {p n : ℕ} (a : List ℕ) where
  sorted_solved : {cs os : List Constraint} {rs : List Row} → Each (IsConstraint p n) cs → Sorted p cs rs os
      → HoldAll p a cs → Solved p a (record { eqs = rs; others = os })
  sorted_solved hs none ks = record { zeros = each_nil; hold = each_nil }
  sorted_solved (each_cons h hs) (equal e r) (each_cons k ks) =
      let t = sorted_solved hs r ks in record { zeros = each_cons ((equal_says h a e).0 k) t.zeros; hold = t.hold }
  sorted_solved (each_cons h hs) (different e r) (each_cons k ks) =
      let t = sorted_solved hs r ks in record { zeros = t.zeros; hold = each_cons ((different_says h a e).0 k) t.hold }
  sorted_solved (each_cons h hs) (ordered e r) (each_cons k ks) =
      let t = sorted_solved hs r ks in record { zeros = t.zeros; hold = each_cons k t.hold }

  solved_sorted : {cs os : List Constraint} {rs : List Row} → Each (IsConstraint p n) cs → Sorted p cs rs os
      → Each (IsZero p a) rs → HoldAll p a os → HoldAll p a cs
  solved_sorted hs none zs ks = each_nil
  solved_sorted (each_cons h hs) (equal e r) (each_cons z zs) ks = each_cons ((equal_says h a e).1 z) (solved_sorted hs r zs ks)
  solved_sorted (each_cons h hs) (different e r) zs (each_cons k ks) = each_cons ((different_says h a e).1 k) (solved_sorted hs r zs ks)
  solved_sorted (each_cons h hs) (ordered e r) zs (each_cons k ks) = each_cons k (solved_sorted hs r zs ks)

pub working_says : {s : Sheet} → IsSheet s → (a : List ℕ) → HoldAll s.width a s.constraints ↔ Solved s.width a (working s)
unfolding working
working_says {s} h a =
    let r = sorted s.width s.constraints in
    (sorted_solved a h.all r, λ t. solved_sorted a h.all r t.zeros t.hold)

-- a working sheet says what its listed constraints say
pub constraints_say : (p : ℕ) (a : List ℕ) (w : Work) → HoldAll p a (constraints_of w) ↔ Solved p a w
constraints_say p a w = (λ hs. solved w.eqs hs, λ t. holds t.zeros t.hold)
  where
    solved : (rs : List Row) {os : List Constraint} → HoldAll p a (map equal_zero rs ++ os) → Solved p a (record { eqs = rs; others = os })
    solved [] hs = record { zeros = each_nil; hold = hs }
    solved (r ∷ rs) (each_cons h hs) =
        let t = solved rs hs in record { zeros = each_cons (record { zero = h.says ∙ value_zero p a }) t.zeros; hold = t.hold }

    holds : {rs : List Row} {os : List Constraint} → Each (IsZero p a) rs → HoldAll p a os → HoldAll p a (map equal_zero rs ++ os)
    holds each_nil hs = hs
    holds (each_cons z zs) hs = each_cons (record { says = z.zero ∙ sym (value_zero p a) }) (holds zs hs)

-- ---- no word that the sheet lacks

module _ {p n : ℕ} (x : ℕ) (b : x < most_words) where
  difference_lacks : {c : Constraint} → IsConstraint p n c → LackingIn x c → coefficient (difference p c) x ≡ 0
  difference_lacks {c} h lacks =
      let d : 2 ^ p ⊢ coefficient (difference p c) x + 1 * coefficient c.right x ≈ coefficient c.left x =
      less_at 1 h.right.row h.left.row x (omega arith) in
      ≈small (lin 1 d (poly (omega (arith, lacks.left.lacks, lacks.right.lacks)))) ((difference_row h).small x) (pow_pos p)

  sorted_lacks : {cs os : List Constraint} {rs : List Row} → Each (IsConstraint p n) cs → Each (LackingIn x) cs → Sorted p cs rs os
      → (any_of (row_has x) rs || any_of (has x) os) ≡ false
  sorted_lacks hs ls none = refl
  sorted_lacks (each_cons h hs) (each_cons l ls) (equal e r) = rw (difference_lacks h l) (sorted_lacks hs ls r)
  sorted_lacks (each_cons h hs) (each_cons l ls) (different e r) = rw (difference_lacks h l, coefficient_zero x) (sorted_lacks hs ls r)
  sorted_lacks (each_cons h hs) (each_cons l ls) (ordered e r) = rw (l.left.lacks, l.right.lacks) (sorted_lacks hs ls r)

pub working_lacks : {s : Sheet} → IsSheet s → (x : ℕ) → x < most_words → Each (LackingIn x) s.constraints → occurs x (working s) ≡ false
unfolding working occurs
working_lacks {s} h x b ls = sorted_lacks x b h.all ls (sorted s.width s.constraints)

-- the words from n on
pub working_absent : {s : Sheet} → IsSheet s → (x : ℕ) → s.words ≤ x → x < most_words → occurs x (working s) ≡ false
working_absent h x l b =
    working_lacks h x b
    (each_to (λ c k. record { left = record { lacks = k.left.absent x l b }; right = record { lacks = k.right.absent x l b } }) h.all)

-- ---- how many

sorted_count : {p : ℕ} {cs os : List Constraint} {rs : List Row} → Sorted p cs rs os → length rs ≡ equal_count cs
sorted_count none = refl
sorted_count {p} (equal e r) = rw e (omega (arith, sorted_count r))
sorted_count (different e r) = rw e (omega (arith, sorted_count r))
sorted_count (ordered {c = c} e r) = rw (ne_eqb c.kind 0 (λ z. omega arith)) (omega (arith, sorted_count r))

sorted_length : {p : ℕ} {cs os : List Constraint} {rs : List Row} → Sorted p cs rs os → length os + length rs ≡ length cs
sorted_length none = refl
sorted_length (equal e r) = omega (arith, sorted_length r)
sorted_length (different e r) = omega (arith, sorted_length r)
sorted_length (ordered e r) = omega (arith, sorted_length r)

pub others_count : (s : Sheet) → length (working s).others + equal_count s.constraints ≡ length s.constraints
unfolding working
others_count s =
    let r = sorted s.width s.constraints in
    rw (← sorted_count r) (sorted_length r)

-- a sheet of equalities alone has no others
sorted_equalities : {p : ℕ} {cs os : List Constraint} {rs : List Row} → Each IsEquality cs → Sorted p cs rs os → os ≡ []
sorted_equalities hs none = refl
sorted_equalities (each_cons h hs) (equal e r) = sorted_equalities hs r
sorted_equalities (each_cons h hs) (different e r) = absurd (let z : ⊥ = omega arith in z)
sorted_equalities (each_cons h hs) (ordered e r) = absurd (let z : ⊥ = omega arith in z)

pub no_others : (s : Sheet) → Each IsEquality s.constraints → (working s).others ≡ []
unfolding working
no_others s hs = sorted_equalities hs (sorted s.width s.constraints)
