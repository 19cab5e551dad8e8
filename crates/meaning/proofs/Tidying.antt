-- Tidying keeps what a sheet says, has the form that the rules declare, and is the only sheet of equalities that has it.
use mathlib.Core.Path.{◌≡◌, refl, ap, subst}
use mathlib.Core.Logic.{◌↔◌}
use mathlib.Core.Bool.{Bool, true, false, not, cond, ◌&&◌}
use mathlib.Core.List.{List, [], ◌∷◌, ◌++◌}
use Prim.Native.Nat.{ℕ, zero, suc, ◌≤◌, ◌<◌}
use native.Mathlib.Omega.{arith}
use native.Mathlib.Nat.{le_refl, lt_of_le_of_lt, le_of_suc-le-suc}
use lib.Pow.{pow-lt}
use lib.ListN.{length, get_or, replicate}
use Rattle.meaning.specs.Lists.{Each, each_nil, each_cons, any_of}
use Rattle.meaning.specs.Row.{Row, IsRow, most_words, coefficient, one_row, value, wordless}
use Rattle.meaning.specs.Sheet.{Constraint, Values, Work, IsWork, occurs}
use Rattle.meaning.specs.Tidy.{Basis, put_all, empty_basis, reduced, filled, refuted, kept, false_sheet, tidy_by, tidy}
use Rattle.meaning.specs.Form.{IsSum, ReducedHowell, TidyRows, unsolvable, solvable}
use Rattle.meaning.proofs.Tests.{clash}
use Rattle.meaning.proofs.Members.{each_to, each_head}
use Rattle.meaning.proofs.Value.{value_wordless}
use Rattle.meaning.proofs.Working.{IsZero, Solved}
use Rattle.meaning.proofs.Absent.{Lacking, Absent, occurs_absent, absent_occurs}
use Rattle.meaning.proofs.Basis.{Howell}
use Rattle.meaning.proofs.Decided.{refuted_none}
use Rattle.meaning.proofs.Kept.{kept_each, kept_twice, kept_unrefuted, kept_says}
use Rattle.meaning.proofs.Put.{BasisOf, basis_of}
use Rattle.meaning.proofs.Reduce.{Reduced, ReducesTo, reduced_law, reduced_lacks}
use Rattle.meaning.proofs.Unique.{howell_unique, Follows, dual}
use Rattle.meaning.proofs.Bullets.{howell_filled, filled_rows, filled_zeros, zeros_filled, filled_form, filled_sum, lowered_sums, sum_zeros, Spread, form_spread, form_length, form_solution}

-- ---- the false sheet: 1 is a row, and never zero where there is a bit to tell 1 from 0

one_most : (n i : ℕ) → get_or (replicate n 0 ++ (1 ∷ [])) i 0 ≤ 1
one_most zero zero = le_refl 1
one_most zero (suc i) = omega arith
one_most (suc n) zero = omega arith
one_most (suc n) (suc i) = one_most n i

one_lacks : (n i : ℕ) → i < n → get_or {A = ℕ} (replicate n 0 ++ (1 ∷ [])) i 0 ≡ 0
one_lacks zero i l = absurd (let z : ⊥ = omega arith in z)
one_lacks (suc n) zero l = refl
one_lacks (suc n) (suc i) l = one_lacks n i (le_of_suc-le-suc l)

pub one_row_lem : {p : ℕ} → 1 ≤ p → IsRow p one_row
one_row_lem wide = record { long = refl; small = λ i. lt_of_le_of_lt (one_most 16 i) (pow-lt {i = 0} wide) }

pub one_never : {p : ℕ} {a : List ℕ} → 1 ≤ p → Values p a → ¬ IsZero p a one_row
unfolding wordless
one_never {p} {a} wide ha z =
    let e : value p one_row a ≡ 1 = value_wordless a (one_row_lem wide) ha.sixteen refl in
    omega (arith, z.zero)

-- ---- the two cases of tidying

-- the equalities have no solution, or a decided constraint is false
pub data Refuted (p : ℕ) (w : Work) : Type 0 where
  no_solution : ((a : List ℕ) → Values p a → ¬ Each (IsZero p a) w.eqs) → Refuted p w
  false_one : any_of refuted w.others ≡ true → Refuted p w

pub data Tidied (p : ℕ) (w : Work) : Work → Type 0 where
  tidied_false : Refuted p w → Tidied p w false_sheet
  tidied_rows_lem : {ss : List Row} → Howell p 0 ss → Reduced p 0 ss
      → ((a : List ℕ) → Values p a → Each (IsZero p a) ss ↔ Each (IsZero p a) w.eqs)
      → ((x : ℕ) → x < most_words → Each (Lacking x) w.eqs → Each (Lacking x) ss)
      → any_of refuted w.others ≡ false
      → Tidied p w (record { eqs = filled ss; others = kept w.others })

abbrev zero_at : (x : ℕ) (rs : List Row) → Each (Lacking x) rs → Each (λ r. coefficient r x ≡ 0) rs
zero_at x rs h = each_to (λ r l. l.lacks) h

pub tidied : {p : ℕ} {w : Work} → IsWork p w → Tidied p w (tidy p w)
unfolding tidy tidy_by
tidied {p} {w} hw = go b.solvable refl (any_of refuted w.others) refl
  where
    b : Basis
    b = put_all p w.eqs empty_basis

    h : BasisOf p w.eqs b
    h = basis_of hw.rows

    go : (s : Bool) → b.solvable ≡ s → (r : Bool) → any_of refuted w.others ≡ r
        → Tidied p w (tidy_by (s && not r) p b.places w.others)
    go true e false f =
        let l : ReducesTo p 0 b.places (reduced p 0 b.places) = reduced_law (h.howell e) in
        tidied_rows_lem l.howell l.small
        (λ a ha. (λ z. (h.zeros e ha).0 (l.adds_none a z), λ z. l.keeps a ((h.zeros e ha).1 z)))
        (λ x m z. each_to (λ r c. record { lacks = c }) (reduced_lacks x (omega arith) (h.howell e) (h.absent x m (zero_at x _ z))))
        f
    go true e true f = tidied_false (false_one f)
    go false e r f = tidied_false (no_solution (λ a ha z. h.none e ha z))

refuted_unsolved : {p : ℕ} {w : Work} {a : List ℕ} → IsWork p w → Values p a → Refuted p w → ¬ Solved p a w
refuted_unsolved hw ha (no_solution n) s = n _ ha s.zeros
refuted_unsolved hw ha (false_one e) s = refuted_none hw.sides ha e s.hold

-- ---- tidying keeps what the sheet says

pub tidy_says : {p : ℕ} {w : Work} → 1 ≤ p → IsWork p w → (a : List ℕ) → Values p a → Solved p a (tidy p w) ↔ Solved p a w
tidy_says {p} {w} wide hw a ha = go (tidied hw)
  where
    go : {v : Work} → Tidied p w v → Solved p a v ↔ Solved p a w
    go (tidied_false n) = (λ s. absurd (one_never wide ha (each_head s.zeros)), λ s. absurd (refuted_unsolved hw ha n s))
    go (tidied_rows_lem h r z l f) = (
      λ s. record { zeros = (z a ha).0 (zeros_filled (howell_filled h) s.zeros); hold = (kept_says ha hw.sides f).0 s.hold },
      λ s. record { zeros = filled_zeros (howell_filled h) ((z a ha).1 s.zeros); hold = (kept_says ha hw.sides f).1 s.hold },
    )

-- ---- it is a sheet in shape, of at most sixteen equalities, in the tidy form

pub tidy_work : {p : ℕ} {w : Work} → 1 ≤ p → IsWork p w → IsWork p (tidy p w)
tidy_work {p} {w} wide hw = go (tidied hw)
  where
    go : {v : Work} → Tidied p w v → IsWork p v
    go (tidied_false n) = record { rows = each_cons (one_row_lem wide) each_nil; sides = each_nil }
    go (tidied_rows_lem h r z l f) = record { rows = filled_rows (howell_filled h); sides = kept_each hw.sides }

pub tidy_form : {p : ℕ} {w : Work} → IsWork p w → TidyRows p (tidy p w).eqs
tidy_form {p} {w} hw = go (tidied hw)
  where
    go : {v : Work} → Tidied p w v → TidyRows p v.eqs
    go (tidied_false n) = unsolvable
    go (tidied_rows_lem h r z l f) = solvable (filled_form h r)

pub tidy_few : {p : ℕ} {w : Work} → IsWork p w → length (tidy p w).eqs ≤ 16
tidy_few {p} {w} hw = go (tidied hw)
  where
    go : {v : Work} → Tidied p w v → length v.eqs ≤ 16
    go (tidied_false n) = omega arith
    go (tidied_rows_lem h r z l f) = form_length (filled_rows (howell_filled h)) (filled_form h r)

-- ---- it is 1 = 0 alone exactly when the equalities have no solution or a decided constraint is false

pub tidy_false : {p : ℕ} {w : Work} → 1 ≤ p → IsWork p w → (tidy p w ≡ false_sheet) ↔ Refuted p w
tidy_false {p} {w} wide hw = go (tidied hw)
  where
    go : {v : Work} → Tidied p w v → (v ≡ false_sheet) ↔ Refuted p w
    go (tidied_false n) = (λ e. n, λ m. refl)
    go (tidied_rows_lem {ss = ss} h r z l f) =
        let s : (a : List ℕ) × Values p a × Each (IsZero p a) (filled ss) = form_solution (filled_rows (howell_filled h)) (filled_form h r) in (
          λ e. absurd (one_never wide s.1 (each_head (subst (λ (v : Work). Each (IsZero p s.0) v.eqs) e s.2))),
          λ m. absurd (solved ((z s.0 s.1).0 (zeros_filled (howell_filled h) s.2)) s.1 f m),
        )
      where
        solved : {a : List ℕ} → Each (IsZero p a) w.eqs → Values p a → any_of refuted w.others ≡ false → ¬ Refuted p w
        solved zs ha f (no_solution n) = n _ ha zs
        solved zs ha f (false_one e) = clash e f

-- ---- words that occur nowhere stay away

pub filled_each : {P : Row → Type 0} {ss : List Row} → Each P ss → Each P (filled ss)
unfolding filled
filled_each each_nil = each_nil
filled_each {P} (each_cons {x = s} {xs = ss} h t) = go (wordless s) (filled_each t)
  where
    go : (b : Bool) → Each P (filled ss) → Each P (cond b (filled ss) (s ∷ filled ss))
    go true fs = fs
    go false fs = each_cons h fs

pub tidy_absent : {p : ℕ} {w : Work} → 1 ≤ p → IsWork p w → (x : ℕ) → x < most_words → occurs x w ≡ false → occurs x (tidy p w) ≡ false
tidy_absent {p} {w} wide hw x m e = go (tidied hw) (occurs_absent w e)
  where
    go : {v : Work} → Tidied p w v → Absent x w → occurs x v ≡ false
    go (tidied_false n) h = absent_occurs (record { rows = each_cons (record { lacks = one_lacks 16 x m }) each_nil; sides = each_nil })
    go (tidied_rows_lem h r z l f) h' = absent_occurs (record { rows = filled_each (l x m h'.rows); sides = kept_each h'.sides })

-- ---- the form is the only one: sheets of equalities with the same solutions are tidied to the same sheet

pub tidy_same : {p : ℕ} {w v : Work} → IsWork p w → IsWork p v → w.others ≡ [] → v.others ≡ []
    → ((a : List ℕ) → Values p a → Each (IsZero p a) w.eqs ↔ Each (IsZero p a) v.eqs) → tidy p w ≡ tidy p v
tidy_same {p} {w} {v} hw hv ew ev same = go (tidied hw) (tidied hv)
  where
    unrefuted : (u : Work) → u.others ≡ [] → any_of refuted u.others ≡ true → ⊥
    unrefuted u e f = clash f (ap (any_of refuted) e)

    go : {t u : Work} → Tidied p w t → Tidied p v u → t ≡ u
    go (tidied_false n) (tidied_false m) = refl
    go (tidied_false (no_solution n)) (tidied_rows_lem h r z l f) =
        let s = form_solution (filled_rows (howell_filled h)) (filled_form h r) in
        absurd (n s.0 s.1 ((same s.0 s.1).1 ((z s.0 s.1).0 (zeros_filled (howell_filled h) s.2))))
    go (tidied_false (false_one e)) (tidied_rows_lem h r z l f) = absurd (unrefuted w ew e)
    go (tidied_rows_lem h r z l f) (tidied_false (no_solution n)) =
        let s = form_solution (filled_rows (howell_filled h)) (filled_form h r) in
        absurd (n s.0 s.1 ((same s.0 s.1).0 ((z s.0 s.1).0 (zeros_filled (howell_filled h) s.2))))
    go (tidied_rows_lem h r z l f) (tidied_false (false_one e)) = absurd (unrefuted v ev e)
    go (tidied_rows_lem {ss = ss} h r z l f) (tidied_rows_lem {ss = ts} i q y k g) =
        let e : ss ≡ ts = howell_unique h r i q (record {
          forth = λ a ha zs. (y a ha).1 ((same a ha).0 ((z a ha).0 zs));
          back = λ a ha zs. (z a ha).1 ((same a ha).1 ((y a ha).0 zs));
        }) in
        cc (e, ew, ev)

-- ---- tidying twice is tidying once

pub tidy_twice : {p : ℕ} {w : Work} → 1 ≤ p → IsWork p w → tidy p (tidy p w) ≡ tidy p w
tidy_twice {p} {w} wide hw = go (tidied hw) (tidy_work wide hw)
  where
    again : {ss : List Row} {os : List Constraint} {u : Work} → Howell p 0 ss → Reduced p 0 ss → any_of refuted os ≡ false → kept os ≡ os
        → Tidied p (record { eqs = filled ss; others = os }) u → u ≡ record { eqs = filled ss; others = os }
    again h r n k (tidied_false (no_solution m)) =
        let s = form_solution (filled_rows (howell_filled h)) (filled_form h r) in
        absurd (m s.0 s.1 s.2)
    again h r n k (tidied_false (false_one e)) = clash e n
    again {ss} {os} h r n k (tidied_rows_lem {ss = ts} i q y l g) =
        let e : ts ≡ ss = howell_unique i q h r (record {
          forth = λ a ha zs. zeros_filled (howell_filled h) ((y a ha).0 zs);
          back = λ a ha zs. (y a ha).1 (filled_zeros (howell_filled h) zs);
        }) in
        cc (e, k)

    go : {v : Work} → Tidied p w v → IsWork p v → tidy p v ≡ v
    go (tidied_false n) hv = (tidy_false wide hv).1 (no_solution (λ a ha z. one_never wide ha (each_head z)))
    go (tidied_rows_lem h r z l f) hv = again h r (kept_unrefuted w.others) (kept_twice w.others) (tidied hv)

-- ---- an equality follows from tidy rows exactly when it is a sum of their multiples

pub form_follows : {p : ℕ} {rs : List Row} {r : Row} → Each (IsRow p) rs → ReducedHowell p rs → IsRow p r → Follows p rs r ↔ IsSum p rs r
form_follows {p} {rs} {r} hs form hr =
    let s : Spread p 0 rs = form_spread hs form in (
      λ f. filled_sum s.fills (lowered_sums s.howell hr ((dual s.howell hr (λ i l. absurd (let z : ⊥ = omega arith in z))).0
          (record { at = λ a ha z. f.at a ha (filled_zeros s.fills z) }))),
      λ f. record { at = λ a ha z. rw f.is (sum_zeros f.multipliers hs z) },
    )
