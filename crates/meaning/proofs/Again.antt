-- A working sheet that is written as constraints and sorted again is itself.
use mathlib.Core.Path.{◌≡◌, refl, ap, ap₂, ◌∙◌}
use mathlib.Core.Bool.{Bool, true, false}
use mathlib.Core.List.{List, ◌∷◌, ◌++◌, map}
use Prim.Native.Nat.{ℕ}
use native.Mathlib.Omega.{arith}
use lib.Dec.{eqb}
use borrow.Author.Tests.{eqb-true, ne_eqb}
use Rattle.meaning.specs.Lists.{Each, each_nil, each_cons}
use Rattle.meaning.specs.Row.{Row, IsRow, zero_row, less}
use Rattle.meaning.specs.Sheet.{Constraint, Work, IsOther, IsWork, equal_zero, constraints_of}
use Rattle.meaning.specs.Tidy.{difference, equalities, against_zero, others, working}
use Rattle.meaning.proofs.Congruence.{lin, poly}
use Rattle.meaning.proofs.Value.{zero_row_lem, coefficient_zero, row_ext, less_row, less_at}

-- less nothing
less_zero : {p : ℕ} {r : Row} → IsRow p r → less p 1 zero_row r ≡ r
less_zero {p} {r} h =
    row_ext (less_row 1 (zero_row_lem p) h) h
    (λ i l. lin 1 (less_at 1 (zero_row_lem p) h i l) (poly (omega (arith, coefficient_zero i))))

module _ {p : ℕ} where
  -- an other is no equality, and is written already
  other_kind : {c : Constraint} → IsOther p c → eqb c.kind 0 ≡ false
  other_kind {c} h = ne_eqb c.kind 0 (λ e. omega (arith, h.other))

  other_against_zero : {c : Constraint} → IsOther p c → against_zero p c ≡ c
  other_against_zero {c} h = go (eqb c.kind 1) refl
    where
      go : (b : Bool) → eqb c.kind 1 ≡ b → against_zero p c ≡ c
      go true e =
          let k : c.kind ≡ 1 = eqb-true c.kind 1 e in
          let l : difference p c ≡ c.left = ap (λ (r : Row). less p 1 r c.left) (h.zero_right k) ∙ less_zero h.left in
          rw (e, l, ← h.zero_right k, ← k)
      go false e = rw e

  equalities_again : {rs : List Row} {os : List Constraint} → Each (IsRow p) rs → Each (IsOther p) os
      → equalities p (map equal_zero rs ++ os) ≡ rs
  unfolding equalities
  equalities_again each_nil each_nil = refl
  equalities_again each_nil (each_cons o os) = rw (other_kind o) (equalities_again each_nil os)
  equalities_again (each_cons h hs) os = ap₂ ◌∷◌ (less_zero h) (equalities_again hs os)

  others_again : {rs : List Row} {os : List Constraint} → Each (IsRow p) rs → Each (IsOther p) os → others p (map equal_zero rs ++ os) ≡ os
  unfolding others
  others_again each_nil each_nil = refl
  others_again each_nil (each_cons o os) = rw (other_kind o) (ap₂ ◌∷◌ (other_against_zero o) (others_again each_nil os))
  others_again (each_cons h hs) os = others_again hs os

pub working_again : {p : ℕ} {w : Work} (n : ℕ) → IsWork p w → working (record { width = p; words = n; constraints = constraints_of w }) ≡ w
unfolding working
working_again n h = ap₂ (λ (rs : List Row) (os : List Constraint). record { eqs = rs; others = os })
    (equalities_again h.rows h.sides) (others_again h.rows h.sides)
