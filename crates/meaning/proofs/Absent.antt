-- A working sheet that lacks a word.
use mathlib.Core.Path.{◌≡◌, refl}
use mathlib.Core.Bool.{false, ◌||◌, or-false, or_assoc}
use mathlib.Core.List.{List, [], ◌∷◌, ◌++◌, map}
use Prim.Native.Nat.{ℕ}
use borrow.Author.Tests.{eqb-true, eq-eqb, not-false}
use Rattle.meaning.specs.Lists.{Each, any_of}
use Rattle.meaning.specs.Row.{Row, coefficient, row_has}
use Rattle.meaning.specs.Sheet.{Constraint, Work, equal_zero, constraints_of, has, occurs}
use Rattle.meaning.proofs.Tests.{neither}
use Rattle.meaning.proofs.Members.{none_each, each_none}
use Rattle.meaning.proofs.Value.{coefficient_zero}

pub record Lacking (x : ℕ) (r : Row) : Type 0 where
  pub lacks : coefficient r x ≡ 0

pub record LackingIn (x : ℕ) (c : Constraint) : Type 0 where
  pub left : Lacking x c.left
  pub right : Lacking x c.right

pub record Absent (x : ℕ) (w : Work) : Type 0 where
  pub rows : Each (Lacking x) w.eqs
  pub sides : Each (LackingIn x) w.others

pub row_has_lacking : {x : ℕ} (r : Row) → row_has x r ≡ false → Lacking x r
row_has_lacking {x} r e = record { lacks = eqb-true (coefficient r x) 0 (not-false _ e) }

pub lacking_row_has : {x : ℕ} {r : Row} → Lacking x r → row_has x r ≡ false
lacking_row_has {x} {r} h = rw (eq-eqb (coefficient r x) 0 h.lacks)

pub has_lacking : {x : ℕ} (c : Constraint) → has x c ≡ false → LackingIn x c
has_lacking {x} c e =
    let n : (row_has x c.left ≡ false) × (row_has x c.right ≡ false) = neither (row_has x c.left) (row_has x c.right) e in
    record { left = row_has_lacking c.left n.0; right = row_has_lacking c.right n.1 }

pub lacking_has : {x : ℕ} {c : Constraint} → LackingIn x c → has x c ≡ false
lacking_has h = rw (lacking_row_has h.left) (lacking_row_has h.right)

pub occurs_absent : {x : ℕ} (w : Work) → occurs x w ≡ false → Absent x w
unfolding occurs
occurs_absent {x} w e =
    let n : (any_of (row_has x) w.eqs ≡ false) × (any_of (has x) w.others ≡ false) = neither (any_of (row_has x) w.eqs) _ e in
    record { rows = none_each (row_has x) row_has_lacking w.eqs n.0; sides = none_each (has x) has_lacking w.others n.1 }

pub absent_occurs : {x : ℕ} {w : Work} → Absent x w → occurs x w ≡ false
unfolding occurs
absent_occurs {x} h =
    rw (each_none (row_has x) (λ r. lacking_row_has) h.rows) (each_none (has x) (λ c. lacking_has) h.sides)

-- a word occurs in a working sheet where one of its constraints has it
pub constraints_have : (x : ℕ) (w : Work) → any_of (has x) (constraints_of w) ≡ occurs x w
unfolding occurs
constraints_have x w = go w.eqs
  where
    go : (rs : List Row) → any_of (has x) (map equal_zero rs ++ w.others) ≡ (any_of (row_has x) rs || any_of (has x) w.others)
    go [] = refl
    go (r ∷ rs) = rw (coefficient_zero x, or-false (row_has x r), go rs, or_assoc)
