-- Decided constraints: a row with no word has its constant for a value, so what a constraint with no word says is known.
use mathlib.Core.Path.{◌≡◌, refl}
use mathlib.Core.Bool.{Bool, true, false, not, ◌||◌}
use mathlib.Core.List.{List, ◌∷◌}
use Prim.Native.Nat.{ℕ, zero, suc, ◌≤◌, ◌<◌}
use native.Mathlib.Omega.{arith}
use borrow.Author.Tests.{eqb-true, eqb-false, leb-true, leb-false, ltb-true, ltb-false, not-true, not-false}
use Rattle.meaning.specs.Lists.{Each, each_nil, each_cons, any_of}
use Rattle.meaning.specs.Row.{constant, value, wordless}
use Rattle.meaning.specs.Sheet.{Constraint, Compared, Holds, HoldAll, Values, IsOther}
use Rattle.meaning.specs.Tidy.{decided, comparedb, refuted}
use Rattle.meaning.proofs.Tests.{both_true, clash}
use Rattle.meaning.proofs.Value.{value_wordless}

-- ---- comparing

pub compared_true : (k x y : ℕ) → comparedb k x y ≡ true → Compared k x y
compared_true zero x y e = eqb-true x y e
compared_true (suc zero) x y e = eqb-false x y (not-true _ e)
compared_true (suc (suc zero)) x y e = leb-true x y e
compared_true (suc (suc (suc k))) x y e = ltb-true x y e

pub compared_false : (k x y : ℕ) → comparedb k x y ≡ false → ¬ Compared k x y
compared_false zero x y e h = eqb-false x y e h
compared_false (suc zero) x y e h = h (eqb-true x y (not-false _ e))
compared_false (suc (suc zero)) x y e h = let l : y < x = leb-false x y e in omega arith
compared_false (suc (suc (suc k))) x y e h = let l : y ≤ x = ltb-false x y e in omega arith

-- a decided constraint compares its constants, so it holds unless it is refuted
module _ {p : ℕ} {a : List ℕ} {c : Constraint} (hc : IsOther p c) (ha : Values p a) (d : decided c ≡ true) where
  constants : (value p c.left a ≡ constant c.left) × (value p c.right a ≡ constant c.right)
  constants =
      let h = both_true (wordless c.left) (wordless c.right) d in
      (value_wordless a hc.left ha.sixteen h.0, value_wordless a hc.right ha.sixteen h.1)

  pub decided_holds : refuted c ≡ false → Holds p a c
  decided_holds r =
      let e : not (comparedb c.kind (constant c.left) (constant c.right)) ≡ false = rw d at r in
      record { says = rw (constants.0, constants.1) (compared_true c.kind _ _ (not-false _ e)) }

  decided_fails : refuted c ≡ true → ¬ Holds p a c
  decided_fails r h =
      let e : not (comparedb c.kind (constant c.left) (constant c.right)) ≡ true = rw d at r in
      compared_false c.kind _ _ (not-true _ e) (rw (constants.0, constants.1) at h.says)

-- ---- all of them

pub refuted_none : {p : ℕ} {a : List ℕ} {os : List Constraint} → Each (IsOther p) os → Values p a → any_of refuted os ≡ true → ¬ HoldAll p a os
refuted_none each_nil ha e each_nil = clash {b = false} e refl
refuted_none {os = c ∷ os} (each_cons hc hs) ha e (each_cons h t) = go (refuted c) refl e (λ f. refuted_none hs ha f t)
  where
    go : (b : Bool) → refuted c ≡ b → (b || any_of refuted os) ≡ true → (any_of refuted os ≡ true → ⊥) → ⊥
    go true r e later = decided_fails hc ha (both_true (decided c) _ r).0 r h
    go false r e later = later e
