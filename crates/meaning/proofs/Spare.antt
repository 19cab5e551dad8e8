-- Layer2 is sound: with a surplus, x has a value that agrees with a given one in the bits that the equalities see and meets
-- every constraint that is dropped.
use mathlib.Core.Path.{◌≡◌, refl, ◌∙◌}
use mathlib.Core.Logic.{◌≢◌}
use mathlib.Core.Bool.{Bool, true, false, and-eq-true_iff}
use mathlib.Core.List.{List}
use Prim.Native.Nat.{ℕ, zero, suc, ◌-◌, ◌^◌, ◌≤◌, ◌<◌}
use native.Mathlib.Omega.{arith}
use lib.Dec.{eqb, ltb}
use lib.ListN.{length, set}
use borrow.Author.Tests.{eqb-true, eqb-false, ltb-true, lt-ltb}
use Rattle.meaning.specs.Lists.{Each}
use Rattle.meaning.specs.Row.{most_words, value, row_has}
use Rattle.meaning.specs.Sheet.{Constraint, Compared, Holds, HoldAll, Values, has, IsOther}
use Rattle.meaning.specs.Layers.{bound_by, bound_of, gathered, ways, lost, spare, without}
use Rattle.meaning.proofs.Members.{each_both}
use Rattle.meaning.proofs.Working.{value_zero}
use Rattle.meaning.proofs.Congruence.{◌⊢◌≈◌}
use Rattle.meaning.proofs.Value.{set_values}
use Rattle.meaning.proofs.Enough.{Clear, Found, enough}
use Rattle.meaning.proofs.Kept.{without_lacks, without_all}
use Rattle.meaning.proofs.Layer1.{UnreplacedIn, hold_all_set}
use Rattle.meaning.proofs.Groups.{Under, Meets, gathered_falling, Bounds, gathered_inside}

-- ---- an inequality with x

compared : (k x y : ℕ) → 1 < k → Under (ltb 2 k) x y → Compared k x y
compared zero x y l h = absurd (let z : ⊥ = omega arith in z)
compared (suc zero) x y l h = absurd (let z : ⊥ = omega arith in z)
compared (suc (suc zero)) x y l h = h
compared (suc (suc (suc k))) x y l h = rw (lt-ltb 2 (suc (suc (suc k))) (omega arith)) at h

bound_holds : {p : ℕ} {a : List ℕ} (x : ℕ) {c : Constraint} → 1 < c.kind → Meets p a (bound_of x c) → Holds p a c
bound_holds {p} {a} x {c} l m = record { says = go (row_has x c.left) m }
  where
    go : (b : Bool) → Meets p a (bound_by b c) → Compared c.kind (value p c.left a) (value p c.right a)
    go true m = compared c.kind _ _ l m.bounded
    go false m = compared c.kind _ _ l m.bounded

-- ---- a disequality with x

clear_holds : {p : ℕ} {a : List ℕ} {c : Constraint} → IsOther p c → c.kind ≡ 1 → value p c.left a ≢ 0 → Holds p a c
clear_holds {p} {a} {c} o e n = record { says = rw (e, o.zero_right e) (λ z. n (z ∙ value_zero p a)) }

-- ---- all of them

with_holds : {p : ℕ} {a : List ℕ} (x : ℕ) {c : Constraint} → IsOther p c → has x c ≡ true
    → Clear p x a c → Bounds p x a c → Holds p a c
with_holds {p} {a} x {c} o h n b = go (eqb c.kind 1) refl
  where
    go : (t : Bool) → eqb c.kind 1 ≡ t → Holds p a c
    go true e = clear_holds o (eqb-true _ _ e) (n.clear ((and-eq-true_iff _ _).1 (e, h)))
    go false e =
        let l : 1 < c.kind = let k : c.kind ≢ 1 = eqb-false _ _ e in omega (arith, o.other) in
        bound_holds x l (b.met ((and-eq-true_iff _ _).1 (lt-ltb _ _ l, h)))

hold_again : {p : ℕ} (x v : ℕ) {a : List ℕ} {cs : List Constraint} → x < most_words → Values p a → Each (IsOther p) cs
    → Each (Clear p x (set a x v)) cs → Each (Bounds p x (set a x v)) cs → HoldAll p a (without x cs) → HoldAll p (set a x v) cs
hold_again {p} x v {a} {cs} l ha os ns bs h =
    let with-x : Each (λ c. IsOther p c → has x c ≡ true → Holds p (set a x v) c) cs =
    each_both (λ c n b o e. with_holds x o e n b) ns bs in
    without_all x (each_both (λ c o f. f o) os with-x) ((hold_all_set l ha v (without_lacks x cs)).1 h)

pub spare_finds : (p x k : ℕ) (os : List Constraint) → x < most_words → k ≤ p → Each (IsOther p) os → Each (UnreplacedIn p x k) os
    → spare p x k os ≡ true → (a : List ℕ) → Values p a → (r : ℕ) → HoldAll p a (without x os)
    → (v : ℕ) × (v < 2 ^ p) × (2 ^ (p - k) ⊢ v ≈ r) × HoldAll p (set a x v) os
unfolding spare
spare_finds p x k os l wide ws us s a values r h =
    let there : x < length a = rw values.sixteen l in
    let t : ((gathered p x os).apart ≡ true) × (ltb (lost p x os) (ways p k (gathered p x os).row) ≡ true) = (and-eq-true_iff _ _).0 s in
    let f : (v : ℕ) × Found p x k r a (gathered p x os).row os v =
    enough p x a there r os wide (gathered_falling p x k us) (ltb-true _ _ t.1) in (
      f.0,
      f.1.small,
      f.1.near,
      hold_again x f.0 l values ws f.1.clear
          (gathered_inside x (set_values x f.0 f.1.small values) ws t.0 f.1.inside) h,
    )
