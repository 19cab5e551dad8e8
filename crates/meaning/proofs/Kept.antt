-- What a test keeps of a list is part of it in its order, and keeping twice is keeping once. What tidying keeps of the others
-- says as much as all, unless one is refuted; what Layer2 keeps lacks the word.
use mathlib.Core.Path.{◌≡◌, refl}
use mathlib.Core.Logic.{◌↔◌}
use mathlib.Core.Bool.{Bool, true, false}
use mathlib.Core.List.{List, [], ◌∷◌, ◌++◌}
use Prim.Native.Nat.{ℕ}
use borrow.Author.Tests.{not-true, not-false}
use Rattle.meaning.specs.Lists.{Each, each_nil, each_cons, any_of, kept_by}
use Rattle.meaning.specs.Sheet.{Constraint, Holds, HoldAll, Values, has, IsOther}
use Rattle.meaning.specs.Tidy.{decided, refuted, stays, kept}
use Rattle.meaning.specs.Layers.{lacks, without}
use Rattle.meaning.proofs.Members.{Part, part_nil, part_keep, part_drop, part_each, each_both, each_append, none_each, each_none}
use Rattle.meaning.proofs.Absent.{LackingIn, has_lacking}
use Rattle.meaning.proofs.Decided.{decided_holds}

-- ---- a test that may look at those kept before

-- of the list xs, behind those kept before, the test keeps ks
data Keeps {A : Type 0} (t : List A → A → Bool) : List A → List A → List A → Type 0 where
  keeps_none : {before : List A} → Keeps t before [] []
  keeps_first : {before : List A} {x : A} {xs ks : List A} → t before x ≡ true → Keeps t (before ++ (x ∷ [])) xs ks
      → Keeps t before (x ∷ xs) (x ∷ ks)
  drops_first : {before : List A} {x : A} {xs ks : List A} → t before x ≡ false → Keeps t before xs ks → Keeps t before (x ∷ xs) ks

module _ {A : Type 0} (t : List A → A → Bool) where
  pub first_kept : {before : List A} {x : A} (xs : List A) → t before x ≡ true
      → kept_by t before (x ∷ xs) ≡ x ∷ kept_by t (before ++ (x ∷ [])) xs
  unfolding kept_by
  first_kept xs e = rw (e, kept_by)

  pub first_dropped : {before : List A} {x : A} (xs : List A) → t before x ≡ false → kept_by t before (x ∷ xs) ≡ kept_by t before xs
  unfolding kept_by
  first_dropped xs e = rw (e, kept_by)

  keeps : (before xs : List A) → Keeps t before xs (kept_by t before xs)
  unfolding kept_by
  keeps before [] = keeps_none
  keeps before (x ∷ xs) = go (t before x) refl (keeps (before ++ (x ∷ [])) xs) (keeps before xs)
    where
      go : (b : Bool) → t before x ≡ b → Keeps t (before ++ (x ∷ [])) xs (kept_by t (before ++ (x ∷ [])) xs)
          → Keeps t before xs (kept_by t before xs) → Keeps t before (x ∷ xs) (kept_by t before (x ∷ xs))
      go true e ks ds = rw (first_kept xs e) (keeps_first e ks)
      go false e ks ds = rw (first_dropped xs e) (drops_first e ds)

module _ {A : Type 0} {t : List A → A → Bool} where
  keeps_part : {before xs ks : List A} → Keeps t before xs ks → Part ks xs
  keeps_part keeps_none = part_nil
  keeps_part (keeps_first e h) = part_keep (keeps_part h)
  keeps_part (drops_first e h) = part_drop (keeps_part h)

  -- each of them passed the test
  keeps_each : {P : A → Type 0} → ((before : List A) (x : A) → t before x ≡ true → P x)
      → {before xs ks : List A} → Keeps t before xs ks → Each P ks
  keeps_each f keeps_none = each_nil
  keeps_each f (keeps_first e h) = each_cons (f _ _ e) (keeps_each f h)
  keeps_each f (drops_first e h) = keeps_each f h

  -- what they have, all have, if one that is dropped has it as soon as those kept before it have it
  keeps_all : {P Q : A → Type 0} → ((before : List A) (x : A) → t before x ≡ false → Each P before → Q x → P x)
      → {before xs ks : List A} → Keeps t before xs ks → Each Q xs → Each P before → Each P ks → Each P xs
  keeps_all f keeps_none qs bs ks = each_nil
  keeps_all f (keeps_first e h) (each_cons q qs) bs (each_cons k ks) = each_cons k (keeps_all f h qs (each_append bs (each_cons k each_nil)) ks)
  keeps_all f (drops_first e h) (each_cons q qs) bs ks = each_cons (f _ _ e bs q) (keeps_all f h qs bs ks)

  -- each stands behind the same ones as before
  keeps_again : {before xs ks : List A} → Keeps t before xs ks → kept_by t before ks ≡ ks
  unfolding kept_by
  keeps_again keeps_none = refl
  keeps_again (keeps_first e h) = rw (first_kept t _ e, keeps_again h)
  keeps_again (drops_first e h) = keeps_again h

-- ---- what tidying keeps

pub kept_part : (os : List Constraint) → Part (kept os) os
unfolding kept
kept_part os = keeps_part (keeps stays [] os)

pub kept_each : {P : Constraint → Type 0} {os : List Constraint} → Each P os → Each P (kept os)
kept_each hs = part_each (kept_part _) hs

pub kept_twice : (os : List Constraint) → kept (kept os) ≡ kept os
unfolding kept
kept_twice os = keeps_again (keeps stays [] os)

-- none of them is decided, so none is refuted
kept_undecided : (os : List Constraint) → Each (λ c. decided c ≡ false) (kept os)
unfolding kept
kept_undecided os = keeps_each (λ before c e. not-true _ e) (keeps stays [] os)

pub kept_unrefuted : (os : List Constraint) → any_of refuted (kept os) ≡ false
kept_unrefuted os = each_none refuted (λ c e. rw e) (kept_undecided os)

module _ {p : ℕ} {a : List ℕ} (ha : Values p a) where
  -- one that goes holds where those before it hold, unless it is refuted
  goes_holds : (before : List Constraint) (c : Constraint) → stays before c ≡ false → HoldAll p a before
      → IsOther p c × (refuted c ≡ false) → Holds p a c
  goes_holds before c e hs (o, r) = decided_holds o ha (not-false _ e) r

  -- so where none is refuted they say what all say
  pub kept_says : {os : List Constraint} → Each (IsOther p) os → any_of refuted os ≡ false → HoldAll p a (kept os) ↔ HoldAll p a os
  unfolding kept
  kept_says {os} hs e = (
    keeps_all goes_holds (keeps stays [] os) (each_both (λ c o r. (o, r)) hs (none_each refuted (λ c r. r) os e)) each_nil,
    kept_each,
  )

-- ---- what Layer2 keeps

pub without_part : (x : ℕ) (cs : List Constraint) → Part (without x cs) cs
unfolding without
without_part x cs = keeps_part (keeps (lacks x) [] cs)

pub without_lacks : (x : ℕ) (cs : List Constraint) → Each (LackingIn x) (without x cs)
unfolding without
without_lacks x cs = keeps_each (λ before c e. has_lacking c (not-true _ e)) (keeps (lacks x) [] cs)

-- what they have, all have, if each with x has it
pub without_all : {P : Constraint → Type 0} (x : ℕ) {cs : List Constraint} → Each (λ c. has x c ≡ true → P c) cs
    → Each P (without x cs) → Each P cs
unfolding without
without_all x {cs} hs = keeps_all (λ before c e bs h. h (not-false _ e)) (keeps (lacks x) [] cs) hs each_nil
