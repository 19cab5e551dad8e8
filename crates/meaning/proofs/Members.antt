-- What holds of every member of a list, what stays of a list, and whether a member passes a test.
use mathlib.Core.Path.{◌≡◌, refl}
use mathlib.Core.Logic.{◌↔◌}
use mathlib.Core.Bool.{Bool, true, false, ◌||◌, or_assoc}
use mathlib.Core.List.{List, [], ◌∷◌, ◌++◌, map}
use Prim.Native.Nat.{ℕ, zero, suc, ◌+◌, ◌≤◌, ◌<◌}
use native.Mathlib.Omega.{arith}
use native.Mathlib.Nat.{le_of_suc-le-suc}
use native.Mathlib.Numerals.{add-one}
use lib.ListN.{length, get_or, set, take, drop, replicate, drop_of_length-le}
use lib.Seq.{drop-cons}
use Rattle.meaning.proofs.Tests.{neither}
use Rattle.meaning.specs.Lists.{Listed, first, later, Each, each_nil, each_cons, any_of}

-- ---- every member

module _ {A : Type 0} {P : A → Type 0} where
  pub each_get : {xs : List A} (i : ℕ) (d : A) → i < length xs → Each P xs → P (get_or xs i d)
  each_get i d l each_nil = absurd (let n : ⊥ = omega arith in n)
  each_get zero d l (each_cons h hs) = h
  each_get (suc i) d l (each_cons h hs) = each_get i d (le_of_suc-le-suc l) hs

  pub each_set : {xs : List A} (i : ℕ) (y : A) → P y → Each P xs → Each P (set xs i y)
  each_set i y k each_nil = each_nil
  each_set zero y k (each_cons h hs) = each_cons k hs
  each_set (suc i) y k (each_cons h hs) = each_cons h (each_set i y k hs)

  -- the member that was replaced has it too
  pub each_unset : (xs : List A) (i : ℕ) (y d : A) → P (get_or xs i d) → Each P (set xs i y) → Each P xs
  each_unset [] i y d h hs = each_nil
  each_unset (x ∷ xs) zero y d h (each_cons k hs) = each_cons h hs
  each_unset (x ∷ xs) (suc i) y d h (each_cons k hs) = each_cons k (each_unset xs i y d h hs)

  pub each_to : {Q : A → Type 0} → ((x : A) → P x → Q x) → {xs : List A} → Each P xs → Each Q xs
  each_to f each_nil = each_nil
  each_to f (each_cons {x = x} h hs) = each_cons (f x h) (each_to f hs)

  -- the first, and the rest
  pub each_head : {x : A} {xs : List A} → Each P (x ∷ xs) → P x
  each_head (each_cons h hs) = h

  pub each_tail : {x : A} {xs : List A} → Each P (x ∷ xs) → Each P xs
  each_tail (each_cons h hs) = hs

  -- of each that the list names
  pub each_listed : {x : A} {xs : List A} → Each P xs → Listed x xs → P x
  each_listed each_nil l = elim l [ ]
  each_listed (each_cons h hs) first = h
  each_listed (each_cons h hs) (later l) = each_listed hs l

  pub listed_each : (xs : List A) → ((x : A) → Listed x xs → P x) → Each P xs
  listed_each [] f = each_nil
  listed_each (x ∷ xs) f = each_cons (f x first) (listed_each xs (λ y l. f y (later l)))

  -- from two facts of each member
  pub each_both : {Q R : A → Type 0} → ((x : A) → P x → Q x → R x) → {xs : List A} → Each P xs → Each Q xs → Each R xs
  each_both f each_nil each_nil = each_nil
  each_both f (each_cons {x = x} h hs) (each_cons k ks) = each_cons (f x h k) (each_both f hs ks)

  -- two facts that come to the same for each member
  pub each_iff : {Q R : A → Type 0} → ((x : A) → P x → Q x ↔ R x) → {xs : List A} → Each P xs → Each Q xs ↔ Each R xs
  each_iff f hs = (each_both (λ x h. (f x h).0) hs, each_both (λ x h. (f x h).1) hs)

pub each_get_or : {A : Type 0} {P : A → Type 0} (xs : List A) (d : A) → ((i : ℕ) → P (get_or xs i d)) → Each P xs
each_get_or [] d h = each_nil
each_get_or (x ∷ xs) d h = each_cons (h 0) (each_get_or xs d (λ i. h (suc i)))

pub each_at : {A : Type 0} {P : A → Type 0} {xs : List A} {d : A} → Each P xs → P d → (i : ℕ) → P (get_or xs i d)
each_at each_nil e i = e
each_at (each_cons p ps) e zero = p
each_at (each_cons p ps) e (suc i) = each_at ps e i

pub each_append : {A : Type 0} {P : A → Type 0} {xs ys : List A} → Each P xs → Each P ys → Each P (xs ++ ys)
each_append each_nil qs = qs
each_append (each_cons p ps) qs = each_cons p (each_append ps qs)

pub each_take : {A : Type 0} {P : A → Type 0} {xs : List A} (n : ℕ) → Each P xs → Each P (take n xs)
each_take zero ps = each_nil
each_take (suc n) each_nil = each_nil
each_take (suc n) (each_cons p ps) = each_cons p (each_take n ps)

-- of every image
module _ {A B : Type 0} {P : B → Type 0} (f : A → B) where
  pub each_map : {xs : List A} → Each (λ x. P (f x)) xs → Each P (map f xs)
  each_map each_nil = each_nil
  each_map (each_cons h hs) = each_cons h (each_map hs)

  pub each_unmap : (xs : List A) → Each P (map f xs) → Each (λ x. P (f x)) xs
  each_unmap [] each_nil = each_nil
  each_unmap (x ∷ xs) (each_cons h hs) = each_cons h (each_unmap xs hs)

-- ---- what stays of a list

pub data Part {A : Type 0} : List A → List A → Type 0 where
  part_nil : Part [] []
  part_keep : {x : A} {xs ys : List A} → Part xs ys → Part (x ∷ xs) (x ∷ ys)
  part_drop : {y : A} {xs ys : List A} → Part xs ys → Part xs (y ∷ ys)

pub part_all : {A : Type 0} (xs : List A) → Part xs xs
part_all [] = part_nil
part_all (x ∷ xs) = part_keep (part_all xs)

pub part_length : {A : Type 0} {xs ys : List A} → Part xs ys → length xs ≤ length ys
part_length part_nil = omega arith
part_length (part_keep h) = omega (arith, part_length h)
part_length (part_drop h) = omega (arith, part_length h)

pub part_each : {A : Type 0} {P : A → Type 0} {xs ys : List A} → Part xs ys → Each P ys → Each P xs
part_each part_nil each_nil = each_nil
part_each (part_keep h) (each_cons k ks) = each_cons k (part_each h ks)
part_each (part_drop h) (each_cons k ks) = part_each h ks

pub part_map : {A B : Type 0} (f : A → B) {xs ys : List A} → Part xs ys → Part (map f xs) (map f ys)
part_map f part_nil = part_nil
part_map f (part_keep h) = part_keep (part_map f h)
part_map f (part_drop h) = part_drop (part_map f h)

pub empty : {A : Type 0} (xs : List A) → length xs ≤ 0 → xs ≡ []
empty [] l = refl
empty (x ∷ xs) l = absurd (let n : ⊥ = omega arith in n)

-- ---- whether a member passes a test

pub any_append : {A : Type 0} (f : A → Bool) (xs ys : List A) → any_of f (xs ++ ys) ≡ (any_of f xs || any_of f ys)
any_append f [] ys = refl
any_append f (x ∷ xs) ys = rw (any_append f xs ys, or_assoc)

pub any_zeros : (f : ℕ → Bool) (k : ℕ) (ys : List ℕ) → f 0 ≡ false → any_of f (replicate k 0 ++ ys) ≡ any_of f ys
any_zeros f zero ys e = refl
any_zeros f (suc k) ys e = rw (e, any_zeros f k ys e)

-- one from place i on
module _ {A : Type 0} (f : A → Bool) (xs : List A) (i : ℕ) where
  pub any_none : length xs ≤ i → false ≡ any_of f (drop i xs)
  any_none h = rw (drop_of_length-le xs h)

  pub any_here : (d : A) → i < length xs → f (get_or xs i d) ≡ true → true ≡ any_of f (drop i xs)
  any_here d h e = rw (drop-cons xs i d h, e)

  pub any_next : (d : A) → i < length xs → f (get_or xs i d) ≡ false → any_of f (drop (i + 1) xs) ≡ any_of f (drop i xs)
  any_next d h e = rw (add-one i, drop-cons xs i d h, e)

-- none at all
module _ {A : Type 0} {P : A → Type 0} (f : A → Bool) where
  pub none_each : ((x : A) → f x ≡ false → P x) → (xs : List A) → any_of f xs ≡ false → Each P xs
  none_each g [] e = each_nil
  none_each g (x ∷ xs) e =
      let n : (f x ≡ false) × (any_of f xs ≡ false) = neither (f x) (any_of f xs) e in
      each_cons (g x n.0) (none_each g xs n.1)

  pub each_none : ((x : A) → P x → f x ≡ false) → {xs : List A} → Each P xs → any_of f xs ≡ false
  each_none g each_nil = refl
  each_none g (each_cons {x = x} h hs) = rw (g x h) (each_none g hs)
