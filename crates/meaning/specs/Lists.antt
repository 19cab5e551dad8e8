-- Tests and facts of all the members of a list, and those that a test keeps.
use Rattle.std.specs.Prelude.{ℕ, Bool, true, false, ◌&&◌, ◌||◌, List, [], ◌∷◌, ◌++◌, eqb}

abbrev pub all_of : {A : Type 0} → (A → Bool) → List A → Bool
all_of f [] = true
all_of f (x ∷ xs) = f x && all_of f xs

abbrev pub any_of : {A : Type 0} → (A → Bool) → List A → Bool
any_of f [] = false
any_of f (x ∷ xs) = f x || any_of f xs

abbrev pub same : List ℕ → List ℕ → Bool
same [] [] = true
same [] (y ∷ ys) = false
same (x ∷ xs) [] = false
same (x ∷ xs) (y ∷ ys) = eqb x y && same xs ys

-- the members that a test keeps, front to back; it may look at those kept before
unfoldable pub kept_by : {A : Type 0} → (List A → A → Bool) → List A → List A → List A
kept_by t before [] = []
kept_by t before (x ∷ xs) = elim (t before x) [ true ↦ x ∷ kept_by t (before ++ (x ∷ [])) xs | false ↦ kept_by t before xs ]

-- the list names x
pub data Listed {A : Type 0} (x : A) : List A → Type 0 where
  first : {xs : List A} → Listed x (x ∷ xs)
  later : {y : A} {xs : List A} → Listed x xs → Listed x (y ∷ xs)

-- P of every member
pub data Each {A : Type 0} (P : A → Type 0) : List A → Type 0 where
  each_nil : Each P []
  each_cons : {x : A} {xs : List A} → P x → Each P xs → Each P (x ∷ xs)

-- R of every member with every later one
pub data EachPair {A : Type 0} (R : A → A → Type 0) : List A → Type 0 where
  pair_nil : EachPair R []
  pair_cons : {x : A} {xs : List A} → Each (R x) xs → EachPair R xs → EachPair R (x ∷ xs)
