-- Members of a list that is mapped.
use Rattle.std.proofs.Common.{◌≡◌, List, map, ◌++◌, ℕ, ◌<◌, length, take, drop, get_or, subst, arith}
use Rattle.std.proofs.lemmas.Grind.{common_steps}
use Rattle.std.proofs.lemmas.List.{get_or-map, length-map}
use Rattle.meaning.specs.Lists.{Each}
use Rattle.meaning.proofs.Members.{each_get}

-- a fact of each member, where the list is mapped
pub each_map : {A B : Type 0} {P : B → Type 0} (f : A → B) (xs : List A) (i : ℕ) (d : A) → i < length xs → Each P (map f xs) → P (f (get_or xs i d))
each_map {P = P} f xs i d l h = subst P (get_or-map f xs i d (f d) l) (each_get i (f d) (omega (arith, length-map xs f, l)) h)

-- the members that a loop which maps in place has not reached are as they were
pub get_or_behind : {A : Type 0} (f : A → A) (xs : List A) (i : ℕ) (d : A) → i < length xs
    → get_or (map f (take i xs) ++ drop i xs) i d ≡ get_or xs i d
get_or_behind f xs i d l =
    let n : length (map f (take i xs)) ≡ i = grind (arith, common_steps) in
    grind (arith, common_steps, n)
