-- The tests of all the members of a list.
use Rattle.std.proofs.Common.{◌≡◌, Bool, ◌&&◌, List, [], ◌∷◌, refl, ap}
use Rattle.std.specs.List.{list_all}
use Rattle.meaning.specs.Lists.{all_of}

-- the library's test of each member is that of `meaning`
pub all_is : {A : Type 0} (f : A → Bool) (l : List A) → list_all f l ≡ all_of f l
all_is f [] = refl
all_is f (x ∷ l) = ap (λ (b : Bool). f x && b) (all_is f l)
