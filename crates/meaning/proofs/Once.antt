-- A list that names words below n, each once, is no longer than n.
use mathlib.Core.Path.{◌≡◌, refl, ap, sym}
use mathlib.Core.Logic.{◌≢◌}
use mathlib.Core.Bool.{false}
use mathlib.Core.List.{List, [], ◌∷◌}
use Prim.Native.Nat.{ℕ, zero, suc, ◌≤◌, ◌<◌}
use native.Mathlib.Decide.{dec_le}
use native.Mathlib.Omega.{arith}
use lib.Dec.{eqb}
use lib.ListN.{length, get_or}
use borrow.Author.Tests.{eqb-false}
use Rattle.meaning.specs.Lists.{Each, any_of}
use Rattle.meaning.specs.Refusal.{twice}
use Rattle.meaning.proofs.Tests.{neither}
use Rattle.meaning.proofs.Members.{each_get, none_each}
use Rattle.meaning.proofs.Pigeon.{Once, pigeon}

named_before : (x : ℕ) (xs : List ℕ) → twice (x ∷ xs) ≡ false → (j : ℕ) → j < length xs → x ≢ get_or xs j 0
named_before x xs e j b =
    let h : Each (λ y. x ≢ y) xs = none_each (eqb x) (eqb-false x) xs (neither (any_of (eqb x) xs) (twice xs) e).0 in
    each_get j 0 b h

pub named_once : (xs : List ℕ) → twice xs ≡ false → (i j : ℕ) → i < length xs → j < length xs → get_or xs i 0 ≡ get_or xs j 0 → i ≡ j
named_once [] e i j bi bj s = absurd (let z : ⊥ = omega arith in z)
named_once (x ∷ xs) e zero zero bi bj s = refl
named_once (x ∷ xs) e zero (suc j) bi bj s = absurd (named_before x xs e j (omega arith) s)
named_once (x ∷ xs) e (suc i) zero bi bj s = absurd (named_before x xs e i (omega arith) (sym s))
named_once (x ∷ xs) e (suc i) (suc j) bi bj s =
    ap suc (named_once xs (neither (any_of (eqb x) xs) (twice xs) e).1 i j (omega arith) (omega arith) s)

pub list_short : {n : ℕ} {xs : List ℕ} → Each (λ x. x < n) xs → twice xs ≡ false → length xs ≤ n
list_short {n} {xs} h e = go (dec_le (length xs) n)
  where
    once : Once (λ i. get_or xs i 0) n (length xs)
    once i j bi bj l s = named_once xs e i j bi bj s

    go : Dec (length xs ≤ n) → length xs ≤ n
    go (yes l) = l
    go (no l) =
        let r = pigeon (λ i. get_or xs i 0) n (length xs) (omega arith) once in
        let b : get_or xs r.0 0 < n = each_get r.0 0 r.1 h in
        omega (arith, r.2)
