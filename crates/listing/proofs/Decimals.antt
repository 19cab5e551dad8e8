-- A number in decimal is what the library prints of it.
use Rattle.std.proofs.Common.{◌≡◌, ℕ, zero, suc, ◌+◌, ◌/◌, ◌%◌, ◌^◌, ◌≤◌, ◌<◌, List, [], ◌∷◌, ◌++◌, length, refl, arith}
use Rattle.std.proofs.lemmas.Fmt.{AppendsLastDigit, decimal_from_appends, length-decimal-le}
use Rattle.std.specs.Prelude.{decimal as printed}
use Rattle.meaning.specs.Listing.{decimal_in, decimal, digit}

some : (q : ℕ) (a b : List ℕ) → 0 < q → elim q as (λ x. List ℕ) [ zero ↦ a | suc r ↦ b ] ≡ b
some zero a b h = absurd (let z : ⊥ = omega arith in z)
some (suc q) a b h = refl

one : (k x : ℕ) → x < 10 → decimal_in (suc k) x ≡ (48 + x) ∷ []
unfolding decimal_in
one k x h =
    let e : x / 10 ≡ 0 = omega arith in
    rw (e, decimal_in)

more : (k x : ℕ) → 10 ≤ x → decimal_in (suc k) x ≡ decimal_in k (x / 10) ++ ((48 + x % 10) ∷ [])
unfolding decimal_in
more k x h = some (x / 10) (digit x ∷ []) (decimal_in k (x / 10) ++ (digit (x % 10) ∷ [])) (omega arith)

pub decimal_one : (x : ℕ) → x < 10 → decimal x ≡ (48 + x) ∷ []
unfolding decimal
decimal_one x h = one 9 x h

appends : AppendsLastDigit decimal_in
appends = record { one = one; more = more }

short : (x : ℕ) → x < 2 ^ 32 → length (printed x) ≤ 10
short x h = length-decimal-le 10 x (omega arith) (omega arith) (omega arith)

pub decimal_is_printed : (x : ℕ) → x < 2 ^ 32 → decimal x ≡ printed x
unfolding decimal
decimal_is_printed x h = decimal_from_appends decimal_in appends 10 x (omega arith) (short x h)

pub decimal_short : (x : ℕ) → x < 2 ^ 32 → length (decimal x) ≤ 10
decimal_short x h = rw (decimal_is_printed x h) (short x h)
