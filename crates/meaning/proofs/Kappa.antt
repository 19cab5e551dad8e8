-- κ: a number is 2 ^ κ times an odd one, or zero modulo 2 ^ p.
use mathlib.Core.Path.{◌≡◌, refl, ap, sym, ◌∙◌}
use Prim.Native.Nat.{ℕ, zero, suc, ◌*◌, ◌^◌, ◌%◌, ◌/◌, ◌≤◌, ◌<◌}
use native.Mathlib.Omega.{arith}
use native.Mathlib.Nat.{mul-div_cancel_left, pow-succ', one-mul, mod-one, mod-eq_of_lt}
use lib.Pow.{pow_pos}
use Rattle.meaning.specs.Number.{kappa}
use Rattle.meaning.proofs.Congruence.{◌⊢◌≈◌, ≈zero, zero≈, of_quot, quot}
use Rattle.meaning.proofs.Two.{Odd, two_down}

kappa_even : (p x : ℕ) → x % 2 ≡ 0 → kappa (suc p) x ≡ suc (kappa p (x / 2))
unfolding kappa
kappa_even p x e = rw (e, kappa)

kappa_odd : (p x : ℕ) → x % 2 ≡ 1 → kappa (suc p) x ≡ 0
unfolding kappa
kappa_odd p x e = rw (e, kappa)

kappa_none : (x : ℕ) → kappa zero x ≡ 0
unfolding kappa
kappa_none x = refl

-- x is 2 ^ k times the odd number o
pub record Split (x k o : ℕ) : Type 0 where
  pub is : x ≡ 2 ^ k * o
  pub odd : Odd o

-- the two cases: below p, the odd part is the whole quotient; at p, 2 ^ p divides x
pub data Kappa (p x : ℕ) : ℕ → Type 0 where
  divides : {k : ℕ} → k < p → Split x k (x / 2 ^ k) → Kappa p x k
  vanishes : 2 ^ p ⊢ x ≈ 0 → Kappa p x p

split_quot : {x k o : ℕ} → Split x k o → x / 2 ^ k ≡ o
split_quot {x} {k} {o} s = rw s.is (mul-div_cancel_left o (pow_pos k))

split_own : {x k o : ℕ} → Split x k o → Split x k (x / 2 ^ k)
split_own s = rw (split_quot s) s

pub kappa_law : (p x : ℕ) → Kappa p x (kappa p x)
kappa_law zero x = rw (kappa_none x) (vanishes (≈zero (mod-one x)))
kappa_law (suc p) x = go (x % 2) refl (kappa_law p (x / 2))
  where
    twice : (k o : ℕ) → x % 2 ≡ 0 → x / 2 ≡ 2 ^ k * o → x ≡ 2 ^ suc k * o
    twice k o e h = rw (pow-succ' 2 k) (omega arith)

    up : {k : ℕ} → x % 2 ≡ 0 → Kappa p (x / 2) k → Kappa (suc p) x (suc k)
    up e (divides {k = k} l s) = divides {k = suc k} (omega arith) (split_own (record { is = twice k _ e s.is; odd = s.odd }))
    up e (vanishes z) = vanishes (of_quot _ (twice p _ e (quot z)))

    go : (b : ℕ) → x % 2 ≡ b → Kappa p (x / 2) (kappa p (x / 2)) → Kappa (suc p) x (kappa (suc p) x)
    go zero e r = rw (kappa_even p x e) (up e r)
    go (suc b) e r =
        let o : x % 2 ≡ 1 = omega arith in
        rw (kappa_odd p x o) (divides {k = 0} (omega arith) (split_own (record { is = sym (one-mul x); odd = record { bit = o } })))

-- ---- what it comes to

pub kappa_le : (p x : ℕ) → kappa p x ≤ p
kappa_le p x = go (kappa_law p x)
  where
    go : {k : ℕ} → Kappa p x k → k ≤ p
    go (divides l s) = omega arith
    go (vanishes z) = omega arith

-- 2 ^ κ divides
pub kappa_divides : (p x : ℕ) → 2 ^ kappa p x ⊢ x ≈ 0
kappa_divides p x = go (kappa_law p x)
  where
    go : {k : ℕ} → Kappa p x k → 2 ^ k ⊢ x ≈ 0
    go (divides l s) = of_quot _ s.is
    go (vanishes z) = z

pub divides_below : (p k : ℕ) {x : ℕ} → k ≤ kappa p x → 2 ^ k ⊢ x ≈ 0
divides_below p k {x} h = two_down k h (kappa_divides p x)

-- κ of zero is p, and only of zero among the words
pub kappa_zero : (p : ℕ) → kappa p 0 ≡ p
kappa_zero zero = kappa_none 0
kappa_zero (suc p) = kappa_even p 0 refl ∙ ap suc (kappa_zero p)

pub zero_of_kappa : (p : ℕ) {x : ℕ} → x < 2 ^ p → p ≤ kappa p x → x ≡ 0
zero_of_kappa p {x} small h = sym (mod-eq_of_lt small) ∙ zero≈ (divides_below p p h)

pub kappa_split : (p x : ℕ) → kappa p x < p → Split x (kappa p x) (x / 2 ^ kappa p x)
kappa_split p x l = go (kappa_law p x) l
  where
    go : {k : ℕ} → Kappa p x k → k < p → Split x k (x / 2 ^ k)
    go (divides l s) h = s
    go (vanishes z) h = absurd (let n : ⊥ = omega arith in n)

-- what 2 ^ k divides has no less κ
pub kappa_greatest : (p k : ℕ) {x : ℕ} → k ≤ p → 2 ^ k ⊢ x ≈ 0 → k ≤ kappa p x
kappa_greatest p zero l h = omega arith
kappa_greatest zero (suc k) l h = absurd (let n : ⊥ = omega arith in n)
kappa_greatest (suc p) (suc k) {x} l h =
    let e : x ≡ 2 * (2 ^ k * (x / 2 ^ suc k)) = quot h ∙ rw (pow-succ' 2 k) (omega arith) in
    let half : x / 2 ≡ 2 ^ k * (x / 2 ^ suc k) = omega arith in
    let r : k ≤ kappa p (x / 2) = kappa_greatest p k (omega arith) (of_quot (x / 2 ^ suc k) half) in
    rw (kappa_even p x (omega arith)) (omega arith)

-- κ of a power of two
pub kappa_power : (p k : ℕ) → k < p → kappa p (2 ^ k) ≡ k
kappa_power zero k l = absurd (let n : ⊥ = omega arith in n)
kappa_power (suc p) zero l = kappa_odd p 1 refl
kappa_power (suc p) (suc k) l =
    let e : 2 ^ suc k ≡ 2 * 2 ^ k = pow-succ' 2 k in
    kappa_even p (2 ^ suc k) (omega arith) ∙ ap suc (ap (kappa p) (let h : 2 ^ suc k / 2 ≡ 2 ^ k = omega arith in h) ∙ kappa_power p k (omega arith))
