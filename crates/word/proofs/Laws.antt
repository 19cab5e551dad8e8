-- Words of 32 bits as numbers modulo 2 ^ p, p up to 32.
use Rattle.std.proofs.Common.{◌≡◌, ℕ, zero, suc, ◌+◌, ◌*◌, ◌/◌, ◌%◌, ◌^◌, ◌<◌, ◌≤◌, min, refl, ap, ◌∙◌, lt_of_lt_of_le, mod-lt, mul-le-mul_left, one-mul, arith, lit<, pow_pos, pow_mono, shl_exact}
use Rattle.std.specs.Int.Count.{count_trailing_zeros, under}
use Rattle.meaning.specs.Number.{minus, kappa}
use Rattle.meaning.proofs.Congruence.{◌⊢◌≈◌, ≈sym, ≈trans, ≈mod, ≈small, lin, poly}
use Rattle.meaning.proofs.Two.{two_down, minus_lt, minus_add}
use Rattle.meaning.proofs.Kappa.{kappa_le, kappa_divides, divides_below, kappa_greatest}

-- ---- words

-- 1 << p at 64 bits
pub one_shl : (p : ℕ) → p ≤ 32 → (1 * 2 ^ p) % 2 ^ 64 ≡ 2 ^ p
one_shl p h = shl_exact {a = 1} 1 p 64 (lit< tt) (omega arith) ∙ one-mul (2 ^ p)

-- the product of two words fits two words
pub product_lt : {a b : ℕ} → a < 2 ^ 32 → b < 2 ^ 32 → a * b < 2 ^ 64
product_lt {a} {b} ha hb = let m : a * b ≤ a * 4294967295 = mul-le-mul_left a (omega arith) in omega arith

-- what is left modulo 2 ^ p is a word
pub mod_word : (x p : ℕ) → p ≤ 32 → x % 2 ^ p < 2 ^ 32
mod_word x p h = lt_of_lt_of_le (mod-lt x (pow_pos p)) (pow_mono h)

-- the low word is the number, as far as 2 ^ p sees it
pub low_word : {p : ℕ} (x : ℕ) → p ≤ 32 → 2 ^ p ⊢ x % 2 ^ 32 ≈ x
low_word {p} x h = two_down p h (≈mod x)

-- so is the low word of a product the product, and that of a sum the sum
pub low_is : {p x y r : ℕ} → p ≤ 32 → r ≡ x % 2 ^ 32 → x ≡ y → 2 ^ p ⊢ r ≈ y
low_is {p} {x} h e f = ≈trans (poly e) (≈trans (low_word x h) (poly f))

-- ---- differences

-- r is x less y where y more than r is x
pub is_minus : (p x y r : ℕ) → 2 ^ p ⊢ r + y ≈ x → r % 2 ^ p ≡ minus p x y
is_minus p x y r h =
    let e : 2 ^ p ⊢ r ≈ minus p x y = lin 1 h (lin 1 (≈sym (minus_add p x y)) (poly (omega arith))) in
    ≈small (≈trans (≈mod r) e) (mod-lt r (pow_pos p)) (minus_lt p x y)

-- what is taken off counts modulo 2 ^ p
pub minus_same : (p x : ℕ) {y z : ℕ} → 2 ^ p ⊢ y ≈ z → minus p x y ≡ minus p x z
minus_same p x {y} {z} h =
    let g : 2 ^ p ⊢ minus p x z + y ≈ x = lin 1 (minus_add p x z) (lin 1 h (poly (omega arith))) in
    let e : 2 ^ p ⊢ minus p x y ≈ minus p x z = lin 1 (minus_add p x y) (lin 1 (≈sym g) (poly (omega arith))) in
    ≈small e (minus_lt p x y) (minus_lt p x z)

-- ---- κ is the machine's count of zeros

under_kappa : (b : ℕ) {t k : ℕ} → t ≡ k → under b t ≡ elim b [ zero ↦ suc k | suc c ↦ 0 ]
under_kappa zero e = ap suc e
under_kappa (suc b) e = refl

pub kappa_zeros : (p x : ℕ) → count_trailing_zeros p x ≡ kappa p x
unfolding count_trailing_zeros kappa
kappa_zeros zero x = refl
kappa_zeros (suc p) x = under_kappa (x % 2) (kappa_zeros p (x / 2))

-- counted no further than p
pub kappa_min : (p w x : ℕ) → p ≤ w → kappa p x ≡ min (kappa w x) p
kappa_min p w x h =
    let k : ℕ = min (kappa w x) p in
    let least : k ≤ kappa p x = kappa_greatest p k (omega arith) (divides_below w k (omega arith)) in
    let most : kappa p x ≤ kappa w x = kappa_greatest w (kappa p x) (omega (arith, kappa_le p x)) (kappa_divides p x) in
    omega (arith, kappa_le p x)
