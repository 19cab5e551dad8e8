-- A turn of Newton's doubles the low bits of an inverse that are right, and there is one inverse modulo 2 ^ p.
use Rattle.std.proofs.Common.{◌≡◌, ℕ, zero, suc, ◌+◌, ◌*◌, ◌/◌, ◌%◌, ◌^◌, ◌<◌, ◌≤◌, refl, mod-lt, mod-eq_of_lt, arith, pow_pos, pow-add}
use Rattle.std.proofs.Math.Nat.{mod-add-div}
use Rattle.std.proofs.Math.Pow.{pow-lt}
use Rattle.meaning.specs.Number.{minus, inverse}
use Rattle.meaning.proofs.Congruence.{◌⊢◌≈◌, ≈refl, ≈sym, ≈trans, ≈mod, ≈mul, ≈small, lin, lin≡, poly, polym}
use Rattle.meaning.proofs.Two.{Odd, two_down, minus_add, inverse_law, inverse_lt, odd_cancel}
use Rattle.word.proofs.Laws.{low_word}

-- n is 1 modulo K, and w is 2 − n modulo K * K
squared : (n w K : ℕ) → 1 < K → K ⊢ n ≈ 1 → (K * K) ⊢ w + n ≈ 2 → (K * K) ⊢ n * w ≈ 1
squared n w K h e f =
    let c : ℕ = n / K in
    let d : K * c + 1 ≡ n = omega (arith, mod-add-div n K, e.eq, mod-eq_of_lt h) in
    lin n f (polym (c * c) 0 (lin≡ n d (lin≡ (K * c) d (omega arith))))

-- where k bits of y are right, 2 k bits are after a turn at 32 bits
pub turned : (b y k : ℕ) {z : ℕ} → 1 ≤ k → k + k ≤ 32 → z ≡ (y * minus 32 2 (b * y)) % 2 ^ 32 → 2 ^ k ⊢ b * y ≈ 1 → 2 ^ (k + k) ⊢ b * z ≈ 1
turned b y k h m t e =
    let w : ℕ = minus 32 2 (b * y) in
    let n : 2 ^ (k + k) ⊢ w + b * y ≈ 2 = two_down (k + k) m (minus_add 32 2 (b * y)) in
    let s : (2 ^ k * 2 ^ k) ⊢ b * y * w ≈ 1 = squared (b * y) w (2 ^ k) (pow-lt {i = 0} {j = k} h) e (rw (pow-add 2 k k) at n) in
    let s' : 2 ^ (k + k) ⊢ b * y * w ≈ 1 = rw (pow-add 2 k k) s in
    ≈trans (≈mul (≈refl {a = b}) (≈trans (poly t) (low_word (y * w) m))) (≈trans (poly (omega arith)) s')

-- an odd number, 4 c + 1 or 4 c + 3, is its own inverse modulo 8
square : (b c d k : ℕ) → b ≡ 4 * c + d → d * d ≡ 8 * k + 1 → 2 ^ 3 ⊢ b * b ≈ 1
square b c d k e f = polym 0 (2 * (c * c) + c * d + k) (lin≡ b e (lin≡ (4 * c + d) e (omega arith)))

pub own_inverse : {b : ℕ} → Odd b → 2 ^ 3 ⊢ b * b ≈ 1
own_inverse {b} odd = go (b / 2 % 2) refl
  where
    go : (h : ℕ) → b / 2 % 2 ≡ h → 2 ^ 3 ⊢ b * b ≈ 1
    go zero e = square b (b / 4) 1 0 (omega arith) refl
    go (suc h) e = square b (b / 4) 3 1 (omega arith) refl

-- the only number below 2 ^ p that is an inverse
pub is_inverse : {p b : ℕ} (y : ℕ) → Odd b → 1 ≤ p → 2 ^ p ⊢ b * y ≈ 1 → y % 2 ^ p ≡ inverse p b
is_inverse {p} {b} y odd h e =
    ≈small (≈trans (≈mod y) (odd_cancel p odd (≈trans e (≈sym (inverse_law p odd))))) (mod-lt y (pow_pos p)) (inverse_lt p b h)
