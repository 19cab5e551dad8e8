-- Powers of two as moduli: divisibility, differences, and the inverse of an odd number.
use mathlib.Core.Path.{◌≡◌, ap, sym, ◌∙◌}
use Prim.Native.Nat.{ℕ, zero, suc, ◌+◌, ◌*◌, ◌-◌, ◌^◌, ◌%◌, ◌/◌, ◌≤◌, ◌<◌}
use native.Mathlib.Omega.{arith}
use native.Mathlib.Nat.{mod-add-div, sub-add_cancel, two-pow-succ, mod-lt}
use lib.Pow.{pow-add, pow_pos}
use Rattle.meaning.specs.Number.{minus, inverse_in, inverse}
use Rattle.meaning.proofs.Congruence.{◌⊢◌≈◌, ≈sym, ≈trans, ≈mod, ≈·grw, ≈scale, ≈unscale, ≈down, of_quot, poly, polym, lin, lin≡}

-- ---- powers of two

pub two_split : {k p : ℕ} → k ≤ p → 2 ^ (p - k) * 2 ^ k ≡ 2 ^ p
two_split {k} {p} h = sym (pow-add 2 (p - k) k) ∙ ap (λ (n : ℕ). 2 ^ n) (sub-add_cancel h)

-- what holds modulo 2 ^ p holds modulo a smaller power
pub two_down : {p a b : ℕ} (k : ℕ) → k ≤ p → 2 ^ p ⊢ a ≈ b → 2 ^ k ⊢ a ≈ b
two_down {p} {a} {b} k h e = ≈down (2 ^ (p - k)) (rw (let s : 2 ^ k * 2 ^ (p - k) ≡ 2 ^ p = omega (arith, two_split h) in s) e)

-- factors 2 come in, and go out
pub two_in : {k p a b : ℕ} → k ≤ p → 2 ^ k ⊢ a ≈ b → 2 ^ p ⊢ 2 ^ (p - k) * a ≈ 2 ^ (p - k) * b
two_in {k} {p} h e = rw (← two_split h) (≈scale (2 ^ (p - k)) e)

pub two_out : {k p a b : ℕ} → k ≤ p → 2 ^ p ⊢ 2 ^ (p - k) * a ≈ 2 ^ (p - k) * b → 2 ^ k ⊢ a ≈ b
two_out {k} {p} {a} {b} h e =
    let f : (2 ^ (p - k) * 2 ^ k) ⊢ 2 ^ (p - k) * a ≈ 2 ^ (p - k) * b = rw (two_split h) e in
    ≈unscale (2 ^ (p - k)) (pow_pos (p - k)) f

-- 2 ^ (p − k) a is 0 modulo 2 ^ p just if 2 ^ k divides a
pub two_zero : {k p a : ℕ} → k ≤ p → 2 ^ k ⊢ a ≈ 0 → 2 ^ p ⊢ 2 ^ (p - k) * a ≈ 0
two_zero {k} {p} h e = ≈trans (two_in h e) (poly (omega arith))

pub zero_two : {k p a : ℕ} → k ≤ p → 2 ^ p ⊢ 2 ^ (p - k) * a ≈ 0 → 2 ^ k ⊢ a ≈ 0
zero_two {k} {p} h e = two_out h (≈trans e (poly (omega arith)))

-- ---- differences

pub minus_lt : (p x y : ℕ) → minus p x y < 2 ^ p
unfolding minus
minus_lt p x y = mod-lt _ (pow_pos p)

pub minus_add : (p x y : ℕ) → 2 ^ p ⊢ minus p x y + y ≈ x
unfolding minus
minus_add p x y =
    let m : ℕ = 2 ^ p in
    lin 1 (≈mod {m = m} (x + (m - y % m))) (polym 0 (1 + y / m) (omega (arith, mod-add-div y m, mod-lt y (pow_pos p))))

-- ---- the inverse of an odd number

pub record Odd (b : ℕ) : Type 0 where
  pub bit : b % 2 ≡ 1

-- what each turn keeps: b y is 1 but for a multiple of B, and w is 2 − b y
turn_near : {m : ℕ} (b y w u B : ℕ) → m ⊢ w + b * y ≈ 2 → m ⊢ b * y + u * B ≈ 1 → m ⊢ b * (y * w) + u * u * (B * B) ≈ 1
turn_near b y w u B f g = lin (b * y) f (lin (u * B) g (lin (b * y) (≈sym g) (lin 1 g (poly (omega arith)))))

tower : (t : ℕ) → 2 ^ (2 ^ suc t) ≡ 2 ^ (2 ^ t) * 2 ^ (2 ^ t)
tower t = ap (λ (n : ℕ). 2 ^ n) (two-pow-succ t) ∙ pow-add 2 (2 ^ t) (2 ^ t)

inverse_near : (p t : ℕ) {b : ℕ} → Odd b → (u : ℕ) × (2 ^ p ⊢ b * inverse_in p t b + u * 2 ^ (2 ^ t) ≈ 1)
unfolding inverse_in
inverse_near p zero {b} odd =
    let h : ℕ = b / 2 in
    let e : b ≡ 1 + 2 * h = omega arith in
    (h * (2 ^ p - 1), polym 0 (2 * h) (lin≡ (2 * h) (sub-add_cancel (pow_pos p)) (omega arith)))
inverse_near p (suc t) {b} odd =
    let r : (u : ℕ) × (2 ^ p ⊢ b * inverse_in p t b + u * 2 ^ (2 ^ t) ≈ 1) = inverse_near p t odd in
    let y : ℕ = inverse_in p t b in
    (r.0 * r.0, rw (tower t) (grw (≈·grw, ≈mod) (turn_near b y (minus p 2 (b * y)) r.0 (2 ^ (2 ^ t)) (minus_add p 2 (b * y)) r.1)))

exceeds : (p : ℕ) → p ≤ 2 ^ p
exceeds zero = omega arith
exceeds (suc p) = omega (arith, exceeds p, two-pow-succ p, pow_pos p)

pub inverse_law : (p : ℕ) {b : ℕ} → Odd b → 2 ^ p ⊢ b * inverse p b ≈ 1
unfolding inverse
inverse_law p {b} odd =
    let r : (u : ℕ) × (2 ^ p ⊢ b * inverse_in p p b + u * 2 ^ (2 ^ p) ≈ 1) = inverse_near p p odd in
    let z : 2 ^ p ⊢ 2 ^ (2 ^ p) ≈ 0 = of_quot (2 ^ (2 ^ p - p)) (omega (arith, two_split (exceeds p))) in
    lin 1 r.1 (lin r.0 (≈sym z) (poly (omega arith)))

pub inverse_lt : (p b : ℕ) → 0 < p → inverse p b < 2 ^ p
unfolding inverse inverse_in
inverse_lt zero b h = absurd (let z : ⊥ = omega arith in z)
inverse_lt (suc p) b h = mod-lt _ (pow_pos (suc p))

-- an odd factor comes off
pub odd_cancel : (p : ℕ) {b x y : ℕ} → Odd b → 2 ^ p ⊢ b * x ≈ b * y → 2 ^ p ⊢ x ≈ y
odd_cancel p {b} {x} {y} odd h = lin (inverse p b) h (lin x (≈sym (inverse_law p odd)) (lin y (inverse_law p odd) (poly (omega arith))))
