-- Congruence modulo m, as a record, so that m, a and b are found from a hypothesis or a goal. A law is proved by guessing
-- multiples: `polym`, and `lin` for each fact that goes in, closed by `omega arith`.
use mathlib.Core.Path.{◌≡◌, refl, ap, sym, ◌∙◌}
use Prim.Native.Nat.{ℕ, ◌+◌, ◌*◌, ◌%◌, ◌/◌, ◌<◌}
use native.Mathlib.Omega.{arith}
use native.Mathlib.Nat.{add-mul-mod_self_left, mod-add-div, mod-mod, mod-eq_of_lt, zero-mod, eq_of_mul-eq-mul_left, add_right_cancel}

infix 4 ◌⊢◌≈◌
pub record ◌⊢◌≈◌ (m a b : ℕ) : Type 0 where
  pub eq : a % m ≡ b % m

-- L ≡ R from u ≡ v taken c times: `omega` takes a hypothesis only a fixed number of times
pub lin≡ : {L R u v : ℕ} (c : ℕ) → u ≡ v → L + c * v ≡ R + c * u → L ≡ R
lin≡ {L} {R} {u} {v} c h e = add_right_cancel (c * v) (e ∙ ap (λ (x : ℕ). R + c * x) h)

module _ {m : ℕ} where
  pub ≈refl : {a : ℕ} → m ⊢ a ≈ a
  ≈refl = record { eq = refl }

  pub ≈sym : {a b : ℕ} → m ⊢ a ≈ b → m ⊢ b ≈ a
  ≈sym h = record { eq = sym h.eq }

  pub ≈trans : {a b c : ℕ} → m ⊢ a ≈ b → m ⊢ b ≈ c → m ⊢ a ≈ c
  ≈trans h k = record { eq = h.eq ∙ k.eq }

  -- an equation; an equation up to multiples of m; and back
  pub poly : {a b : ℕ} → a ≡ b → m ⊢ a ≈ b
  poly e = record { eq = ap (λ (x : ℕ). x % m) e }

  pub polym : {a b : ℕ} (k j : ℕ) → a + m * k ≡ b + m * j → m ⊢ a ≈ b
  polym {a} {b} k j e = record { eq = sym (add-mul-mod_self_left a m k) ∙ ap (λ (x : ℕ). x % m) e ∙ add-mul-mod_self_left b m j }

  pub witness : {a b : ℕ} → m ⊢ a ≈ b → a + m * (b / m) ≡ b + m * (a / m)
  witness {a} {b} h = let e : a % m ≡ b % m = h.eq in omega (arith, mod-add-div a m, mod-add-div b m)

  pub ≈add : {a b c d : ℕ} → m ⊢ a ≈ b → m ⊢ c ≈ d → m ⊢ a + c ≈ b + d
  ≈add {a} {b} {c} {d} h k = polym (b / m + d / m) (a / m + c / m) (omega (arith, witness h, witness k))

  pub ≈mulr : {a b : ℕ} (c : ℕ) → m ⊢ a ≈ b → m ⊢ a * c ≈ b * c
  ≈mulr {a} {b} c h =
      polym (b / m * c) (a / m * c) (let e : (a + m * (b / m)) * c ≡ (b + m * (a / m)) * c = ap (λ (x : ℕ). x * c) (witness h) in omega arith)

  pub ≈mul : {a b c d : ℕ} → m ⊢ a ≈ b → m ⊢ c ≈ d → m ⊢ a * c ≈ b * d
  ≈mul {a} {b} {c} {d} h k = ≈trans (≈mulr c h) (≈trans (poly (omega arith)) (≈trans (≈mulr b k) (poly (omega arith))))

  pub ≈mod : (a : ℕ) → m ⊢ a % m ≈ a
  ≈mod a = record { eq = mod-mod a m }

  -- a term comes off both sides
  pub ≈cancel : {a b : ℕ} (c : ℕ) → m ⊢ a + c ≈ b + c → m ⊢ a ≈ b
  ≈cancel {a} {b} c h = polym ((b + c) / m) ((a + c) / m) (omega (arith, witness h))

  -- L ≈ R from u ≈ v taken c times, or −c times
  pub lin : {L R u v : ℕ} (c : ℕ) → m ⊢ u ≈ v → m ⊢ L + c * v ≈ R + c * u → m ⊢ L ≈ R
  lin {L} {R} {u} {v} c h k =
      ≈cancel (c * v) (≈trans k (≈add ≈refl (≈trans (poly (omega arith)) (≈trans (≈mulr c h) (poly (omega arith))))))

  pub lin⁻ : {L R u v : ℕ} (c : ℕ) → m ⊢ u ≈ v → m ⊢ L + c * u ≈ R + c * v → m ⊢ L ≈ R
  lin⁻ c h k = lin c (≈sym h) k

  -- small numbers that are congruent are equal
  pub ≈small : {a b : ℕ} → m ⊢ a ≈ b → a < m → b < m → a ≡ b
  ≈small h p q = sym (mod-eq_of_lt p) ∙ h.eq ∙ mod-eq_of_lt q

  -- m divides a
  pub ≈zero : {a : ℕ} → a % m ≡ 0 → m ⊢ a ≈ 0
  ≈zero {a} e = record { eq = e ∙ sym (zero-mod m) }

  pub zero≈ : {a : ℕ} → m ⊢ a ≈ 0 → a % m ≡ 0
  zero≈ h = h.eq ∙ zero-mod m

  pub quot : {a : ℕ} → m ⊢ a ≈ 0 → a ≡ m * (a / m)
  quot {a} h = let e : a % m ≡ 0 = zero≈ h in omega (arith, mod-add-div a m)

  pub of_quot : {a : ℕ} (b : ℕ) → a ≡ m * b → m ⊢ a ≈ 0
  of_quot b e = polym 0 b (omega arith)

-- a congruence modulo m n is one modulo m
pub ≈down : {m a b : ℕ} (n : ℕ) → (m * n) ⊢ a ≈ b → m ⊢ a ≈ b
≈down {m} {a} {b} n h = polym (n * (b / (m * n))) (n * (a / (m * n))) (omega (arith, witness h))

-- a common factor comes in, and goes out
pub ≈scale : {m a b : ℕ} (n : ℕ) → m ⊢ a ≈ b → (n * m) ⊢ n * a ≈ n * b
≈scale {m} {a} {b} n h = polym (b / m) (a / m) (let e : (a + m * (b / m)) * n ≡ (b + m * (a / m)) * n = ap (λ (x : ℕ). x * n) (witness h) in omega arith)

pub ≈unscale : {m a b : ℕ} (n : ℕ) → 0 < n → (n * m) ⊢ n * a ≈ n * b → m ⊢ a ≈ b
≈unscale {m} {a} {b} n p h = polym (n * b / (n * m)) (n * a / (n * m)) (eq_of_mul-eq-mul_left n p _ _ (omega (arith, witness h)))

-- for `grw`: rewriting by congruences under + and *
pub ruleset ≈·grw = (≈trans, ≈refl, ≈add, ≈mul)
