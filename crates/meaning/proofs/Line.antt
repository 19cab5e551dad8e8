-- A function of one word that rises by c with it, as a term does by its coefficient: which words share a value modulo 2 ^ p,
-- and how the values spread over the words whose low p − k bits are given.
use mathlib.Core.Path.{◌≡◌, ap, sym, ◌∙◌}
use Prim.Native.Nat.{ℕ, suc, pred, ◌+◌, ◌*◌, ◌-◌, ◌^◌, ◌/◌, ◌%◌, ◌≤◌, ◌<◌}
use native.Mathlib.Omega.{arith}
use native.Mathlib.Nat.{mod-one, mod-lt, mod-add-div, mul-div-le, mul-le-mul_left, eq_of_mul-eq-mul_left, suc-pred-eq_of_pos}
use lib.Pow.{pow-add, pow_pos}
use Rattle.meaning.specs.Number.{kappa, inverse}
use Rattle.meaning.proofs.Congruence.{◌⊢◌≈◌, ≈trans, ≈scale, ≈unscale, quot, poly, polym, lin}
use Rattle.meaning.proofs.Two.{two_split, two_down, inverse_law, odd_cancel}
use Rattle.meaning.proofs.Kappa.{Split, Kappa, divides, vanishes, kappa_law, kappa_le, kappa_divides, kappa_split}

pub record Slope (c : ℕ) (f : ℕ → ℕ) : Type 0 where
  pub rises : (u v : ℕ) → f v + c * u ≡ f u + c * v

two_join : {k p : ℕ} → k ≤ p → 2 ^ k * 2 ^ (p - k) ≡ 2 ^ p
two_join h = omega (arith, two_split h)

-- ---- which words share a value: those that agree in the low p − κ bits

same_by : {c v u M : ℕ} {f : ℕ → ℕ} (P K q : ℕ) → Slope c f → K * M ≡ P → c ≡ K * q → M ⊢ v ≈ u → P ⊢ f v ≈ f u
same_by {c} {v} {u} P K q s join split h =
    rw (← join) (lin q (≈scale K h) (poly (omega (arith, s.rises u v, ap (λ (z : ℕ). z * u) split, ap (λ (z : ℕ). z * v) split))))

pub same : {c v u : ℕ} {f : ℕ → ℕ} (p : ℕ) → Slope c f → 2 ^ (p - kappa p c) ⊢ v ≈ u → 2 ^ p ⊢ f v ≈ f u
same {c} p s h = same_by (2 ^ p) _ _ s (two_join (kappa_le p c)) (quot (kappa_divides p c)) h

back_by : {c v u K M : ℕ} {f : ℕ → ℕ} (P q : ℕ) → Slope c f → 0 < K → K * M ≡ P → c ≡ K * q → P ⊢ f v ≈ f u → M ⊢ q * v ≈ q * u
back_by {c} {v} {u} {K} {M} {f} P q s pos join split h =
    let g : (K * M) ⊢ f v ≈ f u = rw join h in
    ≈unscale K pos (lin 1 g (poly (omega (arith, s.rises u v, ap (λ (z : ℕ). z * u) split, ap (λ (z : ℕ). z * v) split))))

pub back : {c v u : ℕ} {f : ℕ → ℕ} (p : ℕ) → Slope c f → 2 ^ p ⊢ f v ≈ f u → 2 ^ (p - kappa p c) ⊢ v ≈ u
back {c} {v} {u} p s h = go (kappa_law p c)
  where
    go : {k : ℕ} → Kappa p c k → 2 ^ (p - k) ⊢ v ≈ u
    go (divides {k = k} l d) = odd_cancel (p - k) d.odd (back_by (2 ^ p) _ s (pow_pos k) (two_join (omega arith)) d.is h)
    go (vanishes z) = rw (let e : p - p ≡ 0 = omega arith in e) (record { eq = mod-one v ∙ sym (mod-one u) })

-- ---- how the values spread

-- the least multiple of m from l on
first : (m l : ℕ) → 0 < m → (u : ℕ) × (l ≤ m * u) × (m * u < l + m)
first m l pos =
    let e : (l + pred m) % m + m * ((l + pred m) / m) ≡ l + pred m = mod-add-div (l + pred m) m in
    ((l + pred m) / m, omega (arith, mod-lt (l + pred m) pos), omega arith)

-- the values from lo on at the words that agree with r in the low p − k bits are spots, one gap of 2 ^ (p − k + κ) after the
-- other; the words of the j-th spot are those that agree with residue j in the low p − κ bits
pub record Spread (p k κ r lo : ℕ) (f : ℕ → ℕ) : Type 0 where
  pub residue : ℕ → ℕ
  pub spot : ℕ → ℕ
  pub near : (j v : ℕ) → 2 ^ (p - κ) ⊢ v ≈ residue j → 2 ^ (p - k) ⊢ v ≈ r
  pub lands : (j v : ℕ) → 2 ^ (p - κ) ⊢ v ≈ residue j → 2 ^ p ⊢ f v ≈ spot j
  pub low : (j : ℕ) → lo ≤ spot j
  pub high : (j d : ℕ) → j < d / 2 ^ (p - k + κ) → spot j < lo + d
  pub once : (i j : ℕ) → spot i ≡ spot j → i ≡ j

-- with c ≡ K o, i the inverse of o modulo P and q ≡ P − 1: at r + A i u the value is t, where t − f r is A K u
lands_by : {c : ℕ} {f : ℕ → ℕ} (P q A K o i r u t : ℕ) → Slope c f → suc q ≡ P → c ≡ K * o → P ⊢ o * i ≈ 1 → t + f r * q ≡ A * K * u
    → P ⊢ f (r + A * (i * u)) ≈ t
lands_by {c} {f} P q A K o i r u t s e split inv lift =
    lin (A * K * u) inv
    (polym 0 (f r) (omega (
      arith,
      s.rises r (r + A * (i * u)),
      ap (λ (z : ℕ). z * (A * (i * u))) split,
      ap (λ (z : ℕ). f r * z) e,
    )))

pub spread : {c : ℕ} {f : ℕ → ℕ} (p k r lo : ℕ) → Slope c f → kappa p c < p → kappa p c ≤ k → k ≤ p → Spread p k (kappa p c) r lo f
spread {c} {f} p k r lo s short up wide =
    record {
      residue = residue;
      spot = spot;
      near = λ j v h. ≈trans (two_down (p - k) (omega arith) h) (polym 0 (i * turn j) (omega arith));
      lands = λ j v h. ≈trans (same p s h) (there j);
      low = λ j. omega (arith, from.1);
      high = λ j d l. omega (arith, from.1, from.2, pow_pos (p - k + kappa p c), mul-le-mul_left gap l, mul-div-le d gap);
      once = λ i j e. eq_of_mul-eq-mul_left gap (pow_pos _) i j (omega (arith, sum i, sum j));
    }
  where
    gap : ℕ
    gap = 2 ^ (p - k + kappa p c)

    i : ℕ
    i = inverse p (c / 2 ^ kappa p c)

    -- what takes the value at r to a multiple of 2 ^ p
    rise : ℕ
    rise = f r * pred (2 ^ p)

    from : (u : ℕ) × (lo + rise ≤ gap * u) × (gap * u < lo + rise + gap)
    from = first gap (lo + rise) (pow_pos _)

    turn : ℕ → ℕ
    turn j = from.0 + j

    spot : ℕ → ℕ
    spot j = gap * turn j - rise

    residue : ℕ → ℕ
    residue j = r + 2 ^ (p - k) * (i * turn j)

    sum : (j : ℕ) → spot j + rise ≡ gap * turn j
    sum j = omega (arith, from.1)

    there : (j : ℕ) → 2 ^ p ⊢ f (residue j) ≈ spot j
    there j =
        let d : Split c (kappa p c) (c / 2 ^ kappa p c) = kappa_split p c short in
        lands_by (2 ^ p) (pred (2 ^ p)) (2 ^ (p - k)) (2 ^ kappa p c) (c / 2 ^ kappa p c) i r (turn j) (spot j) s
        (suc-pred-eq_of_pos (pow_pos p)) d.is (inverse_law p d.odd)
        (sum j ∙ ap (λ (z : ℕ). z * turn j) (pow-add 2 (p - k) (kappa p c)))
