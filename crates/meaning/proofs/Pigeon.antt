-- Of n places, where those below m are taken at most once each, one is at least m if m < n.
use mathlib.Core.Path.{◌≡◌}
use mathlib.Core.Logic.{◌≢◌}
use Prim.Native.Nat.{ℕ, zero, suc, ◌≤◌, ◌<◌, pred, min, max}
use native.Mathlib.Decide.{dec_le}
use native.Mathlib.Omega.{arith}

abbrev pub Once : (ℕ → ℕ) → ℕ → ℕ → Type 0
Once h m n = (i j : ℕ) → i < n → j < n → h i < m → h i ≡ h j → i ≡ j

-- the numbers with v taken out: those above it move down by one
skip : ℕ → ℕ → ℕ
skip v a = max (min a v) (pred a)

skip_low : (v a : ℕ) → a ≤ v → skip v a ≡ a
unfolding skip
skip_low v a l = omega arith

skip_high : (v a : ℕ) → v < a → skip v a ≡ pred a
unfolding skip
skip_high v a l = omega arith

skip_inj : (v a b : ℕ) → a ≢ v → b ≢ v → skip v a ≡ skip v b → a ≡ b
skip_inj v a b na nb e = go (dec_le a v) (dec_le b v)
  where
    go : Dec (a ≤ v) → Dec (b ≤ v) → a ≡ b
    go (yes l) (yes k) = omega (arith, skip_low v a l, skip_low v b k)
    go (yes l) (no k) = omega (arith, skip_low v a l, skip_high v b (omega arith))
    go (no l) (yes k) = omega (arith, skip_high v a (omega arith), skip_low v b k)
    go (no l) (no k) = omega (arith, skip_high v a (omega arith), skip_high v b (omega arith))

skip_pred : (v a : ℕ) → a ≤ suc (skip v a)
unfolding skip
skip_pred v a = omega arith

skip_up : (v a m : ℕ) → a ≢ v → v ≤ m → m ≤ skip v a → m < a
unfolding skip
skip_up v a m n l k = omega arith

pub pigeon : (h : ℕ → ℕ) (m n : ℕ) → m < n → Once h m n → (i : ℕ) × (i < n) × (m ≤ h i)
pigeon h m zero lt once = absurd (omega arith)
pigeon h zero (suc n) lt once = (n, omega arith, omega arith)
pigeon h (suc m) (suc n) lt once = go (dec_le (suc m) (h n)) (pigeon (λ i. skip (h n) (h i)) m n (omega arith))
  where
    -- no other place has the last one's value
    other : (i : ℕ) → i < n → h n < suc m → h i ≢ h n
    other i l b e = omega (arith, once i n (omega arith) (omega arith) (omega arith) e)

    less : h n < suc m → Once (λ i. skip (h n) (h i)) m n
    less b i j li lj l e =
        once i j (omega arith) (omega arith) (omega (arith, skip_pred (h n) (h i)))
        (skip_inj (h n) (h i) (h j) (other i li b) (other j lj b) e)

    go : Dec (suc m ≤ h n)
        → (Once (λ i. skip (h n) (h i)) m n → (i : ℕ) × (i < n) × (m ≤ skip (h n) (h i)))
        → (i : ℕ) × (i < suc n) × (suc m ≤ h i)
    go (yes b) rec = (n, omega arith, b)
    go (no b) rec =
        let r : (i : ℕ) × (i < n) × (m ≤ skip (h n) (h i)) = rec (less (omega arith)) in
        (r.0, omega arith, skip_up (h n) (h r.0) m (other r.0 r.1 (omega arith)) (omega arith) r.2)
