-- A multiple of a row may be taken at 32 bits.
use Rattle.std.proofs.Common.{◌≡◌, ℕ, ◌%◌, ◌^◌, ◌≤◌, [], ◌∷◌, refl, ap₂}
use Rattle.meaning.specs.Row.{Row, less, scale}
use Rattle.meaning.proofs.Congruence.{≈sym, ≈mulr}
use Rattle.word.proofs.Laws.{minus_same, low_word}

pub less_low : (p q : ℕ) (s r : Row) → p ≤ 32 → less p q s r ≡ less p (q % 2 ^ 32) s r
less_low p q [] r h = refl
less_low p q (y ∷ s) [] h = refl
less_low p q (y ∷ s) (x ∷ r) h = ap₂ ◌∷◌ (minus_same p x (≈sym (≈mulr y (low_word q h)))) (less_low p q s r h)

pub scale_low : (p q : ℕ) (r : Row) → p ≤ 32 → scale p (q % 2 ^ 32) r ≡ scale p q r
scale_low p q [] h = refl
scale_low p q (y ∷ r) h = ap₂ ◌∷◌ (≈mulr y (low_word q h)).eq (scale_low p q r h)
