-- What a working sheet says.
use Prim.Native.Nat.{ℕ, ◌^◌, ◌%◌}
use mathlib.Core.Path.{◌≡◌, ap, sym, ◌∙◌}
use mathlib.Core.List.{List}
use native.Mathlib.Nat.{zero-mod}
use Rattle.meaning.specs.Lists.{Each}
use Rattle.meaning.specs.Row.{Row, zero_row, value}
use Rattle.meaning.specs.Sheet.{HoldAll, Work}
use Rattle.meaning.proofs.Value.{sum_at, value_sum, sum_zero}
use Rattle.meaning.proofs.Congruence.{◌⊢◌≈◌, ≈zero, zero≈}

-- the row is zero where the words have the values a
pub record IsZero (p : ℕ) (a : List ℕ) (r : Row) : Type 0 where
  pub zero : value p r a ≡ 0

pub record Solved (p : ℕ) (a : List ℕ) (w : Work) : Type 0 where
  pub zeros : Each (IsZero p a) w.eqs
  pub hold : HoldAll p a w.others

-- ---- a row that is zero, as a congruence

module _ {p : ℕ} {a : List ℕ} where
  pub zero_sum : {r : Row} → IsZero p a r → 2 ^ p ⊢ sum_at r a ≈ 0
  zero_sum {r} h = ≈zero (sym (value_sum p r a) ∙ h.zero)

  pub sum_is_zero : {r : Row} → 2 ^ p ⊢ sum_at r a ≈ 0 → IsZero p a r
  sum_is_zero {r} h = record { zero = value_sum p r a ∙ zero≈ h }

pub value_zero : (p : ℕ) (a : List ℕ) → value p zero_row a ≡ 0
value_zero p a = value_sum p zero_row a ∙ ap (λ (n : ℕ). n % 2 ^ p) (sum_zero a) ∙ zero-mod (2 ^ p)
