-- A term's estimates bound its values. This is all that the laws of Layer2 know of what a bound counts by.
use mathlib.Core.Path.{◌≡◌, refl}
use mathlib.Core.Bool.{Bool, true, false, cond}
use mathlib.Core.List.{List}
use Prim.Native.Nat.{ℕ, suc, ◌+◌, ◌^◌, ◌≤◌}
use native.Mathlib.Nat.{le_of_lt, mod-lt}
use native.Mathlib.Omega.{arith}
use lib.Pow.{pow_pos}
use Rattle.meaning.specs.Row.{Row, IsRow, constant, value, wordless}
use Rattle.meaning.specs.Sheet.{Values}
use Rattle.meaning.specs.Layers.{greatest, past_least}
use Rattle.meaning.proofs.Value.{value_wordless}

module _ {p : ℕ} {r : Row} {a : List ℕ} (row : IsRow p r) (values : Values p a) where
  pub value_greatest : value p r a ≤ greatest p r
  unfolding greatest value
  value_greatest = go (wordless r) refl
    where
      go : (b : Bool) → wordless r ≡ b → value p r a ≤ cond b (constant r) (2 ^ p)
      go true e = omega (arith, value_wordless a row values.sixteen e)
      go false e = le_of_lt (mod-lt _ (pow_pos p))

  pub value_least : past_least p r ≤ suc (value p r a)
  unfolding past_least
  value_least = go (wordless r) refl
    where
      go : (b : Bool) → wordless r ≡ b → cond b (constant r + 1) 0 ≤ suc (value p r a)
      go true e = omega (arith, value_wordless a row values.sixteen e)
      go false e = omega arith
