-- The head of a sheet, as the tests hold it.
use Rattle.std.specs.Prelude.{ℕ, ◌≤◌, ◌≡◌, List, length}
use Rattle.meaning.specs.Bytes.{size_of, width_in, words_in, constraints_in}

-- what the bytes say, within the limits, and the bytes have the size that the formula gives
pub record IsHead (b : List ℕ) (p n m : ℕ) : Type 0 where
  pub width : p ≡ width_in b
  pub words : n ≡ words_in b
  pub constraints : m ≡ constraints_in b
  pub narrow : p ≤ 32
  pub few : n ≤ 16
  pub short : m ≤ 64
  pub sized : length b ≡ size_of n m
