-- Loops that store one number after the other: `paste d at s n` is d with the first n of s from the place `at` on.
use Rattle.std.proofs.Common.{◌≡◌, ℕ, ◌+◌, ◌≤◌, ◌<◌, List, length, get_or, set, take, arith}
use Rattle.std.proofs.Math.Seq.{paste}
use Rattle.std.proofs.lemmas.Grind.{common_steps}
use Rattle.std.proofs.lemmas.List.{take_more}

-- past the copy and before it the list is as it was, and in it there is what was copied
module _ (d : List ℕ) (at : ℕ) (s : List ℕ) (n : ℕ) (hd : at ≤ length d) (hs : n ≤ length s) where
  pub past : (i : ℕ) → at + n ≤ i → get_or (paste d at s n) i 0 ≡ get_or d i 0
  past i h = grind (arith, common_steps)

  pub front : (i : ℕ) → i < at → get_or (paste d at s n) i 0 ≡ get_or d i 0
  front i h = grind (arith, common_steps)

  pub copied : (i : ℕ) → i < n → get_or (paste d at s n) (at + i) 0 ≡ get_or s i 0
  copied i h = grind (arith, common_steps)

-- ---- a list of which nothing is to stay

pub taken_more : (l s : List ℕ) (k : ℕ) {v : ℕ} → k < length l → k < length s → take k l ≡ take k s → v ≡ get_or s k 0
    → take (k + 1) (set l k v) ≡ take (k + 1) s
taken_more l s k {v} hl hs e ev = grind (arith, common_steps, take_more s k 0)

pub taken_all : (l s : List ℕ) (n : ℕ) → length l ≡ n → length s ≡ n → take n l ≡ take n s → l ≡ s
taken_all l s n hl hs e = grind (arith, common_steps)
