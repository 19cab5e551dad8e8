-- Numbers modulo 2 ^ p: "a word is a whole number from 0 to 2^p − 1".
use Rattle.std.specs.Prelude.{ℕ, zero, suc, ◌+◌, ◌-◌, ◌*◌, ◌/◌, ◌%◌, ◌^◌}

-- x less y: "sums and differences of 32-bit words drop the carry on purpose; the result is then taken modulo 2^p"
unfoldable pub minus : ℕ → ℕ → ℕ → ℕ
minus p x y = (x + (2 ^ p - y % 2 ^ p)) % 2 ^ p

-- κ: "the number of times 2 divides it", counted no further than p, so that κ of 0 is p
unfoldable pub kappa : ℕ → ℕ → ℕ
kappa zero x = 0
kappa (suc p) x = elim (x % 2) [ zero ↦ suc (kappa p (x / 2)) | suc b ↦ 0 ]

-- the inverse of an odd number b modulo 2 ^ p: each turn doubles the low bits that are right, so p turns are enough
unfoldable pub inverse_in : ℕ → ℕ → ℕ → ℕ
inverse_in p zero b = 1
inverse_in p (suc t) b = let y : ℕ = inverse_in p t b in (y * minus p 2 (b * y)) % 2 ^ p

unfoldable pub inverse : ℕ → ℕ → ℕ
inverse p b = inverse_in p p b
