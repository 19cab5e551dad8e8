-- The difference of words is one modulo 2 ^ 32, and so modulo 2 ^ p.
use Rattle.std.proofs.Common.{ℕ, ◌+◌, ◌-◌, ◌%◌, ◌^◌, ◌<◌, ◌∙◌, arith}
use Rattle.meaning.proofs.Congruence.{◌⊢◌≈◌, ≈mod, lin, polym}
use Rattle.meaning.proofs.Two.{two_down}
use Rattle.word.proofs.Laws.{is_minus}
use Rattle.word.proofs.minus.Goals as goal

wrapped : (a b : ℕ) → b < 2 ^ 32 → 2 ^ 32 ⊢ (a + (2 ^ 32 - b)) % 2 ^ 32 + b ≈ a
wrapped a b h = lin 1 (≈mod {m = 2 ^ 32} (a + (2 ^ 32 - b))) (polym 0 1 (omega arith))

pub returns : goal.returns
returns c =
    let a = c.args in
    c.reduce.ensures ∙ is_minus a.p a.a a.b _ (two_down {p = 32} a.p c.requires (wrapped a.a a.b c.ranges.b.fits))
