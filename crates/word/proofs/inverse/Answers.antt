-- An odd number is its own inverse modulo 8, and each turn doubles the low bits that are right.
use Rattle.std.proofs.Common.{◌*◌, ◌^◌, ◌∙◌, lit≤}
use Rattle.meaning.proofs.Congruence.{◌⊢◌≈◌}
use Rattle.meaning.proofs.Two.{Odd, two_down}
use Rattle.word.proofs.Inverses.{turned, own_inverse, is_inverse}
use Rattle.word.proofs.inverse.Goals as goal

pub returns : goal.returns
returns c =
    let b = c.args.b in
    let odd : Odd b = record { bit = c.requires.0 } in
    let e6 : 2 ^ 6 ⊢ b * _ ≈ 1 = turned b b 3 (lit≤ tt) (lit≤ tt) c.nearer-y6.ensures (own_inverse odd) in
    let e12 : 2 ^ 12 ⊢ b * _ ≈ 1 = turned b _ 6 (lit≤ tt) (lit≤ tt) c.nearer-y12.ensures e6 in
    let e24 : 2 ^ 24 ⊢ b * _ ≈ 1 = turned b _ 12 (lit≤ tt) (lit≤ tt) c.nearer-y24.ensures e12 in
    let e32 : 2 ^ 32 ⊢ b * _ ≈ 1 = turned b _ 16 (lit≤ tt) (lit≤ tt) c.nearer-y48.ensures (two_down {p = 24} 16 (lit≤ tt) e24) in
    c.reduce.ensures ∙ is_inverse _ odd c.requires.1 (two_down {p = 32} c.args.p c.requires.2 e32)
