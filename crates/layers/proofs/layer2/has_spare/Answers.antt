-- `layers::layer2::has_spare` meets its contract: where the groups are not sound there is no surplus, and else it is the difference.
use Rattle.std.proofs.Common.{sym, ◌∙◌, ◌≡◌, ℕ, ◌^◌, ◌<◌, ltb, pos, ◌-ℤ◌, to_z, of_z, w64, arith}
use lib.Signed.{le_z}
use Rattle.std.proofs.lemmas.Int.{ints}
use Rattle.std.proofs.lemmas.Bool.Decides.{nat_tests}
use Rattle.meaning.specs.Layers.{spare}
use Rattle.sheet.specs.Work.{constraints_of}
use Rattle.layers.proofs.Groups.{unsound_spare}
use Rattle.layers.proofs.layer2.has_spare.Goals as goal

-- the difference is 1 or more exactly where the first is greater
positive : (a b : ℕ) → a < 2 ^ 63 → b < 2 ^ 63 → le_z (pos 1) (to_z w64 (of_z w64 (to_z w64 a -ℤ to_z w64 b))) ≡ ltb b a
positive a b h k = grind (arith, ints, nat_tests)

pub returns-then-not-gather : goal.returns-then-not-gather
returns-then-not-gather c =
    let a = c.args in
    sym (unsound_spare a.p a.x a.k (constraints_of a.others.now) (sym c.gather.ensures.sound ∙ c.if-not-gather.true))

pub returns : goal.returns
unfolding spare
returns c =
    let w = c.ways.ensures in
    let l = c.lost.ensures in
    let e = positive c.ways.result c.lost.result (omega (arith, w.most)) (omega (arith, l.most)) in
    rw (e, c.gather.ensures.held c.if-not-gather.false, w.value, l.value)
