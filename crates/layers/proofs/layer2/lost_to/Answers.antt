-- `layers::layer2::lost_to` meets its contract: a disequality has zero on the right, so it has x where its left side has.
use Rattle.std.proofs.Common.{◌≡◌, rules, arith}
use Rattle.meaning.specs.Row.{coefficient}
use Rattle.meaning.proofs.Kappa.{kappa_le}
use Rattle.sheet.specs.Kind.{kind_number}
use Rattle.sheet.specs.Work.{constraint_of}
use Rattle.layers.proofs.Surplus.{lost_has}
use Rattle.layers.proofs.layer2.lost_to.Goals as goal

pub overflow_shl-result : goal.overflow_shl-result
overflow_shl-result c = omega (arith, c.kappa.ensures, kappa_le c.args.p (coefficient c.args.c.now.left.w c.args.x))

pub returns : goal.returns
returns c =
    let a = c.args in
    let e : kind_number a.c.now.kind ≡ 1 = search rules in
    let h = lost_has a.p a.x (constraint_of a.c.now) c.requires.0 e c.if-c-x-eq0.false c.kappa.ensures in
    record { most = h.0; value = h.1 }
