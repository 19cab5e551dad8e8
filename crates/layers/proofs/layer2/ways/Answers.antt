-- `layers::layer2::ways` meets its contract: a group and its record count the same in the product.
use Rattle.std.proofs.Common.{◌<◌, ◌-◌, ◌∙◌, None, length, rules, arith, pow_mono}
use Rattle.std.proofs.lemmas.List.{get_or_default}
use Rattle.layers.proofs.Product.{filled_start, filled_skip, filled_next, filled_each, filled_ways}
use Rattle.layers.proofs.layer2.ways.Goals as goal

pub loop-power-init : goal.loop-power-init
loop-power-init c = rw c.new-row.ensures (filled_start c.requires.0 c.requires.2)

pub delta-requires : goal.delta-requires
delta-requires c =
    let a = c.args in
    let l : c.loop-power.power - 1 < length a.groups.now = search rules in
    let e = rw (get_or_default a.groups.now (c.loop-power.power - 1) _ None l) at c.in-Some.is in
    let g = rw e at (c.requires.2.groups (c.loop-power.power - 1)) in
    omega (arith, g.between, g.most, pow_mono c.requires.0)

pub loop-power-preserved-in-Some : goal.loop-power-preserved-in-Some
loop-power-preserved-in-Some c =
    let a = c.args in
    let l : c.loop-power.power - 1 < length a.groups.now = search rules in
    let e = rw (get_or_default a.groups.now (c.loop-power.power - 1) _ None l) at c.in-Some.is in
    rw c.push.ensures.items (filled_next c.loop-power.invariant (omega arith) c.in-Some.g e c.delta.ensures)

pub loop-power-preserved : goal.loop-power-preserved
loop-power-preserved c =
    let a = c.args in
    let l : c.loop-power.power - 1 < length a.groups.now = search rules in
    let e = rw (get_or_default a.groups.now (c.loop-power.power - 1) _ None l) at c.in_default.is in
    filled_skip c.loop-power.invariant (omega arith) e

pub product-requires : goal.product-requires
product-requires c =
    (c.requires.0, c.requires.1, rw c.deref.ensures.0 (filled_each c.loop-power.invariant c.loop-power-test.false c.requires.2))

pub returns-clause-value : goal.returns-clause-value
returns-clause-value c =
    c.product.ensures.ways ∙ rw c.deref.ensures.0 (filled_ways c.loop-power.invariant c.loop-power-test.false c.args.k0)
