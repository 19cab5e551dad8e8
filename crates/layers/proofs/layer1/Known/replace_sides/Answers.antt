-- `layers::layer1::Known::replace_sides` meets its contract.
use Rattle.std.proofs.Common.{sym, ap, ◌∙◌, map, take_all}
use Rattle.std.proofs.lemmas.Simd.{map-map}
use Rattle.meaning.specs.Layers.{replaced_in}
use Rattle.sheet.specs.Work.{constraint_of}
use Rattle.layers.proofs.Lists.{each_map}
use Rattle.layers.proofs.layer1.Known.replace_sides.Goals as goal

pub replaced-requires : goal.replaced-requires
replaced-requires c =
    (rw (← c.c-item.is) at (each_map constraint_of c.args.others.now c.loop-c.c-index c.c-item.result c.loop-c-test.true c.requires.1)).left

pub replaced-requires-in-loop-c : goal.replaced-requires-in-loop-c
replaced-requires-in-loop-c c =
    (rw (← c.c-item.is) at (each_map constraint_of c.args.others.now c.loop-c.c-index c.c-item.result c.loop-c-test.true c.requires.1)).right

pub returns-clause-others : goal.returns-clause-others
returns-clause-others c =
    let a = c.args in
    let k = a.self.now in
    let f = replaced_in k.width k.word k.power k.row.w in
    c.loop-c.invariant.0 ∙ ap (map (λ o. f (constraint_of o))) (take_all c.loop-c.c-index a.others.now c.loop-c-test.false)
    ∙ sym (map-map f constraint_of a.others.now)
