-- `layers::layer1::Known::replace_rows` meets its contract. The invariant: the first i rows are replaced, and those behind are as they were.
use Rattle.std.proofs.Common.{rules, ◌≡◌, ap, ◌∙◌, ◌-◌, ◌^◌, length, map, set, arith}
use Rattle.meaning.specs.Row.{IsRow, scale}
use Rattle.meaning.specs.Layers.{replaced}
use Rattle.row.proofs.Multiples.{scale_low}
use Rattle.sheet.specs.Work.{equalities_of}
use Rattle.layers.proofs.Replacing.{replaced_long, row_kept, map_next, map_put}
use Rattle.layers.proofs.layer1.Known.replace_rows.Goals as goal

pub replaced-requires : goal.replaced-requires
replaced-requires c = row_kept c.loop-i.invariant c.requires.2 c.loop-i-test.true c.row_of-r.ensures

pub loop-i-preserved : goal.loop-i-preserved
loop-i-preserved c =
    let a = c.args in
    let k = a.self.now in
    let h = c.loop-i.invariant in
    let long : length c.loop-i.e.rows ≡ 544 = search rules in
    let r : IsRow k.width c.row_of-r.result.w = row_kept h c.requires.2 c.loop-i-test.true c.row_of-r.ensures in
    let s = ap length c.replaced.ensures ∙ replaced_long k.width k.word k.power k.row.w c.row_of-r.result.w k.is_row r in
    map_next h c.row_of-r.result.w c.replaced.result.w c.loop-i-test.true (omega (arith, h.count, long)) s
    c.row_of-r.ensures c.replaced.ensures c.put_row.ensures

pub returns-clause-rows : goal.returns-clause-rows
returns-clause-rows c =
    let a = c.args in
    let k = a.self.now in
    let h = c.loop-i.invariant in
    let long : length c.loop-i.e.rows ≡ 544 = search rules in
    let e = c.scale.ensures ∙ ap (λ q. scale k.width q k.row.w) c.power.ensures ∙ scale_low k.width (2 ^ (k.width - k.power)) k.row.w (omega arith) in
    map_put h a.at c.scale.result.w c.loop-i-test.false (omega arith) (omega (arith, h.count, long)) (search rules) c.put_row-2.ensures
    ∙ ap (set (map (replaced k.width k.word k.power k.row.w) (equalities_of a.e.now)) a.at) e
