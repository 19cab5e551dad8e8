-- `row::scale` meets its contract.
use Rattle.std.proofs.Common.{arith}
use Rattle.std.proofs.lemmas.Grind.{common_steps}
use Rattle.std.proofs.lemmas.List.{take_more, drop_more}
use Rattle.meaning.specs.Row.{scale}
use Rattle.meaning.proofs.Value.{length_scale, get_or_scale}
use Rattle.row.proofs.scale.Goals as goal

pub loop-x-preserved : goal.loop-x-preserved
loop-x-preserved c =
    let r = c.args.r.w in
    let t = scale c.args.p c.args.q r in
    let x = c.loop-x.x-index in
    grind (arith, common_steps, length_scale, get_or_scale, drop_more r x 0, drop_more c.loop-x.x-items x 0, take_more t x 0)

pub returns : goal.returns
returns c = grind (arith, common_steps, length_scale)
