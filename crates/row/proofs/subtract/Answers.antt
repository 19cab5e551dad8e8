-- `row::subtract` meets its contract.
use Rattle.std.proofs.Common.{arith}
use Rattle.std.proofs.lemmas.Grind.{common_steps}
use Rattle.std.proofs.lemmas.List.{take_more, drop_more}
use Rattle.meaning.specs.Row.{less}
use Rattle.meaning.proofs.Value.{length_less, get_or_less}
use Rattle.row.proofs.subtract.Goals as goal

pub loop-i-preserved : goal.loop-i-preserved
loop-i-preserved c =
    let r = c.args.r.now in
    let t = less c.args.p c.args.q c.args.s.now.w r in
    let i = c.loop-i.i in
    grind (arith, common_steps, length_less, get_or_less, drop_more r i 0, drop_more c.loop-i.r i 0, take_more t i 0)

pub returns : goal.returns
returns c = grind (arith, common_steps, length_less)
