-- `row::put_row` meets its contract.
use Rattle.std.proofs.Common.{◌*◌, arith}
use Rattle.std.proofs.lemmas.List.Edits.{paste_more}
use Rattle.row.proofs.put_row.Goals as goal

pub loop-k-preserved : goal.loop-k-preserved
loop-k-preserved c =
    let a = c.args in
    grind (arith, paste_more a.rows.now (a.i * 17) a.r.w c.loop-k.k 0)
