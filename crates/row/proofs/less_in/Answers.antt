-- `row::less_in` meets its contract.
use Rattle.std.proofs.Common.{◌≡◌, length, arith, rules}
use Rattle.std.proofs.lemmas.Slice.{put_mid-paste}
use Rattle.meaning.specs.Row.{less}
use Rattle.meaning.proofs.Value.{length_less}
use Rattle.row.specs.Block.{row_of}
use Rattle.row.proofs.Blocks.{length_row}
use Rattle.row.proofs.less_in.Goals as goal

pub returns : goal.returns
returns c =
    let a = c.args in
    let r = row_of a.rows.now a.j in
    let lr : length r ≡ 17 = length_row a.rows.now a.j (search rules) in
    put_mid-paste _ _ a.rows.now _ (less a.p a.q a.s.w r) 17 (search rules) (omega arith) (grind (arith, length_less))
