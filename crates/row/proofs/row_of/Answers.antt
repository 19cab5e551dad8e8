-- `row::row_of` meets its contract.
use Rattle.std.proofs.Common.{◌≡◌, sym, length, arith, rules}
use Rattle.row.specs.Block.{row_of}
use Rattle.row.proofs.Blocks.{length_row, get_or_row}
use Rattle.row.proofs.Copies.{taken_more, taken_all}
use Rattle.row.proofs.row_of.Goals as goal

pub loop-k-preserved : goal.loop-k-preserved
loop-k-preserved c =
    let l = c.args.rows.now in
    let i = c.args.i in
    let k = c.loop-k.k in
    let n : length (row_of l i) ≡ 17 = length_row l i (search rules) in
    record {
      long = search rules;
      done = taken_more c.loop-k.w (row_of l i) k (omega arith) (omega arith) c.loop-k.invariant.done (sym (get_or_row l i k (omega arith)));
    }

pub returns : goal.returns
returns c =
    let n = length_row c.args.rows.now c.args.i (search rules) in
    let e : c.loop-k.k ≡ 17 = omega arith in
    taken_all c.loop-k.w _ 17 c.loop-k.invariant.long n (rw e at c.loop-k.invariant.done)
