-- `row::at` meets its contract.
use Rattle.std.proofs.Common.{sym, rules}
use Rattle.row.proofs.Blocks.{get_or_row}
use Rattle.row.proofs.at.Goals as goal

pub returns : goal.returns
returns c = sym (get_or_row c.args.rows.now c.args.i c.args.x (search rules))
