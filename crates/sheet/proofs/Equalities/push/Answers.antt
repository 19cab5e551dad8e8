use Rattle.std.proofs.Common.{◌≡◌, length, rules, arith}
use Rattle.sheet.proofs.Appended.{rows_appended}
use Rattle.sheet.proofs.Equalities.push.Goals as goal

pub returns-clause-rows : goal.returns-clause-rows
returns-clause-rows c =
    let e = c.args.self.now in
    let rows : length e.rows ≡ 544 = search rules in
    let row : length c.args.r.w ≡ 17 = search rules in
    rw c.put_row.ensures (rows_appended e.rows e.count c.args.r.w (omega arith) row)
