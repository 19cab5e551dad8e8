-- `hide::rows::vietoluyn_tidy` meets its contract: the rows are copied, tidied and copied back.
use Rattle.std.proofs.Common.{sym, ap, ◌∙◌, ℕ, ◌*◌, ◌≤◌, arith, length, length-take-le}
use Rattle.hide.proofs.Alone.{bad_tidied, good_rows, good_working, tidied_back}
use Rattle.hide.proofs.rows.vietoluyn_tidy.Goals as goal

pub returns-then-bad_rows : goal.returns-then-bad_rows
returns-then-bad_rows c =
    bad_tidied c.args.rows.now c.args.eqs c.args.p (sym c.bad_rows.ensures ∙ c.if-bad_rows.true)

pub copy_from_slice-requires : goal.copy_from_slice-requires
copy_from_slice-requires c =
    let g = good_rows c.args.rows.now c.args.eqs c.args.p (sym c.bad_rows.ensures ∙ c.if-bad_rows.false) in
    rw c.new-s.ensures (sym g.long)

pub tidy_in-requires : goal.tidy_in-requires
tidy_in-requires c =
    let g = good_rows c.args.rows.now c.args.eqs c.args.p (sym c.bad_rows.ensures ∙ c.if-bad_rows.false) in
    rw (c.new-s.ensures, c.copy_from_slice.ensures.after) (good_working c.args.rows.now c.args.eqs c.args.p 16 _ g)

pub returns : goal.returns
returns c =
    let b = sym c.bad_rows.ensures ∙ c.if-bad_rows.false in
    let g = good_rows c.args.rows.now c.args.eqs c.args.p b in
    let w = rw (c.new-s.ensures, c.copy_from_slice.ensures.after) at c.tidy_in.ensures.work in
    let n : ℕ = c.tidy_in.new.s.equalities.count * 17 in
    let inside : n ≤ length c.args.rows.now = omega (arith, c.tidy_in.ensures.few, g.long) in
    let back = c.copy_from_slice-2.ensures in
    let l = sym (ap length back.after) ∙ (back.len ∙ length-take-le n c.args.rows.now inside) in
    rw back.after (tidied_back c.args.rows.now c.args.eqs c.args.p c.tidy_in.new.s b l w)
