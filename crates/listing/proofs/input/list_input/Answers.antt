-- Cut in two, the input goes through a call, and what that comes to is listed.
use Rattle.std.proofs.Common.{sym, arith, rules}
use lib.Seq.{length-take-le}
use Rattle.listing.proofs.Inputs.{cut, answer_size, answer_listable, printed_long, printed_refused, printed_accepted}
use Rattle.listing.proofs.input.list_input.Goals as goal

pub returns-then-input-gt-MOST : goal.returns-then-input-gt-MOST
returns-then-input-gt-MOST c = rw (printed_long c.args.input.now (omega arith)) c.list_refusal.ensures

pub slice_bounds-answer-end : goal.slice_bounds-answer-end
slice_bounds-answer-end c =
    let e = cut c.args.input.now c.sheet_end.result c.split_at.ensures.front c.split_at.ensures.back c.in-Ok.ensures in
    omega (arith, answer_size c.args.input.now c.sheet_end.result e, c.hide.auto.out)

pub slice_bounds-list_answer-end : goal.slice_bounds-list_answer-end
slice_bounds-list_answer-end c =
    let e = cut c.args.input.now c.sheet_end.result c.split_at.ensures.front c.split_at.ensures.back c.in-Ok.ensures in
    sym (length-take-le _ _ (omega (arith, answer_size c.args.input.now c.sheet_end.result e, c.hide.auto.out)))

pub returns-in-Ok : goal.returns-in-Ok
returns-in-Ok c =
    let b = c.args.input.now in
    let e = cut c.args.input.now c.sheet_end.result c.split_at.ensures.front c.split_at.ensures.back c.in-Ok.ensures in
    let l = answer_listable b c.sheet_end.result e (search rules) in
    rw (c.split_at.ensures.back, l, ← printed_accepted b c.if-input-gt-MOST.false c.sheet_end.ensures e) at c.list_answer.ensures

pub returns-in-Err : goal.returns-in-Err
returns-in-Err c =
    let b = c.args.input.now in
    let e = cut c.args.input.now c.sheet_end.result c.split_at.ensures.front c.split_at.ensures.back c.in-Err.ensures in
    rw (printed_refused b c.if-input-gt-MOST.false c.sheet_end.ensures c.in-Err.why e) c.list_refusal-in-Err.ensures
