use Rattle.std.proofs.Common.{◌≡◌, length, take, take_all, sym, rules, arith}
use Rattle.meaning.specs.Bytes.{numbers_bytes}
use Rattle.meaning.proofs.Bytes.{length_term_bytes}
use Rattle.sheet.proofs.Writing.{written_none, number_more, term_written}
use Rattle.sheet.proofs.write.put_term.Goals as goal

pub loop-k-init : goal.loop-k-init
unfolding numbers_bytes
loop-k-init c = sym (written_none c.args.out.now c.args.i)

pub loop-k-preserved : goal.loop-k-preserved
loop-k-preserved c =
    let a = c.args in
    number_more a.out.now a.i (take a.n a.r.now.w) c.loop-k.k (omega arith) c.loop-k-test.true c.loop-k.invariant c.put_number.ensures

pub returns-clause-bytes : goal.returns-clause-bytes
returns-clause-bytes c =
    let a = c.args in
    let long : length a.r.now.w ≡ 17 = search rules in
    let all = take_all c.loop-k.k (take a.n a.r.now.w) c.loop-k-test.false in
    term_written a.out.now a.i a.n a.r.now.w (omega arith) (omega arith) (rw all at c.loop-k.invariant) c.put_number-2.ensures

pub returns-clause-size : goal.returns-clause-size
returns-clause-size c =
    let a = c.args in
    let long : length a.r.now.w ≡ 17 = search rules in
    length_term_bytes a.n a.r.now.w (omega arith)
