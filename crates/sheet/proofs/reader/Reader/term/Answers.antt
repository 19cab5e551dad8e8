-- Each number stands where the one before it ended.
use Rattle.std.proofs.Common.{◌≡◌, take_all, sym, ◌∙◌, rules, arith}
use Rattle.sheet.proofs.Reading.{numbers_started, numbers_next, term_read}
use Rattle.sheet.proofs.reader.Reader.term.Goals as goal

pub loop-x-init : goal.loop-x-init
loop-x-init c =
    let s = c.args.self.now in
    (search rules, search rules, numbers_started s.bytes.now s.at)

pub loop-x-preserved : goal.loop-x-preserved
loop-x-preserved c =
    let h = c.loop-x.invariant in
    let s = c.args.self.now in
    (search rules, search rules, numbers_next s.bytes.now s.at c.loop-x.x-index c.loop-x.x-items (search rules) h.2 (rw (h.0, h.1) at c.number.ensures.value))

pub returns-clause-value : goal.returns-clause-value
returns-clause-value c =
    let h = c.loop-x.invariant in
    let s = c.args.self.now in
    let e : c.loop-x.x-index ≡ c.args.n = search rules in
    let all = take_all c.loop-x.x-index c.loop-x.x-items (search rules) in
    term_read s.bytes.now c.args.n s.at c.loop-x.x-items (omega arith) (rw e at (sym all ∙ h.2)) (rw (h.0, h.1, e) at c.number-2.ensures.value)
