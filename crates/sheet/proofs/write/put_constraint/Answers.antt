use Rattle.std.proofs.Common.{arith}
use Rattle.sheet.proofs.Writing.{constraint_written, length_constraint}
use Rattle.sheet.specs.Work.{constraint_of}
use Rattle.sheet.proofs.write.put_constraint.Goals as goal

pub returns-clause-bytes : goal.returns-clause-bytes
returns-clause-bytes c =
    let a = c.args in
    let kind = c.from.ensures in
    constraint_written a.out.now a.i a.n (constraint_of a.c.now) (omega arith) c.put_term.ensures.size (rw kind at c.put_term.ensures.bytes)
    c.put_term-2.ensures.bytes

pub returns-clause-size : goal.returns-clause-size
returns-clause-size c =
    length_constraint c.args.n (constraint_of c.args.c.now) c.put_term.ensures.size c.put_term-2.ensures.size
