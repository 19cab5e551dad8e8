-- Before row i the rows before it are in the places.
use Rattle.std.proofs.Common.{refl, ap, ◌∙◌, true, rules}
use Rattle.tidy.proofs.Places.{places_of, all_start, all_row, all_next, all_end}
use Rattle.tidy.proofs.Basis.put_all.Goals as goal

pub loop-i-init : goal.loop-i-init
loop-i-init c = (refl, all_start c.args.e.now.rows c.args.e.now.count true (places_of c.args.self.now.rows) (search rules) c.requires.1)

pub put-requires : goal.put-requires
put-requires c = (search rules, rw c.loop-i.invariant.0 (all_row c.loop-i.invariant.1 (search rules)))

pub loop-i-preserved : goal.loop-i-preserved
loop-i-preserved c =
    let h = c.loop-i.invariant in
    let e = c.put.ensures in
    let w = e.width ∙ h.0 in
    (w, all_next h.1 (search rules) (search rules) (rw h.0 at e.rest) (places_of (rw w at c.put.new.self.rows)) (rw h.0 at e.places) c.at.ensures (cc))

pub returns-clause-places : goal.returns-clause-places
returns-clause-places c = ap (λ b. b.places) (all_end c.loop-i.invariant.1 (search rules))

pub returns-clause-solvable : goal.returns-clause-solvable
returns-clause-solvable c = ap (λ b. b.solvable) (all_end c.loop-i.invariant.1 (search rules))
