-- Before the turn of word x the places before it are done, and row i is on its way to the others.
use Rattle.std.proofs.Common.{◌∙◌, refl, rules}
use Rattle.tidy.proofs.Places.{places_of, putting_start, putting_next, putting_end}
use Rattle.tidy.proofs.Basis.put.Goals as goal

pub loop-x-init : goal.loop-x-init
loop-x-init c = (refl, putting_start c.args.i (places_of c.args.self.now.rows) (search rules) c.requires.1)

pub loop-x-preserved : goal.loop-x-preserved
loop-x-preserved c =
    let h = c.loop-x.invariant in (
      c.turn.ensures.width ∙ h.0,
      putting_next h.1 (search rules) c.requires.0 (search rules) (rw h.0 at c.turn.ensures.place) (rw h.0 at c.turn.ensures.pending),
    )

pub returns-clause-places : goal.returns-clause-places
returns-clause-places c = (putting_end c.loop-x.invariant.1 (search rules)).0

pub returns-clause-rest : goal.returns-clause-rest
returns-clause-rest c = (putting_end c.loop-x.invariant.1 (search rules)).1
