-- Before place y the row is lowered by the places before it.
use Rattle.std.proofs.Common.{refl, ◌∙◌, rules}
use Rattle.tidy.proofs.Places.{places_of}
use Rattle.tidy.proofs.Lowering.{lowered_none_yet, lowered_more, lowered_all}
use Rattle.tidy.proofs.Basis.lower.Goals as goal

pub loop-y-init : goal.loop-y-init
loop-y-init c = (refl, lowered_none_yet _ (places_of c.args.self.now.rows))

pub loop-y-preserved : goal.loop-y-preserved
loop-y-preserved c =
    let h = c.loop-y.invariant in (
      c.lower_by.ensures.width ∙ h.0,
      lowered_more h.1 (places_of c.args.self.now.rows) (search rules) (search rules) (rw h.0 at c.lower_by.ensures.place),
    )

pub returns-clause-place : goal.returns-clause-place
returns-clause-place c = lowered_all c.loop-y.invariant.1 (search rules)
