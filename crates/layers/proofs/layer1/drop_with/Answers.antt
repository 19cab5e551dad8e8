-- The closure says of each other whether it stays.
use Rattle.std.proofs.Common.{rules, ap, ◌∙◌, not, []}
use Rattle.meaning.specs.Sheet.{has}
use Rattle.meaning.specs.Layers.{without}
use Rattle.sheet.specs.Others.{others_of}
use Rattle.sheet.specs.Work.{constraint_of, constraints_of}
use Rattle.sheet.proofs.Lists.{kept_by_map}
use Rattle.layers.proofs.layer1.drop_with.Goals as goal

pub returns-clause-without : goal.returns-clause-without
unfolding without
returns-clause-without c =
    let a = c.args in
    let kept = c.retain.ensures.kept (λ o. not (has a.x (constraint_of o))) (λ x b called. search rules) in
    ap constraints_of kept ∙ kept_by_map constraint_of (λ o. not (has a.x o)) [] (others_of a.others.now)
