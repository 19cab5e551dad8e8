-- `layers::layer1::sides_have` meets its contract.
use Rattle.std.proofs.Common.{rules, ◌∙◌}
use Rattle.std.proofs.lemmas.Iterator.{YieldsList-from_slice}
use Rattle.std.proofs.lemmas.Iterator.Search.{any_from_yields_List}
use Rattle.meaning.specs.Sheet.{has}
use Rattle.sheet.specs.Work.{constraint_of}
use Rattle.sheet.proofs.Lists.{any_of_map}
use Rattle.layers.proofs.layer1.sides_have.Goals as goal

pub returns : goal.returns
returns c =
    let a = c.args in
    let source = YieldsList-from_slice a.others.now c.iter.ensures.rest in
    any_from_yields_List (λ o. has a.x (constraint_of o)) _ _ c.any.result c.any.ensures.ran source (λ o b q k. search rules)
    ∙ any_of_map constraint_of (has a.x) a.others.now
