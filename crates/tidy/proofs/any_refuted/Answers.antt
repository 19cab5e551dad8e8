-- `is_refuted` says of each other whether it is refuted.
use Rattle.std.proofs.Common.{◌∙◌, rules}
use Rattle.std.proofs.lemmas.Iterator.{YieldsList-from_slice}
use Rattle.std.proofs.lemmas.Iterator.Search.{any_from_yields_List}
use Rattle.meaning.specs.Tidy.{refuted}
use Rattle.sheet.specs.Work.{constraint_of}
use Rattle.sheet.proofs.Lists.{any_of_map}
use Rattle.tidy.proofs.any_refuted.Goals as goal

pub returns : goal.returns
returns c =
    any_from_yields_List (λ o. refuted (constraint_of o)) _ _ _ c.any.ensures.ran (YieldsList-from_slice c.args.others.now cc) (λ x b q k. search rules)
    ∙ any_of_map constraint_of refuted c.args.others.now
