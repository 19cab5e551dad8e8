-- The closure says of each other whether it stays.
use Rattle.std.proofs.Common.{[], not, ap, ◌∙◌, rules}
use Rattle.meaning.specs.Tidy.{decided, kept}
use Rattle.sheet.specs.Others.{others_of}
use Rattle.sheet.specs.Work.{constraint_of, constraints_of}
use Rattle.sheet.proofs.Lists.{kept_by_map}
use Rattle.tidy.proofs.keep.Goals as goal

pub returns-clause-kept : goal.returns-clause-kept
unfolding kept
returns-clause-kept c =
    ap constraints_of (c.retain.ensures.kept (λ o. not (decided (constraint_of o))) (λ x b called. search rules))
    ∙ kept_by_map constraint_of (λ o. not (decided o)) [] (others_of c.args.others.now)
