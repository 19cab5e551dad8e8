-- `row::wordless` meets its contract.
use Rattle.std.proofs.Common.{◌∙◌, take, eqb, rules, tests}
use Rattle.std.proofs.lemmas.Iterator.{YieldsList-from_slice}
use Rattle.std.proofs.lemmas.Iterator.Search.{all_from_yields_List}
use Rattle.meaning.specs.Row.{wordless}
use Rattle.row.proofs.Tests.{all_is}
use Rattle.row.proofs.wordless.Goals as goal

pub returns : goal.returns
unfolding wordless
returns c =
    let words = take 16 c.args.r.w in
    all_from_yields_List (λ x. eqb x 0) _ _ c.all.result c.all.ensures.ran (YieldsList-from_slice words cc) (λ x b q k. search (rules, tests))
    ∙ all_is (λ x. eqb x 0) words
