-- Zeros are rows.
use Rattle.tidy.proofs.Steps.{blank_places}
use Rattle.tidy.proofs.Places.{place_row}
use Rattle.tidy.proofs.Basis.new.Goals as goal

pub invariant_of-result-clause-rows : goal.invariant_of-result-clause-rows
invariant_of-result-clause-rows c = λ x b. place_row x (blank_places c.args.width) b
