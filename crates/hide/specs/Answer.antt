-- The answer of a call, by the number and the values that the rules give for each of its cases.
use Rattle.std.specs.Prelude.{ℕ, List, Result, Ok, Err}
use Rattle.meaning.specs.Outcome.{Outcome}
use Rattle.sheet.specs.Bytes.{number_of}
use Rattle.sheet.specs.declared.refusal.Refusal.{Refusal}
use Rattle.hide.specs.declared.Answer.{Answer}

-- the outcome that an answer and the contents of the two buffers are
abbrev pub outcome_with : Result Answer Refusal → List ℕ → List ℕ → Outcome
outcome_with (Ok a) out fates = record { refused = 0; size = a.length; walks = a.walks; out = out; fates = fates }
outcome_with (Err r) out fates = record { refused = number_of r; size = 0; walks = 0; out = out; fates = fates }
