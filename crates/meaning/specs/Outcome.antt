-- What a call comes to: its answer, and the full content of the two lent buffers afterwards.
use Rattle.std.specs.Prelude.{ℕ, zero, suc, List, ◌++◌, length, take, drop}
use Rattle.meaning.specs.Sheet.{Sheet, Work, constraints_of}
use Rattle.meaning.specs.Walk.{State, hidden}
use Rattle.meaning.specs.Bytes.{sheet_in, sheet_bytes}
use Rattle.meaning.specs.Refusal.{Call, refusal}

-- refused is the refusal's number, or 0 where the call "is accepted, and returns the answer's length and the number of walks"
pub record Outcome : Type 0 where
  pub refused : ℕ
  pub size : ℕ
  pub walks : ℕ
  pub out : List ℕ
  pub fates : List ℕ

-- "It writes the answer at the front of the sheet buffer"; "bytes beyond these stay"
abbrev pub over : List ℕ → List ℕ → List ℕ
over new old = new ++ drop (length new) old

-- the answer at the front of the sheet buffer, and the fates of the list xs at the front of theirs
abbrev pub answer_in : Outcome → List ℕ
answer_in o = take o.size o.out

abbrev pub fates_in : List ℕ → Outcome → List ℕ
fates_in xs o = take (length xs) o.fates

-- "The answer keeps p and n."
unfoldable pub answer_of : Sheet → Work → Sheet
answer_of s w = record { width = s.width; words = s.words; constraints = constraints_of w }

-- by the refusal's number: "each returns only its number and leaves both output buffers unchanged"
unfoldable pub outcome_by : ℕ → Call → Outcome
outcome_by zero c =
    let s : Sheet = sheet_in c.sheet in
    let t : State = hidden c.list s in
    let a : List ℕ = sheet_bytes (answer_of s t.work) in
    record { refused = 0; size = length a; walks = t.walks; out = over a c.out; fates = over t.fates c.fates }
outcome_by (suc k) c = record { refused = suc k; size = 0; walks = 0; out = c.out; fates = c.fates }

unfoldable pub outcome : Call → Outcome
outcome c = outcome_by (refusal c) c
