-- The demands, said of what `hide` ensures: of an answer r and the contents `out` and `fates` of the two buffers afterwards. A
-- caller's proof cites these and opens nothing.
use Rattle.std.proofs.Common.{◌≡◌, refl, sym, ap, ap₂, ◌∙◌, List, [], ◌∷◌, ℕ, suc, pred, arith, get_or, Result, Ok, Err}
use Rattle.meaning.specs.Refusal.{Refuses, Accepts, Call, table}
use Rattle.meaning.specs.Outcome.{Outcome, outcome}
use Rattle.meaning.specs.Demands.{Demand1, Demand2, Alike, Demand3}
use Rattle.meaning.proofs.Promises as promises
use Rattle.sheet.specs.Bytes.{number_of}
use Rattle.sheet.specs.declared.refusal.Refusal.{Refusal}
use Rattle.sheet.specs.declared.refusal.Refusal.TheVariants.{Count, Version, Width, Words, Size, Kind, Number}
use Rattle.sheet.specs.declared.refusal.Refusal.TheVariants.{TooMany, List as ListRow, SheetBuffer, FateBuffer}
use Rattle.hide.specs.Answer.{outcome_with}
use Rattle.hide.specs.Alone.{Tidied, tidied_rows}
use Rattle.hide.specs.declared.Answer.{Answer}
use Rattle.sheet.proofs.Judged.{number_some}

-- ---- one outcome

-- the rows of the table by their numbers, a row for 0 before them
rows : List Refusal
rows =
    Count ∷ Count ∷ Version ∷ Width ∷ Words ∷ Size ∷ Kind ∷ Number ∷ TooMany ∷ ListRow ∷ SheetBuffer ∷ FateBuffer ∷ []

row_back : (k : Refusal) → get_or rows (number_of k) Count ≡ k
unfolding rows
row_back Count = refl
row_back Version = refl
row_back Width = refl
row_back Words = refl
row_back Size = refl
row_back Kind = refl
row_back Number = refl
row_back TooMany = refl
row_back ListRow = refl
row_back SheetBuffer = refl
row_back FateBuffer = refl

pub number_injective : (k j : Refusal) → number_of k ≡ number_of j → k ≡ j
number_injective k j e = sym (row_back k) ∙ ap (λ (n : ℕ). get_or rows n Count) e ∙ row_back j

outcome_injective : (r s : Result Answer Refusal) {out out' fates fates' : List ℕ}
    → outcome_with r out fates ≡ outcome_with s out' fates' → (r ≡ s) × (out ≡ out') × (fates ≡ fates')
outcome_injective (Ok a) (Ok b) e = (
  ap₂ (λ (l w : ℕ). Ok (record { length = l; walks = w })) (ap (λ (o : Outcome). o.size) e) (ap (λ (o : Outcome). o.walks) e),
  ap (λ (o : Outcome). o.out) e,
  ap (λ (o : Outcome). o.fates) e,
)
outcome_injective (Ok a) (Err k) e = absurd (number_some k (sym (ap (λ (o : Outcome). o.refused) e)))
outcome_injective (Err k) (Ok a) e = absurd (number_some k (ap (λ (o : Outcome). o.refused) e))
outcome_injective (Err k) (Err j) e = (
  ap Err (number_injective k j (ap (λ (o : Outcome). o.refused) e)),
  ap (λ (o : Outcome). o.out) e,
  ap (λ (o : Outcome). o.fates) e,
)

-- any two answers with buffers that the promise permits for the same call are equal
pub one_outcome : (c : Call) (r s : Result Answer Refusal) {out out' fates fates' : List ℕ}
    → outcome_with r out fates ≡ outcome c → outcome_with s out' fates' ≡ outcome c → (r ≡ s) × (out ≡ out') × (fates ≡ fates')
one_outcome c r s e f = outcome_injective r s (e ∙ sym f)

-- the same of the two functions for other languages: the numbers and the buffers, and tidied rows
pub one_numbers : (c : Call) {o q : Outcome} → o ≡ outcome c → q ≡ outcome c → o ≡ q
one_numbers = promises.one_outcome

pub one_tidied : (rows : List ℕ) (eqs p : ℕ) {t u : Tidied} → t ≡ tidied_rows rows eqs p → u ≡ tidied_rows rows eqs p → t ≡ u
one_tidied _ _ _ e f = e ∙ sym f

-- ---- demand 1

module _ (c : Call) (r : Result Answer Refusal) (out fates : List ℕ) (is : outcome_with r out fates ≡ outcome c) where
  pub demand1 : Demand1 c (outcome_with r out fates)
  demand1 = rw is (promises.demand1 c)

-- it is refused by a row of the table exactly where that is the first that applies, and accepted exactly where none does
module _ (c : Call) {out fates : List ℕ} where
  pub refused_by : (k : Refusal) → outcome_with (Err k) out fates ≡ outcome c → Refuses (number_of k) (table c)
  refused_by k is =
      let n : number_of k ≡ suc (pred (number_of k)) = omega (arith, number_some k) in
      rw n (((demand1 c (Err k) out fates is).refused (pred (number_of k))).0 n)

  pub accepted_where : (a : Answer) → outcome_with (Ok a) out fates ≡ outcome c → Accepts (table c)
  accepted_where a is = (demand1 c (Ok a) out fates is).accepted.0 refl

-- ---- demands 2 and 3: the answer is at the front of the sheet buffer, as long as the call says, and the fates at the front of theirs

module _ (c : Call) (a : Answer) (out fates : List ℕ) (is : outcome_with (Ok a) out fates ≡ outcome c) where
  ok : (outcome c).refused ≡ 0
  ok = sym (ap (λ (o : Outcome). o.refused) is)

  pub demand2 : Demand2 c (outcome_with (Ok a) out fates)
  demand2 = rw is (promises.demand2 c ok)

pub demand3 : (c d : Call) {a b : Answer} {out fates out' fates' : List ℕ}
    → outcome_with (Ok a) out fates ≡ outcome c → outcome_with (Ok b) out' fates' ≡ outcome d → Alike c d
    → Demand3 c d (outcome_with (Ok a) out fates) (outcome_with (Ok b) out' fates')
demand3 c d is is' alike = rw (is, is') (promises.demand3 c d (ok c _ _ _ is) (ok d _ _ _ is') alike)
