-- What an accepted call comes to: its answer is the sheet that the walks end with, in bytes that are read back, and its fates are
-- theirs.
use mathlib.Core.Path.{◌≡◌, refl, ap, ◌∙◌}
use Prim.Native.Nat.{ℕ, zero, suc, ◌≤◌, ◌<◌}
use native.Mathlib.Omega.{arith}
use lib.ListN.{length}
use lib.Seq.{take-append_seam}
use Rattle.meaning.specs.Lists.{Each}
use Rattle.meaning.specs.Row.{most_words}
use Rattle.meaning.specs.Sheet.{Sheet, IsSheet}
use Rattle.meaning.specs.Tidy.{working}
use Rattle.meaning.specs.Walk.{list_order, hidden, Ends}
use Rattle.meaning.specs.Bytes.{words_in, sheet_in, sheet_bytes}
use Rattle.meaning.specs.Refusal.{Call, refusal}
use Rattle.meaning.specs.Accepted.{Accepted, Within, Readable}
use Rattle.meaning.specs.Outcome.{answer_in, fates_in, answer_of, outcome_by, outcome}
use Rattle.meaning.proofs.Members.{each_to}
use Rattle.meaning.proofs.Once.{list_short}
use Rattle.meaning.proofs.Bytes.{sheet_back}
use Rattle.meaning.proofs.Refusals.{refusal_accepted, readable_within, readable_sheet, within_writable, written_readable}
use Rattle.meaning.proofs.Walks.{list_order_lem, hidden_ends, ends_length}
use Rattle.meaning.proofs.Demand2.{answer_work}
use Rattle.meaning.proofs.Answer.{answer_within}
use Rattle.meaning.proofs.Again.{working_again}

-- the number of an outcome is the refusal's
pub outcome_refused : (c : Call) → (outcome c).refused ≡ refusal c
unfolding outcome outcome_by
outcome_refused c = go (refusal c)
  where
    go : (k : ℕ) → (outcome_by k c).refused ≡ k
    go zero = refl
    go (suc k) = refl

module _ (c : Call) (passed : refusal c ≡ 0) where
  abbrev pub input : Sheet
  input = sheet_in c.sheet

  pub accepted : Accepted c
  accepted = (refusal_accepted c).0 passed

  pub input_sheet : IsSheet (sheet_in c.sheet)
  input_sheet = readable_sheet accepted.sheet

  pub list_below : Each (λ x. x < most_words) c.list
  list_below = each_to (λ x l. let f : words_in c.sheet ≤ most_words = accepted.sheet.head.limits.few in omega arith) accepted.listed

  pub list_few : length c.list ≤ most_words
  list_few =
      let l : length c.list ≤ words_in c.sheet = list_short accepted.listed accepted.once in
      let f : words_in c.sheet ≤ most_words = accepted.sheet.head.limits.few in
      omega arith

  -- "walk the unhidden listed words in list order"
  pub ends : Ends list_order c.list input (hidden c.list input)
  ends = hidden_ends list_order_lem c.list input

  -- what it comes to
  pub came : outcome c ≡ outcome_by 0 c
  unfolding outcome
  came = ap (λ (k : ℕ). outcome_by k c) passed

  pub answer_is : answer_in (outcome c) ≡ sheet_bytes (answer_of input (hidden c.list input).work)
  unfolding outcome_by
  answer_is = rw came (take-append_seam _ _)

  pub fates_is : fates_in c.list (outcome c) ≡ (hidden c.list input).fates
  unfolding outcome_by
  fates_is = rw (came, ← ends_length ends) (take-append_seam (hidden c.list input).fates _)

  -- the answer is within the limits, so its bytes pass rows 1 to 8 and are read back
  pub within : Within (answer_of input (hidden c.list input).work)
  within = answer_within ends input_sheet (readable_within accepted.sheet) list_below

  pub answer_readable : Readable (answer_in (outcome c))
  answer_readable = rw answer_is (written_readable within)

  pub back : sheet_in (answer_in (outcome c)) ≡ answer_of input (hidden c.list input).work
  back = ap sheet_in answer_is ∙ sheet_back (within_writable within)

  -- and its working sheet is the one that the walks end with
  pub again : working (sheet_in (answer_in (outcome c))) ≡ (hidden c.list input).work
  unfolding answer_of
  again = ap working back ∙ working_again input.words (answer_work ends input_sheet list_below)
