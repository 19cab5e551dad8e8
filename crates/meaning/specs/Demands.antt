-- The three demands, declared: of what goes into a call and what it comes to.
use Rattle.std.specs.Prelude.{ℕ, suc, ◌≤◌, ◌<◌, ◌≡◌, ◌↔◌, ◌≢◌, true, false, List, ◌∷◌, length, get_or, drop}
use Rattle.meaning.specs.Lists.{Listed, Each, any_of}
use Rattle.meaning.specs.Row.{most_words}
use Rattle.meaning.specs.Sheet.{equal, Constraint, Sheet, HoldAll, Values, most_written, constraints_of, has}
use Rattle.meaning.specs.Tidy.{working}
use Rattle.meaning.specs.Form.{TidyRows}
use Rattle.meaning.specs.Layers.{try}
use Rattle.meaning.specs.Walk.{list_order, Ends}
use Rattle.meaning.specs.Bytes.{size_of, sheet_in}
use Rattle.meaning.specs.Refusal.{Refuses, Accepts, sheet_rows, Call, table}
use Rattle.meaning.specs.Outcome.{Outcome, answer_in, fates_in}

-- ---- the words of a list, and the projection that hides some

-- the list names x, and its fate there is not 0
pub data Hidden (x : ℕ) : List ℕ → List ℕ → Type 0 where
  here : {xs : List ℕ} {f : ℕ} {fs : List ℕ} → Hidden x (x ∷ xs) (suc f ∷ fs)
  there : {y : ℕ} {xs : List ℕ} {f : ℕ} {fs : List ℕ} → Hidden x xs fs → Hidden x (y ∷ xs) (f ∷ fs)

-- "some values of the hidden words make the input hold", the words not hidden keeping their values in a
pub record Completed (p : ℕ) (hidden : ℕ → Type 0) (cs : List Constraint) (a : List ℕ) : Type 0 where
  pub values : List ℕ
  pub fit : Values p values
  pub kept : (x : ℕ) → ¬ hidden x → get_or values x 0 ≡ get_or a x 0
  pub holds : HoldAll p values cs

-- "sheets of equalities alone"; "lists naming the same words in any order"; "the projections are the same"
pub record IsEquality (c : Constraint) : Type 0 where
  pub is_equal : c.kind ≡ equal

pub record SameWords (xs ys : List ℕ) : Type 0 where
  pub both : (x : ℕ) → Listed x xs ↔ Listed x ys

pub record SameProjection (p : ℕ) (xs : List ℕ) (cs ds : List Constraint) : Type 0 where
  pub both : (a : List ℕ) → Values p a → Completed p (λ x. Listed x xs) cs a ↔ Completed p (λ x. Listed x xs) ds a

-- ---- demand 1

pub record Demand1 (c : Call) (o : Outcome) : Type 0 where
  -- "A bad sheet, list or buffer gets the refusal of document 01's table"
  pub refused : (k : ℕ) → (o.refused ≡ suc k) ↔ Refuses (suc k) (table c)
  -- "every other call is accepted"
  pub accepted : (o.refused ≡ 0) ↔ Accepts (table c)
  -- "and no byte of either output buffer changes"
  pub unchanged : o.refused ≢ 0 → (o.out ≡ c.out) × (o.fates ≡ c.fates)

-- ---- demand 2, of an accepted call

-- of the input s, the list xs and the answer t with the fates fs, whose working sheet is w
pub record Hides (s : Sheet) (xs fs : List ℕ) (t : Sheet) : Type 0 where
  -- "The answer keeps p and n."
  pub same_width : t.width ≡ s.width
  pub same_words : t.words ≡ s.words
  -- "for every choice of values for the words not hidden, the answer holds exactly when some values of the hidden words make the
  -- input hold, modulo 2^p"
  pub exact : (a : List ℕ) → Values s.width a
      → HoldAll s.width a t.constraints ↔ Completed s.width (λ x. Hidden x xs fs) s.constraints a
  -- "No hidden word is in the answer."
  pub gone : (x : ℕ) → Hidden x xs fs → any_of (has x) t.constraints ≡ false
  -- "A listed word stays exactly when the two layers leave it", and then it is named
  pub stays : (i : ℕ) → i < length xs → (get_or fs i 0 ≡ 0) ↔ ((try s.width (get_or xs i 0) (working t)).fate ≡ 0)
  pub named : (i : ℕ) → i < length xs → get_or fs i 0 ≡ 0 → any_of (has (get_or xs i 0)) t.constraints ≡ true
  -- a word is in the answer only where it was in the input
  pub known : (x : ℕ) → x < most_words → any_of (has x) s.constraints ≡ false → any_of (has x) t.constraints ≡ false
  -- "Its equalities come first, in tidy order, then the others"
  pub sorted : t.constraints ≡ constraints_of (working t)
  pub tidy : TidyRows s.width (working t).eqs

pub record Demand2 (c : Call) (o : Outcome) : Type 0 where
  pub hides : Hides (sheet_in c.sheet) c.list (fates_in c.list o) (sheet_in (answer_in o))
  -- the answer's bytes pass rows 1 to 8: they are a sheet that another call takes
  pub readable : Accepts (sheet_rows (answer_in o))
  -- "The walks are those the rules make, never more than the list.": in list order they end in the answer with these fates
  pub walks : Ends list_order c.list (sheet_in c.sheet)
      (record { work = working (sheet_in (answer_in o)); fates = fates_in c.list o; walks = o.walks })
  pub few : o.walks ≤ length c.list
  -- "Bytes beyond these stay.", and the answer has the room that was asked for
  pub beyond : (drop o.size o.out ≡ drop o.size c.out)
      × (drop (length c.list) o.fates ≡ drop (length c.list) c.fates)
  pub fits : o.size ≤ size_of (sheet_in c.sheet).words most_written

-- ---- demand 3, of two accepted calls

-- "Sheets of equalities alone, same width and count, lists naming the same words in any order"
pub record Alike (c d : Call) : Type 0 where
  pub equalities : Each IsEquality (sheet_in c.sheet).constraints
  pub equalities' : Each IsEquality (sheet_in d.sheet).constraints
  pub same_width : (sheet_in d.sheet).width ≡ (sheet_in c.sheet).width
  pub same_words : (sheet_in d.sheet).words ≡ (sheet_in c.sheet).words
  pub same_list : SameWords c.list d.list

pub record Demand3 (c d : Call) (o q : Outcome) : Type 0 where
  -- "every listed word is hidden"
  pub hidden : (i : ℕ) → i < length c.list → get_or (fates_in c.list o) i 0 ≢ 0
  -- "and the answers are the same bytes exactly when the projections are the same"
  pub same : (answer_in o ≡ answer_in q)
      ↔ SameProjection (sheet_in c.sheet).width c.list (sheet_in c.sheet).constraints (sheet_in d.sheet).constraints
