-- The promises, together: what tidying comes to, that a call has one outcome, and the three demands. Their statements cite specs/
-- alone; what they rest on stands in the modules before this one.
use mathlib.Core.Path.{◌≡◌, refl, ap, sym, ◌∙◌}
use mathlib.Core.Logic.{◌↔◌, ◌≢◌}
use mathlib.Core.List.{List, []}
use Prim.Native.Nat.{ℕ, zero, suc, ◌≤◌, ◌<◌}
use lib.Seq.{drop-append_seam}
use Rattle.meaning.specs.Lists.{Each, each_nil}
use Rattle.meaning.specs.Row.{Row, IsRow, most_words}
use Rattle.meaning.specs.Sheet.{Sheet, Work, HoldAll, Values, IsSheet, constraints_of, has}
use Rattle.meaning.specs.Tidy.{working, tidy}
use Rattle.meaning.specs.Form.{TidyRows, unsolvable, solvable}
use Rattle.meaning.specs.Walk.{hidden}
use Rattle.meaning.specs.Bytes.{sheet_in, sheet_bytes}
use Rattle.meaning.specs.Refusal.{Call, refusal}
use Rattle.meaning.specs.Outcome.{Outcome, answer_in, fates_in, answer_of, outcome_by, outcome}
use Rattle.meaning.specs.Demands.{Hides, SameProjection, Demand1, Demand2, Alike, Demand3}
use Rattle.meaning.proofs.Members.{each_head, none_each}
use Rattle.meaning.proofs.Absent.{has_lacking, constraints_have}
use Rattle.meaning.proofs.Working.{Solved}
use Rattle.meaning.proofs.Unique.{SameSolutions}
use Rattle.meaning.proofs.Bullets.{form_unique, form_solution}
use Rattle.meaning.proofs.Tidying.{one_never, tidy_says, tidy_work}
use Rattle.meaning.proofs.Tidying as tidying
use Rattle.meaning.proofs.Start.{working_work, working_says, working_lacks, constraints_say}
use Rattle.meaning.proofs.Walks.{ends_length, ends_most, ends_occurs}
use Rattle.meaning.proofs.Demand2.{answer_exact, answer_stays, answer_lacks, answer_form}
use Rattle.meaning.proofs.Demand3.{equalities_hidden, same_answers}
use Rattle.meaning.proofs.Refusals.{first_refuses, first_accepts, sheet_numbered, table_numbered, sheet_passes}
use Rattle.meaning.proofs.Refusals.{readable_within, within_writable, written_fits}
use Rattle.meaning.proofs.Answer.{answer_few}
use Rattle.meaning.proofs.Calls.{outcome_refused, accepted, input_sheet, list_below, ends, came, answer_is, fates_is, within, answer_readable, back, again}

-- ---- tidying

module _ {s : Sheet} (h : IsSheet s) where
  -- it keeps what the sheet says
  pub tidy_keeps : (a : List ℕ) → Values s.width a
      → HoldAll s.width a (constraints_of (tidy s.width (working s))) ↔ HoldAll s.width a s.constraints
  tidy_keeps a v =
      let l : HoldAll s.width a (constraints_of (tidy s.width (working s))) ↔ Solved s.width a (tidy s.width (working s)) = constraints_say _ a _ in
      let t = tidy_says h.wide (working_work h) a v in
      (λ k. (working_says h a).1 (t.0 (l.0 k)), λ k. l.1 (t.1 ((working_says h a).0 k)))

  -- its equalities have the form that the rules declare
  pub tidy_form : TidyRows s.width (tidy s.width (working s)).eqs
  tidy_form = tidying.tidy_form (working_work h)

  -- "a tidy sheet tidied is itself"
  pub tidy_twice : tidy s.width (tidy s.width (working s)) ≡ tidy s.width (working s)
  tidy_twice = tidying.tidy_twice h.wide (working_work h)

-- no other equalities that say the same have the form
pub form_only : {p : ℕ} {rs ts : List Row} → 1 ≤ p → Each (IsRow p) rs → Each (IsRow p) ts → TidyRows p rs → TidyRows p ts
    → ((a : List ℕ) → Values p a
    → HoldAll p a (constraints_of (record { eqs = rs; others = [] })) ↔ HoldAll p a (constraints_of (record { eqs = ts; others = [] })))
    → rs ≡ ts
form_only {p} {rs} {ts} wide hr ht fr ft e = go hr ht fr ft same
  where
    zeros : {us : List Row} (a : List ℕ) → HoldAll p a (constraints_of (record { eqs = us; others = [] })) ↔ Solved p a (record { eqs = us; others = [] })
    zeros a = constraints_say p a _

    same : SameSolutions p rs ts
    same = record {
      forth = λ a v z. ((zeros a).0 ((e a v).0 ((zeros a).1 (record { zeros = z; hold = each_nil })))).zeros;
      back = λ a v z. ((zeros a).0 ((e a v).1 ((zeros a).1 (record { zeros = z; hold = each_nil })))).zeros;
    }

    go : {us vs : List Row} → Each (IsRow p) us → Each (IsRow p) vs → TidyRows p us → TidyRows p vs → SameSolutions p us vs → us ≡ vs
    go hu hv unsolvable unsolvable q = refl
    go hu hv unsolvable (solvable f) q =
        let s = form_solution hv f in
        absurd (one_never wide s.1 (each_head (q.back s.0 s.1 s.2)))
    go hu hv (solvable f) unsolvable q =
        let s = form_solution hu f in
        absurd (one_never wide s.1 (each_head (q.forth s.0 s.1 s.2)))
    go hu hv (solvable f) (solvable g) q = form_unique hu f hv g q

-- ---- a call has one outcome

pub one_outcome : (c : Call) {o q : Outcome} → o ≡ outcome c → q ≡ outcome c → o ≡ q
one_outcome c e f = e ∙ sym f

-- ---- demand 1

pub demand1 : (c : Call) → Demand1 c (outcome c)
unfolding refusal outcome outcome_by
demand1 c = record {
  refused = λ k. rw (outcome_refused c) (first_refuses (table_numbered c) k);
  accepted = rw (outcome_refused c) (first_accepts (table_numbered c));
  unchanged = unchanged (refusal c);
}
  where
    unchanged : (k : ℕ) → (outcome_by k c).refused ≢ 0 → ((outcome_by k c).out ≡ c.out) × ((outcome_by k c).fates ≡ c.fates)
    unchanged zero n = absurd (n refl)
    unchanged (suc k) n = (refl, refl)

-- ---- demand 2

module _ (c : Call) (ok : (outcome c).refused ≡ 0) where
  passed : refusal c ≡ 0
  passed = sym (outcome_refused c) ∙ ok

  hides : Hides (sheet_in c.sheet) c.list (fates_in c.list (outcome c)) (sheet_in (answer_in (outcome c)))
  unfolding answer_of
  hides =
      let s : Sheet = sheet_in c.sheet in
      let w : Work = (hidden c.list s).work in
      let h : IsSheet s = input_sheet c passed in
      let bs : Each (λ x. x < most_words) c.list = list_below c passed in
      rw (fates_is c passed) (record {
        same_width = ap (λ (t : Sheet). t.width) (back c passed);
        same_words = ap (λ (t : Sheet). t.words) (back c passed);
        exact = λ a v. rw (back c passed) ((answer_exact (ends c passed) h bs).exact a v);
        gone = λ x k. rw (back c passed) (constraints_have x w ∙ (answer_exact (ends c passed) h bs).gone x k);
        stays = λ i l. rw (again c passed) (answer_stays (ends c passed) h bs i l);
        named = λ i l e. rw (back c passed) (constraints_have _ w ∙ ends_occurs (ends c passed) i l e);
        known = λ x l e. rw (back c passed)
            (constraints_have x w ∙ answer_lacks (ends c passed) h bs x l (working_lacks h x l (none_each (has x) has_lacking s.constraints e)));
        sorted = rw (again c passed, back c passed);
        tidy = rw (again c passed) (answer_form (ends c passed) h bs);
      })

  pub demand2 : Demand2 c (outcome c)
  unfolding outcome_by answer_of sheet_in
  demand2 =
      let s : Sheet = sheet_in c.sheet in
      record {
        hides = hides;
        readable = (first_accepts (sheet_numbered _)).0 ((sheet_passes _).1 (answer_readable c passed));
        walks = rw (again c passed, fates_is c passed, ap (λ (t : Outcome). t.walks) (came c passed)) (ends c passed);
        few = rw (came c passed) (ends_most (ends c passed));
        beyond = (
          rw (came c passed) (drop-append_seam (sheet_bytes (answer_of s (hidden c.list s).work)) _),
          rw (came c passed, ← ends_length (ends c passed)) (drop-append_seam (hidden c.list s).fates _),
        );
        fits = rw (came c passed)
            (written_fits (within_writable (within c passed))
            (answer_few (ends c passed) (input_sheet c passed) (readable_within (accepted c passed).sheet) (list_below c passed)));
      }

-- ---- demand 3

pub demand3 : (c d : Call) → (outcome c).refused ≡ 0 → (outcome d).refused ≡ 0 → Alike c d → Demand3 c d (outcome c) (outcome d)
unfolding answer_of
demand3 c d okc okd a = record {
  hidden = λ i l. rw (fates_is c pc) (equalities_hidden (ends c pc) (input_sheet c pc) a.equalities (list_below c pc) i l);
  same = (λ e. same.0 (to e), λ q. from (same.1 q));
}
  where
    pc : refusal c ≡ 0
    pc = passed c okc

    pd : refusal d ≡ 0
    pd = passed d okd

    s : Sheet
    s = sheet_in c.sheet

    t : Sheet
    t = sheet_in d.sheet

    same : ((hidden c.list s).work ≡ (hidden d.list t).work) ↔ SameProjection s.width c.list s.constraints t.constraints
    same =
        same_answers (ends c pc) (ends d pd) (input_sheet c pc) (input_sheet d pd) a.same_width a.equalities a.equalities'
        (list_below c pc) (list_below d pd) a.same_list

    to : answer_in (outcome c) ≡ answer_in (outcome d) → (hidden c.list s).work ≡ (hidden d.list t).work
    to e = sym (again c pc) ∙ ap (λ (b : List ℕ). working (sheet_in b)) e ∙ again d pd

    from : (hidden c.list s).work ≡ (hidden d.list t).work → answer_in (outcome c) ≡ answer_in (outcome d)
    from e = answer_is c pc ∙ ap sheet_bytes (cc (e, a.same_width, a.same_words)) ∙ sym (answer_is d pd)
