-- Demand 3: of sheets of equalities alone every listed word is hidden, and two answers are the same sheet exactly when the
-- projections are the same. For any orders of the walks.
use mathlib.Core.Path.{◌≡◌, refl, ap, sym, ◌∙◌, subst}
use mathlib.Core.Logic.{◌↔◌, ◌≢◌}
use mathlib.Core.List.{List, [], ◌∷◌}
use Prim.Native.Nat.{ℕ, zero, suc, suc-le-suc, ◌≤◌, ◌<◌}
use native.Mathlib.Omega.{arith}
use native.Mathlib.Nat.{suc_inj}
use lib.ListN.{length, get_or}
use Rattle.meaning.specs.Lists.{Listed, first, later, Each, each_nil, kept_by}
use Rattle.meaning.specs.Row.{most_words}
use Rattle.meaning.specs.Sheet.{Constraint, Sheet, Work, Values, IsSheet, IsWork}
use Rattle.meaning.specs.Tidy.{kept, tidy}
use Rattle.meaning.specs.Walk.{Order, State, Ends}
use Rattle.meaning.specs.Demands.{Hidden, here, there, Completed, IsEquality, SameWords, SameProjection}
use Rattle.meaning.proofs.Members.{each_get}
use Rattle.meaning.proofs.Working.{IsZero, Solved}
use Rattle.meaning.proofs.Tidying.{Tidied, tidied_false, tidied_rows_lem, tidied, tidy_work, tidy_same, tidy_twice}
use Rattle.meaning.proofs.Try.{try_work, try_equalities}
use Rattle.meaning.proofs.Start.{working_work, constraints_say, no_others}
use Rattle.meaning.proofs.Walks.{ends_keep, ends_length, ends_left}
use Rattle.meaning.proofs.Demand2.{completed_as, answer_exact}

-- ---- tidying adds no other constraint

tidy_equalities : {p : ℕ} {w : Work} → IsWork p w → w.others ≡ [] → (tidy p w).others ≡ []
unfolding kept kept_by
tidy_equalities {p} {w} hw e = go (tidied hw)
  where
    go : {v : Work} → Tidied p w v → v.others ≡ []
    go (tidied_false n) = refl
    go (tidied_rows_lem h r z l f) = ap kept e

-- ---- a tidy sheet of equalities stays one

record TidyEqualities (p : ℕ) (w : Work) : Type 0 where
  work : IsWork p w
  none : w.others ≡ []
  tidy_is : tidy p w ≡ w

equal_tidy : {p : ℕ} {w : Work} → 1 ≤ p → IsWork p w → w.others ≡ [] → TidyEqualities p (tidy p w)
equal_tidy wide hw e = record { work = tidy_work wide hw; none = tidy_equalities hw e; tidy_is = tidy_twice wide hw }

-- ---- the hidden words are the listed ones

hidden_listed : {y : ℕ} {xs fs : List ℕ} → Hidden y xs fs → Listed y xs
hidden_listed here = first
hidden_listed (there h) = later (hidden_listed h)

listed_hidden : {y : ℕ} {xs : List ℕ} (fs : List ℕ) → length fs ≡ length xs → ((i : ℕ) → i < length xs → get_or fs i 0 ≢ 0)
    → Listed y xs → Hidden y xs fs
listed_hidden [] e n first = absurd (let z : ⊥ = omega arith in z)
listed_hidden (zero ∷ fs) e n (first {xs = xs}) = absurd (n 0 (omega arith) refl)
listed_hidden (suc f ∷ fs) e n first = here
listed_hidden [] e n (later l) = absurd (let z : ⊥ = omega arith in z)
listed_hidden (f ∷ fs) e n (later l) = there (listed_hidden fs (suc_inj e) (λ i b. n (suc i) (suc-le-suc b)) l)

-- ---- the answer of a sheet of equalities

-- the sheet w is the tidy sheet of the projection of cs that hides the words xs
record Projected (p : ℕ) (xs : List ℕ) (cs : List Constraint) (w : Work) : Type 0 where
  tidy_one : TidyEqualities p w
  says : (a : List ℕ) → Values p a → Solved p a w ↔ Completed p (λ x. Listed x xs) cs a

module _ {o : Order} {s : Sheet} {xs : List ℕ} {t : State} (ends : Ends o xs s t)
    (h : IsSheet s) (es : Each IsEquality s.constraints) (bs : Each (λ x. x < most_words) xs) where
  equal : TidyEqualities s.width t.work
  equal =
      ends_keep ends (λ w fs. TidyEqualities s.width w)
      (λ v i f g q.
      let b : get_or xs i 0 < most_words = each_get i 0 g.inside bs in
      equal_tidy h.wide (try_work q.work b) (try_equalities q.work b q.none).1)
      (equal_tidy h.wide (working_work h) (no_others s es))

  pub equalities_answer : t.work.others ≡ []
  equalities_answer = equal.none

  -- every listed word is hidden
  pub equalities_hidden : (i : ℕ) → i < length xs → get_or t.fates i 0 ≢ 0
  equalities_hidden i l e = (try_equalities equal.work (each_get i 0 l bs) equal.none).0 (ends_left ends i l e)

  projected : Projected s.width xs s.constraints t.work
  projected = record {
    tidy_one = equal;
    says = λ a v.
        let l = constraints_say s.width a t.work in
        let e = (answer_exact ends h bs).exact a v in (
          λ k. completed_as (λ y. hidden_listed) (e.0 (l.1 k)),
          λ c. l.0 (e.1 (completed_as (λ y. listed_hidden _ (ends_length ends) equalities_hidden) c)),
        );
  }

-- ---- the same sheet exactly when the same projection

solved_zeros : {p : ℕ} {a : List ℕ} {w : Work} → w.others ≡ [] → Solved p a w ↔ Each (IsZero p a) w.eqs
solved_zeros {p} {a} {w} e = (λ s. s.zeros, λ z. record { zeros = z; hold = rw e each_nil })

same_projected : {p : ℕ} {xs ys : List ℕ} {cs ds : List Constraint} {w v : Work} → SameWords xs ys
    → Projected p xs cs w → Projected p ys ds v → (w ≡ v) ↔ SameProjection p xs cs ds
same_projected {p} {xs} {ys} {cs} {ds} {w} {v} names hw hv = (to, from)
  where
    to_ys : {es : List Constraint} {a : List ℕ} → Completed p (λ x. Listed x xs) es a → Completed p (λ x. Listed x ys) es a
    to_ys c = completed_as (λ y. (names.both y).0) c

    to_xs : {es : List Constraint} {a : List ℕ} → Completed p (λ x. Listed x ys) es a → Completed p (λ x. Listed x xs) es a
    to_xs c = completed_as (λ y. (names.both y).1) c

    to : w ≡ v → SameProjection p xs cs ds
    to e = record {
      both = λ a ha. (
        λ c. to_xs ((hv.says a ha).0 (subst (Solved p a) e ((hw.says a ha).1 c))),
        λ c. (hw.says a ha).0 (subst (Solved p a) (sym e) ((hv.says a ha).1 (to_ys c))),
      );
    }

    from : SameProjection p xs cs ds → w ≡ v
    from q =
        sym hw.tidy_one.tidy_is
        ∙ tidy_same hw.tidy_one.work hv.tidy_one.work hw.tidy_one.none hv.tidy_one.none
        (λ a ha. (
          λ z. (solved_zeros hv.tidy_one.none).0 ((hv.says a ha).1 (to_ys ((q.both a ha).0 ((hw.says a ha).0 ((solved_zeros hw.tidy_one.none).1 z))))),
          λ z. (solved_zeros hw.tidy_one.none).0 ((hw.says a ha).1 ((q.both a ha).1 (to_xs ((hv.says a ha).0 ((solved_zeros hv.tidy_one.none).1 z))))),
        ))
        ∙ hv.tidy_one.tidy_is

pub same_answers : {o o' : Order} {s s' : Sheet} {xs ys : List ℕ} {t t' : State} → Ends o xs s t → Ends o' ys s' t'
    → IsSheet s → IsSheet s' → s'.width ≡ s.width → Each IsEquality s.constraints → Each IsEquality s'.constraints
    → Each (λ x. x < most_words) xs → Each (λ x. x < most_words) ys → SameWords xs ys
    → (t.work ≡ t'.work) ↔ SameProjection s.width xs s.constraints s'.constraints
same_answers {s' = s'} {ys = ys} {t' = t'} ends ends' h h' e es es' bs bs' names =
    same_projected names (projected ends h es bs)
    (subst (λ (p : ℕ). Projected p ys s'.constraints t'.work) e (projected ends' h' es' bs'))
