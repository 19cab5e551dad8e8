-- Demand 2: the answer holds where some values of the hidden words make the input hold, no hidden word is in it, and a listed
-- word stays exactly when the two layers leave it. For any order of the walks.
use mathlib.Core.Path.{◌≡◌, refl, sym, ◌∙◌}
use mathlib.Core.Logic.{◌↔◌, ◌≢◌, ◌⊎◌, inl, inr, ⊎_elim, ⊎_map}
use mathlib.Core.Bool.{Bool, true, false}
use mathlib.Core.List.{List, [], ◌∷◌}
use Prim.Native.Nat.{ℕ, zero, suc, ◌^◌, ◌≤◌, ◌<◌}
use native.Mathlib.Omega.{arith}
use native.Mathlib.Nat.{le_of_suc-le-suc}
use lib.Dec.{eqb}
use lib.ListN.{length, get_or, set, replicate}
use lib.Seq.{ext_get_or, get_or-set_same, get_or-set_other}
use borrow.Author.Tests.{eqb-true, eqb-false}
use Rattle.meaning.specs.Lists.{Each, each_nil, each_cons}
use Rattle.meaning.specs.Row.{most_words}
use Rattle.meaning.specs.Sheet.{Constraint, Sheet, Work, Values, HoldAll, IsSheet, constraints_of, occurs, IsWork}
use Rattle.meaning.specs.Tidy.{tidy, working}
use Rattle.meaning.specs.Form.{TidyRows}
use Rattle.meaning.specs.Layers.{try}
use Rattle.meaning.specs.Walk.{Order, State, Ends}
use Rattle.meaning.specs.Demands.{Hidden, here, there, Completed}
use Rattle.meaning.proofs.Tests.{clash}
use Rattle.meaning.proofs.Members.{each_get}
use Rattle.meaning.proofs.Value.{set_values}
use Rattle.meaning.proofs.Working.{Solved}
use Rattle.meaning.proofs.Tidying.{tidy_says, tidy_work, tidy_form, tidy_absent}
use Rattle.meaning.proofs.Try.{try_occurs, try_says, try_gone, try_work, try_absent}
use Rattle.meaning.proofs.Start.{working_work, working_says, constraints_say, working_absent}
use Rattle.meaning.proofs.Walks.{Survives, ends_left, ends_keep}

-- ---- completing one word more

module _ {p : ℕ} {H : ℕ → Type 0} {cs : List Constraint} {a : List ℕ} where
  completed_more : (x v : ℕ) → Completed p H cs (set a x v) → Completed p (λ y. H y ⊎ (y ≡ x)) cs a
  completed_more x v c = record {
    values = c.values;
    fit = c.fit;
    kept = λ y n. c.kept y (λ h. n (inl h)) ∙ get_or-set_other a x y v 0 (λ e. n (inr e));
    holds = c.holds;
  }

  completed_less : {x : ℕ} → x < length a → (c : Completed p (λ y. H y ⊎ (y ≡ x)) cs a)
      → Completed p H cs (set a x (get_or c.values x 0))
  completed_less {x} l c = record { values = c.values; fit = c.fit; kept = λ y n. go y n (eqb y x) refl; holds = c.holds }
    where
      go : (y : ℕ) → ¬ H y → (b : Bool) → eqb y x ≡ b → get_or c.values y 0 ≡ get_or (set a x (get_or c.values x 0)) y 0
      go y n true e = rw (eqb-true y x e) (sym (get_or-set_same a x _ 0 l))
      go y n false e = c.kept y (⊎_elim n (eqb-false y x e)) ∙ sym (get_or-set_other a x y _ 0 (eqb-false y x e))

  pub completed_as : {K : ℕ → Type 0} → ((y : ℕ) → H y → K y) → Completed p H cs a → Completed p K cs a
  completed_as f c = record { values = c.values; fit = c.fit; kept = λ y n. c.kept y (λ h. n (f y h)); holds = c.holds }

values_ext : {p : ℕ} {a b : List ℕ} → Values p a → Values p b → ((x : ℕ) → get_or a x 0 ≡ get_or b x 0) → a ≡ b
values_ext {a = a} {b = b} v w h = ext_get_or 0 a b (v.sixteen ∙ sym w.sixteen) (λ i l. h i)

-- ---- the sheet w with the words H hidden, from the constraints cs

record Hides (p : ℕ) (cs : List Constraint) (H : ℕ → Type 0) (w : Work) : Type 0 where
  work : IsWork p w
  exact : (a : List ℕ) → Values p a → Solved p a w ↔ Completed p H cs a
  gone : (x : ℕ) → x < most_words → H x → occurs x w ≡ false

hides_as : {p : ℕ} {cs : List Constraint} {H K : ℕ → Type 0} {w : Work} → ((y : ℕ) → H y → K y) → ((y : ℕ) → K y → H y)
    → Hides p cs H w → Hides p cs K w
hides_as f g h = record {
  work = h.work;
  exact = λ a v. (λ t. completed_as f ((h.exact a v).0 t), λ c. (h.exact a v).1 (completed_as g c));
  gone = λ x l k. h.gone x l (g x k);
}

-- ---- the hidden words of a list

none_hidden : {y : ℕ} (xs : List ℕ) → ¬ Hidden y xs (replicate (length xs) 0)
none_hidden [] h = elim h [ ]
none_hidden (x ∷ xs) (there h) = none_hidden xs h

hidden_at_lem : (xs fs : List ℕ) (i f : ℕ) → i < length xs → get_or fs i 0 ≡ suc f → Hidden (get_or xs i 0) xs fs
hidden_at_lem [] fs i f l e = absurd (let n : ⊥ = omega arith in n)
hidden_at_lem (x ∷ xs) [] i f l e = absurd (let n : ⊥ = omega arith in n)
hidden_at_lem (x ∷ xs) (zero ∷ fs) zero f l e = absurd (let n : ⊥ = omega arith in n)
hidden_at_lem (x ∷ xs) (suc g ∷ fs) zero f l e = here
hidden_at_lem (x ∷ xs) (g ∷ fs) (suc i) f l e = there (hidden_at_lem xs fs i f (le_of_suc-le-suc l) e)

hidden_below : {y : ℕ} {xs fs : List ℕ} → Each (λ x. x < most_words) xs → Hidden y xs fs → y < most_words
hidden_below each_nil h = elim h [ ]
hidden_below (each_cons b bs) here = b
hidden_below (each_cons b bs) (there h) = hidden_below bs h

-- a fate set at position i hides the word there, and no other
hidden_still : {y : ℕ} {xs fs : List ℕ} (i f : ℕ) → Hidden y xs fs → Hidden y xs (set fs i (suc f))
hidden_still zero f here = here
hidden_still (suc i) f here = here
hidden_still zero f (there h) = there h
hidden_still (suc i) f (there h) = there (hidden_still i f h)

hidden_before : {y : ℕ} {xs : List ℕ} (fs : List ℕ) (i f : ℕ) → Hidden y xs (set fs i (suc f)) → Hidden y xs fs ⊎ (y ≡ get_or xs i 0)
hidden_before [] i f h = inl h
hidden_before (g ∷ fs) zero f here = inr refl
hidden_before (g ∷ fs) zero f (there h) = inl (there h)
hidden_before (suc g ∷ fs) (suc i) f here = inl here
hidden_before (g ∷ fs) (suc i) f (there h) = ⊎_map there (λ e. e) (hidden_before fs i f h)

-- ---- a word hidden

hides_one : {p x f : ℕ} {cs : List Constraint} {H : ℕ → Type 0} {w : Work} → 1 ≤ p → x < most_words → (try p x w).fate ≡ suc f
    → Hides p cs H w → Hides p cs (λ y. H y ⊎ (y ≡ x)) (tidy p (try p x w).work)
hides_one {p} {x} {f} {cs} {H} {w} l b e h = record { work = tidy_work l tried; exact = exact; gone = gone }
  where
    hid : (try p x w).fate ≢ 0
    hid z = omega arith

    tried : IsWork p (try p x w).work
    tried = try_work h.work b

    exact : (a : List ℕ) → Values p a → Solved p a (tidy p (try p x w).work) ↔ Completed p (λ y. H y ⊎ (y ≡ x)) cs a
    exact a v = (
      λ t.
          let s : (u : ℕ) × (u < 2 ^ p) × Solved p (set a x u) w = (try_says h.work b hid a v).0 ((tidy_says l tried a v).0 t) in
          completed_more x s.0 ((h.exact (set a x s.0) (set_values x s.0 s.1 v)).0 s.2),
      λ c.
          let u : ℕ = get_or c.values x 0 in
          let small : u < 2 ^ p = c.fit.small x in
          let s : Solved p (set a x u) w = (h.exact (set a x u) (set_values x u small v)).1 (completed_less (rw v.sixteen b) c) in
          (tidy_says l tried a v).1 ((try_says h.work b hid a v).1 (u, small, s)),
    )

    gone : (y : ℕ) → y < most_words → H y ⊎ (y ≡ x) → occurs y (tidy p (try p x w).work) ≡ false
    gone y k d =
        tidy_absent l tried y k
        (⊎_elim (λ j. try_absent h.work b y k (h.gone y k j)) (λ q. rw q (try_gone h.work b hid)) d)

-- one more success
hides_more : (p : ℕ) (cs : List Constraint) {xs : List ℕ} → 1 ≤ p → Each (λ x. x < most_words) xs
    → Survives p xs (λ w fs. Hides p cs (λ y. Hidden y xs fs) w)
hides_more p cs {xs} l bs s i f g h =
    let now : Hidden (get_or xs i 0) xs (set s.fates i (suc f)) =
    hidden_at_lem xs _ i f g.inside (get_or-set_same s.fates i (suc f) 0 (omega (arith, g.long, g.inside))) in
    hides_as (λ y. ⊎_elim (hidden_still i f) (λ e. rw e now)) (λ y. hidden_before s.fates i f)
    (hides_one l (each_get i 0 g.inside bs) g.fate h)

-- the tidied sheet says what the sheet says, and no word is hidden yet
start_says : {s : Sheet} → IsSheet s → (a : List ℕ) → Values s.width a
    → Solved s.width a (tidy s.width (working s)) ↔ HoldAll s.width a s.constraints
start_says h a v =
    let t = tidy_says h.wide (working_work h) a v in
    (λ k. (working_says h a).1 (t.0 k), λ k. t.1 ((working_says h a).0 k))

start_hides : {s : Sheet} (xs : List ℕ) → IsSheet s
    → Hides s.width s.constraints (λ y. Hidden y xs (replicate (length xs) 0)) (tidy s.width (working s))
start_hides xs h = record {
  work = tidy_work h.wide (working_work h);
  exact = λ a v. (
    λ t. record { values = a; fit = v; kept = λ y n. refl; holds = (start_says h a v).0 t },
    λ c. (start_says h a v).1 (rw (values_ext c.fit v (λ y. c.kept y (none_hidden xs))) at c.holds),
  );
  gone = λ y l k. absurd (none_hidden xs k);
}

-- ---- the answer, whatever the order

-- of the sheet s, the list xs and what the walks come to
pub record Exact (s : Sheet) (xs : List ℕ) (t : State) : Type 0 where
  pub exact : (a : List ℕ) → Values s.width a
      → HoldAll s.width a (constraints_of t.work) ↔ Completed s.width (λ x. Hidden x xs t.fates) s.constraints a
  pub gone : (x : ℕ) → Hidden x xs t.fates → occurs x t.work ≡ false

module _ {o : Order} {s : Sheet} {xs : List ℕ} {t : State} (ends : Ends o xs s t) (h : IsSheet s) (bs : Each (λ x. x < most_words) xs) where
  answer : Hides s.width s.constraints (λ y. Hidden y xs t.fates) t.work
  answer =
      ends_keep ends (λ w fs. Hides s.width s.constraints (λ y. Hidden y xs fs) w)
      (hides_more s.width s.constraints h.wide bs) (start_hides xs h)

  pub answer_work : IsWork s.width t.work
  answer_work = answer.work

  -- its equalities are tidy: the sheet is tidied at the start and after each success
  pub answer_form : TidyRows s.width t.work.eqs
  answer_form = (ends_keep ends (λ w fs. IsWork s.width w × TidyRows s.width w.eqs) kept first).1
    where
      first : IsWork s.width (tidy s.width (working s)) × TidyRows s.width (tidy s.width (working s)).eqs
      first = (tidy_work h.wide (working_work h), tidy_form (working_work h))

      kept : Survives s.width xs (λ w fs. IsWork s.width w × TidyRows s.width w.eqs)
      kept v i f g q =
          let w : IsWork s.width (try s.width (get_or xs i 0) v.work).work = try_work q.0 (each_get i 0 g.inside bs) in
          (tidy_work h.wide w, tidy_form w)

  pub answer_exact : Exact s xs t
  answer_exact = record {
    exact = λ a v.
        let l : HoldAll s.width a (constraints_of t.work) ↔ Solved s.width a t.work = constraints_say _ a _ in
        (λ k. (answer.exact a v).0 (l.0 k), λ c. l.1 ((answer.exact a v).1 c));
    gone = λ x k. answer.gone x (hidden_below bs k) k;
  }

  -- "A listed word stays exactly when the two layers leave it."
  pub answer_stays : (i : ℕ) → i < length xs
      → (get_or t.fates i 0 ≡ 0) ↔ ((try s.width (get_or xs i 0) t.work).fate ≡ 0)
  answer_stays i l = (ends_left ends i l, λ e. go (get_or t.fates i 0) refl (try_occurs s.width (get_or xs i 0) t.work e))
    where
      go : (f : ℕ) → get_or t.fates i 0 ≡ f → occurs (get_or xs i 0) t.work ≡ true → f ≡ 0
      go zero q e = refl
      go (suc f) q e =
          let k : Hidden (get_or xs i 0) xs t.fates = hidden_at_lem xs t.fates i f l q in
          clash e (answer.gone _ (hidden_below bs k) k)

  -- a word that the input lacks is not in the answer
  pub answer_lacks : (y : ℕ) → y < most_words → occurs y (working s) ≡ false → occurs y t.work ≡ false
  answer_lacks y k e = (ends_keep ends (λ w fs. P w) kept first).1
    where
      P : Work → Type 0
      P v = IsWork s.width v × (occurs y v ≡ false)

      first : P (tidy s.width (working s))
      first = (tidy_work h.wide (working_work h), tidy_absent h.wide (working_work h) y k e)

      kept : Survives s.width xs (λ w fs. P w)
      kept v i f g q =
          let b : get_or xs i 0 < most_words = each_get i 0 g.inside bs in
          let w : IsWork s.width (try s.width (get_or xs i 0) v.work).work = try_work q.0 b in
          (tidy_work h.wide w, tidy_absent h.wide w y k (try_absent q.0 b y k q.1))

  -- so one that is in the answer is in the input
  pub answer_occurs : (y : ℕ) → y < most_words → occurs y t.work ≡ true → occurs y (working s) ≡ true
  answer_occurs y k e = go (occurs y (working s)) refl
    where
      go : (b : Bool) → occurs y (working s) ≡ b → b ≡ true
      go true q = refl
      go false q = clash e (answer_lacks y k q)

  -- those from the sheet's number of words on are not
  pub answer_count : (y : ℕ) → s.words ≤ y → y < most_words → occurs y t.work ≡ false
  answer_count y l k = answer_lacks y k (working_absent h y l k)
