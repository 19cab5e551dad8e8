-- Walking over the list: the words gone through so far, and the walks made so far.
use Rattle.std.proofs.Common.{◌≡◌, refl, sym, ap, ap₂, ◌∙◌, ◌≢◌, Bool, true, false, not, ◌||◌, ◌&&◌, List, [], ◌∷◌, ℕ, zero, suc, ◌+◌, ◌-◌, ◌≤◌, ◌<◌}
use Rattle.std.proofs.Common.{add-zero, add-one, arith, eqb, length, get_or, set, take, drop, length-set, drop-cons, drop-drop, drop-set-lt}
use Rattle.std.proofs.Common.{eq-eqb, eqb-true}
use Rattle.std.proofs.lemmas.Bool.{eqb-false}
use Rattle.std.proofs.Math.Bool.{and_assoc, and-true}
use Rattle.std.proofs.Math.Seq.{drop-length, set-get_or}
use borrow.Author.Tests.{not-true, not-false}
use denote.Enum.Bare.{sameb}
use denote.Enum.Declared.{tag_of}
use Rattle.meaning.specs.Lists.{same}
use Rattle.meaning.specs.Sheet.{Work}
use Rattle.meaning.specs.Layers.{try}
use Rattle.meaning.specs.Tidy.{tidy}
use Rattle.meaning.specs.Walk.{Walked, settled, turned, walk, walk_in, unhidden_from, list_order}
use Rattle.meaning.specs.Walk.{State, one_more, all_hidden, walks_from}
use Rattle.meaning.proofs.Tests.{both_true, same_refl}
use Rattle.meaning.proofs.Walks.{from_over, from_last, from_again}
use Rattle.sheet.specs.Working.{IsWorking}
use Rattle.sheet.specs.declared.Sheet.{Sheet}
use Rattle.hide.specs.Fate.{fate_number}
use Rattle.hide.specs.Steps.{Follows}
use Rattle.hide.specs.declared.fate.Fate.{Fate}
use Rattle.hide.specs.declared.fate.Fate.TheVariants.{Left, Absent, Layer1, Layer2}
use Rattle.hide.specs.contracts.fate.Fate.{the_type}

-- ---- fates are equal where their numbers are

number_is : (f : Fate) → tag_of the_type f ≡ fate_number f
number_is Left = refl
number_is Absent = refl
number_is Layer1 = refl
number_is Layer2 = refl

pub same_fate : (f g : Fate) → sameb the_type f g ≡ eqb (fate_number f) (fate_number g)
same_fate f g = ap₂ eqb (number_is f) (number_is g)

pub is_left : (f : Fate) → not (sameb the_type f Left) ≡ false → fate_number f ≡ 0
is_left f e = eqb-true (fate_number f) 0 (sym (same_fate f Left) ∙ not-false _ e)

pub is_hidden : (f : Fate) → not (sameb the_type f Left) ≡ true → fate_number f ≢ 0
is_hidden f e = eqb-false (fate_number f) 0 (sym (same_fate f Left) ∙ not-true _ e)

-- ---- a sheet and the sheets that follow it

pub follows_own : {s : Sheet} → IsWorking s → Follows s s
follows_own h = record { working = h; width = refl; words = refl; fewer = omega arith }

pub follows_then : {r s t : Sheet} → Follows r s → Follows s t → Follows r t
follows_then h k =
    record { working = k.working; width = k.width ∙ h.width; words = k.words ∙ h.words; fewer = omega (arith, h.fewer, k.fewer) }

-- ---- the turn of word x, whose fate so far is f, at a position that has them

-- in list order the walk over position i alone: nothing where the word is hidden
abbrev step : ℕ → List ℕ → ℕ → ℕ → Walked → Walked
step p xs i f s = walk p xs (unhidden_from i (f ∷ [])) s

module _ (p : ℕ) (xs fs : List ℕ) (i : ℕ) (w : Work) where
  -- it is hidden already
  pub step_passed : (f : ℕ) → f ≢ 0 → get_or fs i 0 ≡ f
      → step p xs i f (record { work = w; fates = fs }) ≡ record { work = w; fates = set fs i f }
  unfolding walk unhidden_from
  step_passed zero n e = absurd (n refl)
  step_passed (suc f) n e = rw (← e, set-get_or fs i 0)

  -- it is tried
  module _ {x f g : ℕ} {v : Work} (ex : get_or xs i 0 ≡ x) (zf : f ≡ 0) (eg : g ≡ (try p x w).fate) where
    step_tried : v ≡ settled p g (try p x w).work
        → step p xs i f (record { work = w; fates = fs }) ≡ record { work = v; fates = set fs i g }
    unfolding walk unhidden_from turned
    step_tried ev = rw (zf, ex, ← eg, ev)

    pub step_left : g ≡ 0 → v ≡ (try p x w).work → step p xs i f (record { work = w; fates = fs }) ≡ record { work = v; fates = set fs i g }
    unfolding settled
    step_left zg ev = step_tried (rw zg ev)

    pub step_tidied : g ≢ 0 → v ≡ tidy p (try p x w).work
        → step p xs i f (record { work = w; fates = fs }) ≡ record { work = v; fates = set fs i g }
    unfolding settled
    step_tidied n ev = step_tried (ev ∙ go g n)
      where
        go : (g : ℕ) → g ≢ 0 → tidy p (try p x w).work ≡ settled p g (try p x w).work
        go zero n = absurd (n refl)
        go (suc g) n = refl

-- ---- a walk that has come to position i of the list xs: the fates fs and the sheet w now, the fates gs at its start

same_set : (fs gs : List ℕ) (i g : ℕ) → i < length fs → drop i fs ≡ drop i gs → same (set fs i g) gs ≡ same fs gs && eqb g (get_or fs i 0)
same_set [] gs i g l e = absurd (let n : ⊥ = omega arith in n)
same_set (a ∷ fs) gs zero g l e = rw (← e, eq-eqb a a refl, same_refl fs) (and-true (eqb g a))
same_set (a ∷ fs) [] (suc i) g l e = refl
same_set (a ∷ fs) (b ∷ gs) (suc i) g l e =
    ap (λ (t : Bool). eqb a b && t) (same_set fs gs i g (omega arith) e) ∙ sym (and_assoc (eqb a b) (same fs gs) (eqb g (get_or fs i 0)))

all_set : (fs : List ℕ) (i g : ℕ) → i < length fs → all_hidden (take (suc i) (set fs i g)) ≡ all_hidden (take i fs) && not (eqb g 0)
all_set [] i g l = absurd (let n : ⊥ = omega arith in n)
all_set (a ∷ fs) zero g l = and-true (not (eqb g 0))
all_set (a ∷ fs) (suc i) g l =
    ap (λ (t : Bool). not (eqb a 0) && t) (all_set fs i g (omega arith)) ∙ sym (and_assoc (not (eqb a 0)) (all_hidden (take i fs)) (not (eqb g 0)))

not_both : (b c : Bool) → not (b && c) ≡ (not b || not c)
not_both true c = refl
not_both false c = refl

not_but : (b c : Bool) → not (b && not c) ≡ (not b || c)
not_but true true = refl
not_but true false = refl
not_but false c = refl

-- the walk over the unhidden positions from i on, from the fates and the sheet now, is the whole walk
pub record Walking (p : ℕ) (xs gs : List ℕ) (whole : Walked) (fs : List ℕ) (w : Work) (hid left : Bool) (i : ℕ) : Type 0 where
  pub within : i ≤ length xs
  pub long : length fs ≡ length xs
  pub rest : walk p xs (unhidden_from i (drop i fs)) (record { work = w; fates = fs }) ≡ whole
  pub behind : drop i fs ≡ drop i gs
  pub hides : hid ≡ not (same fs gs)
  pub leaves : left ≡ not (all_hidden (take i fs))

walk_split : (p : ℕ) (xs : List ℕ) (i f : ℕ) (fs : List ℕ) (s : Walked)
    → walk p xs (unhidden_from i (f ∷ fs)) s ≡ walk p xs (unhidden_from (suc i) fs) (step p xs i f s)
unfolding walk unhidden_from
walk_split p xs i zero fs s = refl
walk_split p xs i (suc f) fs s = refl

module _ {p : ℕ} {xs gs : List ℕ} where
  pub walk_none : (w : Work) → length gs ≡ length xs
      → Walking p xs gs (walk_in list_order p xs (record { work = w; fates = gs })) gs w false false 0
  unfolding list_order
  walk_none w l =
      record { within = omega arith; long = l; rest = refl; behind = refl; hides = rw (same_refl gs); leaves = refl }

  module _ {whole : Walked} {fs : List ℕ} {w : Work} {hid left : Bool} {i : ℕ} (h : Walking p xs gs whole fs w hid left i) where
    -- the word at i comes to the fate g and the sheet v
    pub walk_next : i < length xs → (g : ℕ) (v : Work)
        → step p xs i (get_or fs i 0) (record { work = w; fates = fs }) ≡ record { work = v; fates = set fs i g }
        → Walking p xs gs whole (set fs i g) v (hid || not (eqb g (get_or fs i 0))) (left || eqb g 0) (i + 1)
    walk_next b g v e =
        let inside : i < length fs = omega (arith, h.long) in
        record {
          within = omega arith;
          long = length-set fs i g ∙ h.long;
          rest =
              rw (add-one i, drop-set-lt (suc i) fs i g (omega arith))
              (rw (drop-cons fs i 0 inside, walk_split p xs i (get_or fs i 0) (drop (suc i) fs) (record { work = w; fates = fs }), e) at h.rest);
          behind =
              drop-set-lt (i + 1) fs i g (omega arith) ∙ sym (drop-drop 1 i fs) ∙ ap (drop 1) h.behind ∙ drop-drop 1 i gs;
          hides =
              rw (same_set fs gs i g inside h.behind, h.hides) (sym (not_both (same fs gs) (eqb g (get_or fs i 0))));
          leaves = rw (add-one i, all_set fs i g inside, h.leaves) (sym (not_but (all_hidden (take i fs)) (eqb g 0)));
        }

    -- the whole list is gone through
    pub walk_all : length xs ≤ i → whole ≡ record { work = w; fates = fs }
    unfolding walk unhidden_from
    walk_all b =
        let e : i ≡ length fs = omega (arith, h.within, h.long) in
        sym (rw (e, drop-length fs) at h.rest)

-- ---- n walks over the list xs are made: what those to come make of the fates and the sheet now is what all make

abbrev after : ℕ → State → State
after n r = record { work = r.work; fates = r.fates; walks = n + r.walks }

after_one : (n : ℕ) (r : State) → after n (one_more r) ≡ after (n + 1) r
after_one n r = let e : n + suc r.walks ≡ n + 1 + r.walks = omega arith in rw e

pub record Made (p : ℕ) (xs : List ℕ) (whole : State) (s : Walked) (n : ℕ) : Type 0 where
  pub within : n ≤ length xs
  pub rest : after n (walks_from list_order (length xs - n) p xs s) ≡ whole
  pub more : n < length xs → all_hidden s.fates ≡ false

module _ {p : ℕ} {xs : List ℕ} where
  module _ {whole : State} {s : Walked} {n : ℕ} (h : Made p xs whole s n) where
    pub made_all : length xs ≤ n → record { work = s.work; fates = s.fates; walks = n } ≡ whole
    unfolding walks_from
    made_all b = let e : length xs - n ≡ 0 = omega arith in rw (e, add-zero n) at h.rest

    -- one walk more, to v
    module _ (b : n < length xs) (v : Walked) (e : walk_in list_order p xs s ≡ v) where
      abbrev t : ℕ
      t = length xs - (n + 1)

      one_less : length xs - n ≡ suc t
      one_less = omega arith

      rest_more : same v.fates s.fates ≡ false → after (n + 1) (walks_from list_order t p xs v) ≡ whole
      rest_more q =
          sym (after_one n (walks_from list_order t p xs v))
          ∙ rw (one_less, from_again list_order t p xs s (h.more b) (rw e q), e) at h.rest

      pub made_next : not (same v.fates s.fates) && not (all_hidden v.fates) ≡ true → Made p xs whole v (n + 1)
      made_next m =
          let (q, a) = both_true (not (same v.fates s.fates)) (not (all_hidden v.fates)) m in
          record { within = omega arith; rest = rest_more (not-true _ q); more = λ z. not-true _ a }

      pub made_last : not (same v.fates s.fates) && not (all_hidden v.fates) ≡ false
          → record { work = v.work; fates = v.fates; walks = n + 1 } ≡ whole
      made_last m = go (same v.fates s.fates) refl m
        where
          go : (c : Bool) → same v.fates s.fates ≡ c → not c && not (all_hidden v.fates) ≡ false
              → record { work = v.work; fates = v.fates; walks = n + 1 } ≡ whole
          go true q m = rw (one_less, from_last list_order t p xs s (h.more b) (rw e q), e) at h.rest
          go false q m = rw (from_over list_order t p xs v (not-false _ m), add-zero (n + 1)) at (rest_more q)
