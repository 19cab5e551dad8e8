-- Tests of the members of a list that is mapped, in the words of std and in those of the meaning.
use Rattle.std.proofs.Common.{ℕ, ◌+◌, ◌<◌, ◌≤◌, ◌≡◌, refl, sym, ap, ap₂, ◌∙◌, Bool, true, false, cond, ◌||◌, List, [], ◌∷◌, ◌++◌, map, filter, length, take, drop, set, get_or, arith, length-set, append-nil}
use Rattle.std.proofs.lemmas.List.{drop_more, take_more, take_more_set, drop-set-lt}
use Rattle.std.proofs.lemmas.List.Elements.{filter-append}
use Rattle.std.specs.List.{list_any}
use Rattle.meaning.specs.Lists.{any_of, kept_by}

module _ {A B : Type 0} (f : A → B) where
  pub any_of_map : (t : B → Bool) (xs : List A) → list_any (λ x. t (f x)) xs ≡ any_of t (map f xs)
  any_of_map t [] = refl
  any_of_map t (x ∷ xs) = ap (λ b. t (f x) || b) (any_of_map t xs)

  -- a test that does not look at those kept before
  module _ (t : B → Bool) where
    kept_next : (b : Bool) (before : List B) (x : A) (xs : List A)
        → ((l : List B) → map f (filter (λ y. t (f y)) xs) ≡ kept_by (λ k. t) l (map f xs))
        → b ≡ t (f x) → map f (filter (λ y. t (f y)) (x ∷ xs)) ≡ kept_by (λ k. t) before (map f (x ∷ xs))
    unfolding kept_by
    kept_next true before x xs h e = rw (← e, h (before ++ (f x ∷ [])))
    kept_next false before x xs h e = rw (← e, h before)

    pub kept_by_map : (before : List B) (xs : List A) → map f (filter (λ x. t (f x)) xs) ≡ kept_by (λ k. t) before (map f xs)
    unfolding kept_by
    kept_by_map before [] = refl
    kept_by_map before (x ∷ xs) = kept_next (t (f x)) before x xs (λ l. kept_by_map l xs) refl

-- ---- those that pass a test, to the front

-- of the members gone through, those that pass stand in the first n places, and those not gone through are where they were
pub record Kept {A : Type 0} (t : A → Bool) (old now : List A) (n i : ℕ) : Type 0 where
  pub front : n ≤ i
  pub long : length now ≡ length old
  pub rest : drop i now ≡ drop i old
  pub kept : take n now ≡ filter t (take i old)

module _ {A : Type 0} {t : A → Bool} {old now : List A} {n i : ℕ} (h : Kept t old now n i) (more : i < length old) (d : A) where
  -- the next one is where it was
  next_same : get_or now i d ≡ get_or old i d
  next_same =
      let a = drop_more now i d (omega (arith, h.long)) in
      let b = drop_more old i d more in
      ap (λ (l : List A). get_or l 0 d) (sym a ∙ h.rest ∙ b)

  rest_same : drop (i + 1) now ≡ drop (i + 1) old
  rest_same =
      let a = drop_more now i d (omega (arith, h.long)) in
      let b = drop_more old i d more in
      ap (λ (l : List A). drop 1 l) (sym a ∙ h.rest ∙ b)

  one_told : (y : A) {b : Bool} → t y ≡ b → filter t (y ∷ []) ≡ cond b (y ∷ []) []
  one_told y e = rw e refl

  passed : {b : Bool} → t (get_or now i d) ≡ b → filter t (take (i + 1) old) ≡ take n now ++ cond b (get_or now i d ∷ []) []
  passed e =
      let last = ap (λ (y : A). filter t (y ∷ [])) (sym next_same) ∙ one_told (get_or now i d) e in
      ap (filter t) (take_more old i d more)
      ∙ filter-append t (take i old) (get_or old i d ∷ [])
      ∙ ap₂ (λ (l r : List A). l ++ r) (sym h.kept) last

  pub kept_one : t (get_or now i d) ≡ true → Kept t old (set now n (get_or now i d)) (n + 1) (i + 1)
  kept_one e =
      record {
        front = omega (arith, h.front);
        long = length-set now n (get_or now i d) ∙ h.long;
        rest = drop-set-lt (i + 1) now n (get_or now i d) (omega (arith, h.front)) ∙ rest_same;
        kept = take_more_set now n (get_or now i d) (omega (arith, h.front, h.long)) ∙ sym (passed e);
      }

  pub kept_none : t (get_or now i d) ≡ false → Kept t old now n (i + 1)
  kept_none e =
      record {
        front = omega (arith, h.front);
        long = h.long;
        rest = rest_same;
        kept = sym (append-nil (take n now)) ∙ sym (passed e);
      }
