-- Taking a bound into the table is taking it into the groups that the table holds, and a constraint.
use Rattle.std.proofs.Common.{◌≡◌, ◌≢◌, refl, sym, ap, ◌∙◌, ℕ, zero, suc, ◌+◌, ◌-◌, ◌*◌, ◌/◌, ◌^◌, ◌≤◌, ◌<◌, Bool, true, false, not, cond}
use Rattle.std.proofs.Common.{◌&&◌, Option, Some, None, IfSome, List, [], ◌∷◌, ◌++◌, map, arith, eqb, ltb}
use Rattle.std.proofs.Common.{length, get_or, set, replicate, append-nil, append_assoc, length-set, get_or-set_same, get_or-set_other}
use Rattle.std.proofs.lemmas.List.{map-append, get_or_default, get_or_past}
use mathlib.Core.Bool.{and-true, and-false, true≢false}
use native.Mathlib.Decide.{dec_lt, ℕ_discrete}
use native.Mathlib.Nat.{le_refl, zero-div, zero-mul, mul-zero}
use borrow.Author.Tests.{ltb-true, lt-ltb, le-ltb, eq-eqb, ne_eqb}
use Rattle.meaning.specs.Lists.{Each, each_cons, all_of, same}
use Rattle.meaning.specs.Number.{kappa}
use Rattle.meaning.specs.Row.{Row, IsRow, coefficient, row_has}
use Rattle.meaning.specs.Sheet.{Constraint, IsOther}
use Rattle.meaning.specs.Layers.{Bound, bound_of as bound_with, Group, fresh, tightened, delta, Groups, grouped_by, grouped}
use Rattle.meaning.specs.Layers.{with_bound_by, with_bound, gathered, ways, lost, spare}
use Rattle.meaning.proofs.Tests.{both_true, clash}
use Rattle.meaning.proofs.Groups.{delta_falls}
use Rattle.meaning.proofs.Kappa.{zero_of_kappa}
use Rattle.layers.specs.declared.layer2.Bound.{Bound as HeldBound}
use Rattle.layers.specs.declared.layer2.Group.{Group as HeldGroup}
use Rattle.layers.specs.Groups.{bound_of, group_at, slot, groups_below, groups_of, IsGroup, IsTable, opened, positive, sound}
use Rattle.sheet.specs.declared.constraint.Constraint.{Constraint as HeldConstraint}
use Rattle.sheet.specs.Work.{constraint_of, constraints_of}

-- ---- the table with no group

get_or_same : {A : Type 0} (n k : ℕ) (d : A) → get_or (replicate n d) k d ≡ d
get_or_same zero k d = refl
get_or_same (suc n) zero d = refl
get_or_same (suc n) (suc k) d = get_or_same n k d

none_below : (n : ℕ) → groups_below (replicate 32 None) n ≡ []
unfolding groups_below
none_below zero = refl
none_below (suc n) = rw (get_or_same {A = Option HeldGroup} 32 n None) (none_below n)

none_table : (p : ℕ) → IsTable p (replicate 32 None)
none_table p =
    record {
      long = refl;
      below = λ k l. get_or_same 32 k None;
      groups = λ k. rw (get_or_same {A = Option HeldGroup} 32 k None) tt;
    }

-- ---- a δ of 0, of which no surplus comes

no_ways : (p k : ℕ) (gs : List Group) → all_of positive gs ≡ false → ways p k gs ≡ 0
unfolding ways
no_ways p k [] e = absurd (true≢false e)
no_ways p k (g ∷ gs) e = go (delta g) e (no_ways p g.power gs)
  where
    go : (d : ℕ) → (ltb 0 d && all_of positive gs) ≡ false → (all_of positive gs ≡ false → ways p g.power gs ≡ 0)
        → d / 2 ^ (p - k + g.power) * ways p g.power gs ≡ 0
    go zero e ih = rw (zero-div (2 ^ (p - k + g.power))) (zero-mul _)
    go (suc d) e ih = rw (ih (rw (lt-ltb 0 (suc d) (omega arith)) at e)) (mul-zero _)

pub unsound_spare : (p x k : ℕ) (cs : List Constraint) → sound (gathered p x cs) ≡ false → spare p x k cs ≡ false
unfolding sound spare
unsound_spare p x k cs e = go (gathered p x cs).apart e
  where
    go : (b : Bool) → (b && all_of positive (gathered p x cs).row) ≡ false
        → (b && ltb (lost p x cs) (ways p k (gathered p x cs).row)) ≡ false
    go true e = rw (no_ways p k (gathered p x cs).row e) (le-ltb (lost p x cs) 0 (omega arith))
    go false e = refl

-- a table has none
all_positive : {p : ℕ} {table : List (Option HeldGroup)} → IsTable p table → (n : ℕ) → all_of positive (groups_below table n) ≡ true
unfolding groups_below
all_positive o zero = refl
all_positive {p} {table} o (suc n) = go (get_or table n None) (o.groups n) (all_positive o n)
  where
    go : (g : Option HeldGroup) → IfSome g (IsGroup p) → all_of positive (groups_below table n) ≡ true
        → all_of positive (slot n g (groups_below table n)) ≡ true
    go None h ih = ih
    go (Some g) h ih = rw (lt-ltb 0 (g.past - g.low) (omega (arith, h.between))) ih

pub sound_table : {p : ℕ} {table : List (Option HeldGroup)} → IsTable p table → sound (groups_of table) ≡ true
unfolding sound
sound_table o = all_positive o 32

-- or one at k
shut : (table : List (Option HeldGroup)) (k : ℕ) (g : HeldGroup) → get_or table k None ≡ Some g → g.past ≤ g.low → (n : ℕ) → k < n
    → all_of positive (groups_below table n) ≡ false
unfolding groups_below
shut table k g e l zero b = absurd (let z : ⊥ = omega arith in z)
shut table k g e l (suc m) b = go (ℕ_discrete k m) (shut table k g e l m)
  where
    other : (o : Option HeldGroup) → all_of positive (groups_below table m) ≡ false
        → all_of positive (slot m o (groups_below table m)) ≡ false
    other None ih = ih
    other (Some h) ih = rw (ih, and-false (ltb 0 (h.past - h.low)))

    go : Dec (k ≡ m) → (k < m → all_of positive (groups_below table m) ≡ false)
        → all_of positive (slot m (get_or table m None) (groups_below table m)) ≡ false
    go (yes h) rec = rw (← h, e, le-ltb 0 (g.past - g.low) (omega arith))
    go (no h) rec = other (get_or table m None) (rec (omega arith))

-- ---- a bound taken in

module _ (p k : ℕ) (b : Bound) (table : List (Option HeldGroup)) where
  -- before groups of lesser powers
  first : (n : ℕ) → n ≤ k
      → grouped p k b (groups_below table n) ≡ record { row = tightened p b (fresh p k b.term) ∷ groups_below table n; apart = true }
  unfolding grouped grouped_by groups_below
  first zero l = refl
  first (suc m) l = go (get_or table m None) (first m (omega arith))
    where
      go : (o : Option HeldGroup)
          → grouped p k b (groups_below table m) ≡ record { row = tightened p b (fresh p k b.term) ∷ groups_below table m; apart = true }
          → grouped p k b (slot m o (groups_below table m))
          ≡ record { row = tightened p b (fresh p k b.term) ∷ slot m o (groups_below table m); apart = true }
      go None ih = ih
      go (Some g) ih = rw (ne_eqb k m (λ e. omega arith), lt-ltb m k (omega arith))

  -- behind groups of greater powers
  behind : (m : ℕ) (o : Option HeldGroup) → k < m → (h : Groups) → grouped p k b (groups_below table m) ≡ h
      → grouped p k b (slot m o (groups_below table m)) ≡ record { row = slot m o h.row; apart = h.apart }
  unfolding grouped grouped_by
  behind m None l h e = e
  behind m (Some g) l h e = rw (ne_eqb k m (λ z. omega arith), le-ltb m k (omega arith), e)

  -- before k, the table with h at k is as it was
  lesser : (h : HeldGroup) (n : ℕ) → n ≤ k → groups_below (set table k (Some h)) n ≡ groups_below table n
  unfolding groups_below
  lesser h zero l = refl
  lesser h (suc m) l = rw (lesser h m (omega arith), get_or-set_other table k m (Some h) None (λ e. omega arith))

  -- the row is that of the table with h at k, as soon as it is so up to k
  put_at : (h : HeldGroup) (c : Bool) → k < length table
      → grouped p k b (slot k (get_or table k None) (groups_below table k)) ≡ record { row = group_at k h ∷ groups_below table k; apart = c }
      → (n : ℕ) → k < n → grouped p k b (groups_below table n) ≡ record { row = groups_below (set table k (Some h)) n; apart = c }
  unfolding groups_below
  put_at h c i e zero l = absurd (let z : ⊥ = omega arith in z)
  put_at h c i e (suc m) l = go (dec_lt k m) (put_at h c i e m)
    where
      go : Dec (k < m) → (k < m → grouped p k b (groups_below table m) ≡ record { row = groups_below (set table k (Some h)) m; apart = c })
          → grouped p k b (slot m (get_or table m None) (groups_below table m))
          ≡ record { row = slot m (get_or (set table k (Some h)) m None) (groups_below (set table k (Some h)) m); apart = c }
      go (yes j) rec = rw (get_or-set_other table k m (Some h) None (λ z. omega arith)) (behind m (get_or table m None) j _ (rec j))
      go (no j) rec =
          let z : m ≡ k = omega arith in
          rw (z, lesser h k (le_refl k), get_or-set_same table k (Some h) None i) e

  -- its group is there, and the table has a place for it then
  inside : (g : HeldGroup) → get_or table k None ≡ Some g → k < length table
  inside g e = go (dec_lt k (length table))
    where
      go : Dec (k < length table) → k < length table
      go (yes i) = i
      go (no i) = let z : None ≡ Some g = sym (get_or_past table k None (omega arith)) ∙ e in absurd cc

  pub grouped_here : (g h : HeldGroup) → get_or table k None ≡ Some g → group_at k h ≡ tightened p b (group_at k g) → (n : ℕ) → k < n
      → grouped p k b (groups_below table n) ≡ record { row = groups_below (set table k (Some h)) n; apart = same b.term h.term.now.w }
  unfolding grouped grouped_by tightened
  grouped_here g h e t n l =
      put_at h (same b.term h.term.now.w) (inside g e)
      (rw (e, eq-eqb k k refl) (ap (λ (u : Group). record { row = u ∷ groups_below table k; apart = same b.term u.term }) (sym t)))
      n l

  -- with another term
  apart : (h : HeldGroup) → get_or table k None ≡ Some h → same b.term h.term.now.w ≡ false → (n : ℕ) → k < n
      → (grouped p k b (groups_below table n)).apart ≡ false
  unfolding tightened
  apart h e f n l =
      let t : Group = tightened p b (group_at k h) in
      ap (λ (g : Groups). g.apart) (grouped_here h (record { term = h.term; low = t.low; past = t.past }) e refl n l) ∙ f

  -- its group is not there
  pub grouped_new : (h : HeldGroup) → get_or table k None ≡ None → k < length table → group_at k h ≡ tightened p b (fresh p k b.term)
      → (n : ℕ) → k < n → grouped p k b (groups_below table n) ≡ record { row = groups_below (set table k (Some h)) n; apart = true }
  grouped_new h e i t n l = put_at h true i (rw e (first k (le_refl k) ∙ rw t)) n l

-- groups that are apart are those of a table, if their row is
pub apart_is : {g : Groups} (table : List (Option HeldGroup)) → groups_below table 32 ≡ g.row → g.apart ≡ true → g ≡ groups_of table
apart_is table r a = rw (r, ← a)

pub taken_apart : {p k : ℕ} {table : List (Option HeldGroup)} (b : HeldBound) (d : Option HeldGroup) → IsTable p table → k < p → p ≤ 32
    → opened p b (get_or table k d) ≡ None → sound (grouped p k (bound_of b) (groups_below table 32)) ≡ false
unfolding sound
taken_apart {p} {k} {table} b d o kp wide e =
    let l : k < length table = omega (arith, o.long) in
    let f = go (get_or table k None) refl (rw (get_or_default table k d None l) at e) in
    rw f
  where
    go : (old : Option HeldGroup) → get_or table k None ≡ old → opened p b old ≡ None
        → (grouped p k (bound_of b) (groups_below table 32)).apart ≡ false
    go None e f = absurd cc
    go (Some h) e f = test (same b.term.now.w h.term.now.w) refl f
      where
        test : (s : Bool) → same b.term.now.w h.term.now.w ≡ s → cond s (Some h) None ≡ None
            → (grouped p k (bound_of b) (groups_below table 32)).apart ≡ false
        test true i f = absurd cc
        test false i f = apart p k (bound_of b) table h e i 32 (omega arith)

-- `before` is the group that the bound goes into, and g what it is then
module _ {p k : ℕ} {table : List (Option HeldGroup)} (b : HeldBound) (before g : HeldGroup) (d : Option HeldGroup) (o : IsTable p table)
    (kp : k < p) (wide : p ≤ 32) (eo : opened p b (get_or table k d) ≡ Some before)
    (eg : (j : ℕ) → group_at j g ≡ tightened p (bound_of b) (group_at j before))
  where
    abbrev table' : List (Option HeldGroup)
    table' = set table k (Some g)

    term_at_lem : get_or table' k None ≡ Some g
    term_at_lem = get_or-set_same table k (Some g) None (omega (arith, o.long))

    -- the other places are as they were
    elsewhere : (j : ℕ) → j ≢ k → get_or table' j None ≡ get_or table j None
    elsewhere j n = get_or-set_other table k j (Some g) None n

    here : (old : Option HeldGroup) → opened p b old ≡ Some before
        → grouped p k (bound_of b) (slot k old (groups_below table k)) ≡ record { row = group_at k g ∷ groups_below table k; apart = true }
    unfolding grouped grouped_by
    here None e =
        let z : before ≡ record { term = b.term; low = 0; past = 2 ^ p } = cc in
        first p k (bound_of b) table k (le_refl k) ∙ rw (eg k, z)
    here (Some h) e = test (same b.term.now.w h.term.now.w) refl e
      where
        test : (s : Bool) → same b.term.now.w h.term.now.w ≡ s → cond s (Some h) None ≡ Some before
            → grouped p k (bound_of b) (group_at k h ∷ groups_below table k) ≡ record { row = group_at k g ∷ groups_below table k; apart = true }
        test true i e = let z : h ≡ before = cc in rw (eq-eqb k k refl, i, eg k, z)
        test false i e = absurd cc

    -- the row is then that of the table after it
    put_below : (n : ℕ) → k < n
        → grouped p k (bound_of b) (groups_below table n) ≡ record { row = groups_below table' n; apart = true }
    put_below n l =
        let i : k < length table = omega (arith, o.long) in
        put_at p k (bound_of b) table g true i (here (get_or table k None) (rw (get_or_default table k d None i) at eo)) n l

    pub taken_shut : g.past - g.low ≡ 0 → sound (grouped p k (bound_of b) (groups_below table 32)) ≡ false
    unfolding sound
    taken_shut e = rw (put_below 32 (omega arith), shut table' k g term_at_lem (omega arith) 32 (omega arith))

    pub taken_put : grouped p k (bound_of b) (groups_below table 32) ≡ groups_of table'
    taken_put = put_below 32 (omega arith)

    pub taken_table : IsGroup p g → IsTable p table'
    taken_table h =
        record {
          long = length-set table k (Some g) ∙ o.long;
          below = λ j l. elsewhere j (λ e. omega arith) ∙ o.below j l;
          groups = λ j. by j (ℕ_discrete j k);
        }
      where
        by : (j : ℕ) → Dec (j ≡ k) → IfSome (get_or table' j None) (IsGroup p)
        by j (yes e) = rw (e, term_at_lem) h
        by j (no n) = rw (elsewhere j n) (o.groups j)

-- κ of a coefficient is below the width
pub kappa_lt : {p k : ℕ} {r : Row} (x : ℕ) → IsRow p r → k ≡ kappa p (coefficient r x) → coefficient r x ≢ 0 → k < p
kappa_lt {p} {k} {r} x h ek ne = go (dec_lt k p)
  where
    go : Dec (k < p) → k < p
    go (yes l) = l
    go (no l) = absurd (ne (zero_of_kappa p (h.small x) (omega arith)))

-- ---- a constraint taken in

module _ (p x : ℕ) (c : Constraint) where
  pub with_kind : (g : Groups) → c.kind ≤ 1 → with_bound p x c g ≡ g
  unfolding with_bound_by
  with_kind g l = rw (le-ltb 1 c.kind l)

  pub with_none : (g : Groups) → coefficient c.left x ≡ 0 → coefficient c.right x ≡ 0 → with_bound p x c g ≡ g
  unfolding with_bound_by
  with_none g e f = rw (e, f, and-false (ltb 1 c.kind))

  pub with_both : (g : Groups) → 1 < c.kind → coefficient c.left x ≢ 0 → coefficient c.right x ≢ 0 → (with_bound p x c g).apart ≡ false
  unfolding with_bound_by
  with_both g l e f =
      let h : eqb (coefficient c.left x) 0 ≡ false = ne_eqb (coefficient c.left x) 0 e in
      rw (lt-ltb 1 c.kind l, h, h, ne_eqb (coefficient c.right x) 0 f)

  pub with_both_unsound : (g : Groups) → 1 < c.kind → coefficient c.left x ≢ 0 → coefficient c.right x ≢ 0
      → sound (with_bound p x c g) ≡ false
  unfolding sound
  with_both_unsound g l e f = rw (with_both g l e f)

  -- on one side, it is a bound
  pub with_left : (gs : List Group) → 1 < c.kind → coefficient c.left x ≢ 0 → coefficient c.right x ≡ 0
      → with_bound p x c (record { row = gs; apart = true })
      ≡ grouped p (kappa p (coefficient c.left x)) (record { term = c.left; other = c.right; above = true; strict = ltb 2 c.kind }) gs
  unfolding with_bound_by
  with_left gs l e f =
      let h : eqb (coefficient c.left x) 0 ≡ false = ne_eqb (coefficient c.left x) 0 e in
      rw (lt-ltb 1 c.kind l, h, h, f, and-true)

  pub with_right : (gs : List Group) → 1 < c.kind → coefficient c.left x ≡ 0 → coefficient c.right x ≢ 0
      → with_bound p x c (record { row = gs; apart = true })
      ≡ grouped p (kappa p (coefficient c.right x)) (record { term = c.right; other = c.left; above = false; strict = ltb 2 c.kind }) gs
  unfolding with_bound_by
  with_right gs l e f =
      let h : eqb (coefficient c.right x) 0 ≡ false = ne_eqb (coefficient c.right x) 0 f in
      rw (lt-ltb 1 c.kind l, e, h, e, and-true)

-- ---- what is taken in later does not mend it

-- a fault of the groups that each constraint keeps, all keep
gathered_keeps : (p x : ℕ) (P : Groups → Type 0) → ((c : Constraint) (g : Groups) → P g → P (with_bound p x c g))
    → (bs cs : List Constraint) → P (gathered p x cs) → P (gathered p x (bs ++ cs))
unfolding gathered
gathered_keeps p x P step [] cs h = h
gathered_keeps p x P step (b ∷ bs) cs h = step b _ (gathered_keeps p x P step bs cs h)

-- that they are not apart
unapart : (p x : ℕ) (c : Constraint) (b : Bool) (g : Groups) → g.apart ≡ false → (with_bound_by b p x c g).apart ≡ false
unfolding with_bound_by
unapart p x c true g e = rw (e, and-false, and-false)
unapart p x c false g e = e

pub gathered_unapart : (p x : ℕ) (bs cs : List Constraint) → (gathered p x cs).apart ≡ false → (gathered p x (bs ++ cs)).apart ≡ false
gathered_unapart p x = gathered_keeps p x (λ g. g.apart ≡ false) (λ c g. unapart p x c _ g)

-- that no surplus comes of them
put_positive : (p k : ℕ) (b : Bound) (gs : List Group) → all_of positive (grouped p k b gs).row ≡ true → all_of positive gs ≡ true
unfolding grouped grouped_by
put_positive p k b [] h = refl
put_positive p k b (g ∷ gs) h = go (eqb k g.power) (ltb g.power k) h (put_positive p k b gs)
  where
    go : (here later : Bool) → all_of positive (grouped_by here later p k b g gs (grouped p k b gs)).row ≡ true
        → (all_of positive (grouped p k b gs).row ≡ true → all_of positive gs ≡ true)
        → all_of positive (g ∷ gs) ≡ true
    go true later h ih =
        let e = both_true (positive (tightened p b g)) (all_of positive gs) h in
        rw (lt-ltb 0 (delta g) (omega (arith, ltb-true 0 (delta (tightened p b g)) e.0, delta_falls p b g))) e.1
    go false true h ih = (both_true (positive (tightened p b (fresh p k b.term))) _ h).1
    go false false h ih =
        let e = both_true (positive g) (all_of positive (grouped p k b gs).row) h in
        rw e.0 (ih e.1)

sound_before : (b : Bool) (p x : ℕ) (c : Constraint) (g : Groups) → sound (with_bound_by b p x c g) ≡ true → sound g ≡ true
unfolding with_bound_by sound
sound_before true p x c g h =
    let k : ℕ = kappa p (coefficient (bound_with x c).term x) in
    let e = both_true (with_bound_by true p x c g).apart _ h in
    let f = both_true (not (row_has x c.left && row_has x c.right)) _ e.0 in
    rw (both_true (grouped p k (bound_with x c) g.row).apart _ f.1).1 (put_positive p k (bound_with x c) g.row e.1)
sound_before false p x c g h = h

unsound_after : (p x : ℕ) (c : Constraint) (g : Groups) → sound g ≡ false → sound (with_bound p x c g) ≡ false
unsound_after p x c g e = go (sound (with_bound p x c g)) refl
  where
    go : (b : Bool) → sound (with_bound p x c g) ≡ b → b ≡ false
    go true h = clash (sound_before _ p x c g h) e
    go false h = refl

gathered_unsound : (p x : ℕ) (bs cs : List Constraint) → sound (gathered p x cs) ≡ false → sound (gathered p x (bs ++ cs)) ≡ false
gathered_unsound p x = gathered_keeps p x (λ g. sound g ≡ false) (unsound_after p x)

-- ---- all constraints, from the last to the first

-- where the loop is: those in `rest` are left, and the table holds the groups of the constraints behind
pub record Behind (p x : ℕ) (others rest : List HeldConstraint) (table : List (Option HeldGroup)) : Type 0 where
  pub behind : List HeldConstraint
  pub split : others ≡ rest ++ behind
  pub held : gathered p x (constraints_of behind) ≡ groups_of table
  pub is : IsTable p table

pub behind_none : (p x : ℕ) (others : List HeldConstraint) → Behind p x others others (replicate 32 None)
unfolding gathered
behind_none p x others =
    record { behind = []; split = sym (append-nil others); held = rw (none_below 32); is = none_table p }

each_mid : {A B : Type 0} {P : B → Type 0} (f : A → B) (xs : List A) (y : A) (ys : List A) → Each P (map f (xs ++ (y ∷ ys))) → P (f y)
each_mid f [] y ys (each_cons h hs) = h
each_mid f (x ∷ xs) y ys (each_cons h hs) = each_mid f xs y ys hs

module _ {p x : ℕ} {others rest : List HeldConstraint} (before : List HeldConstraint) (c : HeldConstraint) {table : List (Option HeldGroup)}
    (b : Behind p x others rest table) (e : rest ≡ before ++ (c ∷ []))
  where
    split_at : others ≡ before ++ (c ∷ b.behind)
    split_at = b.split ∙ (rw e (append_assoc before (c ∷ []) b.behind))

    pub behind_other : Each (IsOther p) (constraints_of others) → IsOther p (constraint_of c)
    behind_other h = each_mid constraint_of before c b.behind (rw split_at at h)

    one_more : gathered p x (constraints_of (c ∷ b.behind)) ≡ with_bound p x (constraint_of c) (groups_of table)
    unfolding gathered
    one_more = ap (with_bound p x (constraint_of c)) b.held

    pub behind_next : {table' : List (Option HeldGroup)} → with_bound p x (constraint_of c) (groups_of table) ≡ groups_of table' → IsTable p table'
        → Behind p x others before table'
    behind_next t h = record { behind = c ∷ b.behind; split = split_at; held = one_more ∙ t; is = h }

    parts : constraints_of others ≡ constraints_of before ++ constraints_of (c ∷ b.behind)
    parts = ap constraints_of split_at ∙ map-append constraint_of before (c ∷ b.behind)

    pub behind_shut : false ≡ (with_bound p x (constraint_of c) (groups_of table)).apart → (gathered p x (constraints_of others)).apart ≡ false
    behind_shut a =
        rw parts (gathered_unapart p x (constraints_of before) (constraints_of (c ∷ b.behind)) (rw one_more (sym a)))

    pub behind_unsound : false ≡ sound (with_bound p x (constraint_of c) (groups_of table))
        → sound (gathered p x (constraints_of others)) ≡ false
    behind_unsound a =
        rw parts (gathered_unsound p x (constraints_of before) (constraints_of (c ∷ b.behind)) (rw one_more (sym a)))

pub behind_all : {p x : ℕ} {others rest : List HeldConstraint} {table : List (Option HeldGroup)} (b : Behind p x others rest table)
    → length rest ≡ 0 → others ≡ b.behind
behind_all {rest = []} b l = b.split
behind_all {rest = c ∷ cs} b l = absurd (let z : ⊥ = omega arith in z)
