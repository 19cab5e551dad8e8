-- The laws of walks, for any order that names each unhidden position once. One walk as a relation, so that a law is proved by
-- cases of what happened; every walk but the last sets a fate, so the bound on their number never cuts them short; and what the
-- last one tells of the words left.
use mathlib.Core.Path.{◌≡◌, refl, ap, sym, ◌∙◌}
use mathlib.Core.Logic.{◌≢◌, ◌⊎◌, inl, inr, ⊎_elim, ⊎_map}
use mathlib.Core.Bool.{Bool, true, false, true≢false}
use mathlib.Core.List.{List, [], ◌∷◌}
use Prim.Native.Nat.{ℕ, zero, suc, ◌+◌, ◌≤◌, ◌<◌}
use native.Mathlib.Omega.{arith}
use native.Mathlib.Nat.{add-zero, zero-add, le_of_suc-le-suc}
use lib.Dec.{eqb-suc-zero}
use lib.ListN.{length, get_or, set, replicate, length-set, length-replicate}
use lib.Seq.{set-get_or, get_or-set_other}
use Rattle.meaning.specs.Lists.{same, Listed, first, later, Each, each_nil, each_cons, EachPair, pair_nil, pair_cons}
use Rattle.meaning.specs.Sheet.{Sheet, Work, occurs}
use Rattle.meaning.specs.Tidy.{tidy}
use Rattle.meaning.specs.Layers.{try}
use Rattle.meaning.specs.Walk.{Walked, settled, turned, walk, Order, walk_in, unhidden_from, list_order}
use Rattle.meaning.specs.Walk.{State, ended, one_more, all_hidden, walks_from, start, hidden_in}
use Rattle.meaning.specs.Walk.{IsOrder, Walks, over, last, again, Ends}
use Rattle.meaning.proofs.Try.{try_left, try_occurs}
use Rattle.meaning.proofs.Tests.{clash, same_true, same_refl, same_false}
use Rattle.meaning.proofs.Members.{each_to, each_both, each_listed, listed_each}

-- ---- list order is an order

-- each position that it names from k on is that of a fate 0
unhidden_each : (k : ℕ) (fs : List ℕ)
    → Each (λ j. (i : ℕ) × (j ≡ k + i) × (i < length fs) × (get_or fs i 0 ≡ 0)) (unhidden_from k fs)
unfolding unhidden_from
unhidden_each k [] = each_nil
unhidden_each k (zero ∷ fs) =
    each_cons (0, sym (add-zero k), omega arith, refl)
    (each_to (λ j h. (suc h.0, omega (arith, h.1), omega (arith, h.2), h.3)) (unhidden_each (suc k) fs))
unhidden_each k (suc f ∷ fs) = each_to (λ j h. (suc h.0, omega (arith, h.1), omega (arith, h.2), h.3)) (unhidden_each (suc k) fs)

unhidden_once : (k : ℕ) (fs : List ℕ) → EachPair ◌≢◌ (unhidden_from k fs)
unfolding unhidden_from
unhidden_once k [] = pair_nil
unhidden_once k (zero ∷ fs) =
    pair_cons {x = k} (each_to (λ j h e. omega (arith, e, h.1)) (unhidden_each (suc k) fs)) (unhidden_once (suc k) fs)
unhidden_once k (suc f ∷ fs) = unhidden_once (suc k) fs

-- and it names each of them
unhidden_all : (k : ℕ) (fs : List ℕ) (i : ℕ) → i < length fs → get_or fs i 0 ≡ 0 → Listed (k + i) (unhidden_from k fs)
unfolding unhidden_from
unhidden_all k [] i l z = absurd (let n : ⊥ = omega arith in n)
unhidden_all k (zero ∷ fs) zero l z = rw (add-zero k) first
unhidden_all k (suc f ∷ fs) zero l z = absurd (let n : ⊥ = omega arith in n)
unhidden_all k (zero ∷ fs) (suc i) l z =
    let e : k + suc i ≡ suc k + i = omega arith in rw e (later (unhidden_all (suc k) fs i (le_of_suc-le-suc l) z))
unhidden_all k (suc f ∷ fs) (suc i) l z =
    let e : k + suc i ≡ suc k + i = omega arith in rw e (unhidden_all (suc k) fs i (le_of_suc-le-suc l) z)

pub list_order_lem : IsOrder list_order
unfolding list_order
list_order_lem = record {
  names = λ xs s l. record {
    once = unhidden_once 0 s.fates;
    named = λ i. (
      λ h.
          let (j, e, b, z) = each_listed (unhidden_each 0 s.fates) h in
          let q : i ≡ j = e ∙ zero-add j in
          rw q (b, z),
      λ h. rw (zero-add i) at (unhidden_all 0 s.fates i h.0 h.1),
    );
  };
}

-- ---- one walk over the positions js, from s to t

-- a success: the listed word at position i is not hidden, and gets the fate suc f
pub record Success (p : ℕ) (xs : List ℕ) (s : Walked) (i f : ℕ) : Type 0 where
  pub long : length s.fates ≡ length xs
  pub inside : i < length xs
  pub unset : get_or s.fates i 0 ≡ 0
  pub fate : (try p (get_or xs i 0) s.work).fate ≡ suc f

-- what it comes to
abbrev hidden_at : ℕ → List ℕ → Walked → ℕ → ℕ → Walked
hidden_at p xs s i f = record { work = tidy p (try p (get_or xs i 0) s.work).work; fates = set s.fates i (suc f) }

-- P of the sheet and the fates survives each success
abbrev pub Survives : ℕ → List ℕ → (Work → List ℕ → Type 0) → Type 0
Survives p xs P =
    (s : Walked) (i f : ℕ) → Success p xs s i f → P s.work s.fates
    → P (tidy p (try p (get_or xs i 0) s.work).work) (set s.fates i (suc f))

-- each word is left, or hidden
data OneWalk (p : ℕ) (xs : List ℕ) : List ℕ → Walked → Walked → Type 0 where
  none : {s : Walked} → OneWalk p xs [] s s
  left : {i : ℕ} {js : List ℕ} {s t : Walked} → (try p (get_or xs i 0) s.work).fate ≡ 0 → OneWalk p xs js s t → OneWalk p xs (i ∷ js) s t
  hides : {i f : ℕ} {js : List ℕ} {s t : Walked} → Success p xs s i f → OneWalk p xs js (hidden_at p xs s i f) t → OneWalk p xs (i ∷ js) s t

turned_left : (p : ℕ) (xs : List ℕ) (i : ℕ) (s : Walked) → get_or s.fates i 0 ≡ 0 → (try p (get_or xs i 0) s.work).fate ≡ 0
    → turned p xs i s ≡ s
unfolding turned settled
turned_left p xs i s z e =
    let f : set s.fates i 0 ≡ s.fates = rw z at (set-get_or s.fates i 0) in rw (e, settled, try_left p (get_or xs i 0) s.work e, f)

turned_hides : (p : ℕ) (xs : List ℕ) (i f : ℕ) (s : Walked) → (try p (get_or xs i 0) s.work).fate ≡ suc f
    → turned p xs i s ≡ hidden_at p xs s i f
unfolding turned settled
turned_hides p xs i f s e = rw (e, settled)

-- the positions differ, and the word at each is not hidden at the start
one_walk : (p : ℕ) (xs js : List ℕ) (s : Walked) → length s.fates ≡ length xs → EachPair ◌≢◌ js
    → Each (λ i. (i < length s.fates) × (get_or s.fates i 0 ≡ 0)) js → OneWalk p xs js s (walk p xs js s)
unfolding walk
one_walk p xs [] s l pair_nil each_nil = none
one_walk p xs (i ∷ js) s l (pair_cons d ds) (each_cons u us) = go (try p (get_or xs i 0) s.work).fate refl (one_walk p xs js)
  where
    go : (f : ℕ) → (try p (get_or xs i 0) s.work).fate ≡ f
        → ((v : Walked) → length v.fates ≡ length xs → EachPair ◌≢◌ js
        → Each (λ j. (j < length v.fates) × (get_or v.fates j 0 ≡ 0)) js → OneWalk p xs js v (walk p xs js v))
        → OneWalk p xs (i ∷ js) s (walk p xs (i ∷ js) s)
    go zero e r = rw (turned_left p xs i s u.1 e) (left e (r s l ds us))
    go (suc f) e r =
        let n : length (set s.fates i (suc f)) ≡ length s.fates = length-set s.fates i (suc f) in
        let g : Success p xs s i f = record { long = l; inside = rw l at u.0; unset = u.1; fate = e } in
        rw (turned_hides p xs i f s e)
        (hides g
        (r _ (n ∙ l) ds
        (each_both (λ j m h. (omega (arith, n, h.0), get_or-set_other s.fates i j (suc f) 0 (λ q. m (sym q)) ∙ h.1)) d us)))

long_survives : (p : ℕ) (xs : List ℕ) → Survives p xs (λ w fs. length fs ≡ length xs)
long_survives p xs s i f g l = length-set s.fates i (suc f) ∙ l

one_keeps : {p : ℕ} {xs js : List ℕ} {s t : Walked} (P : Work → List ℕ → Type 0) → Survives p xs P → OneWalk p xs js s t
    → P s.work s.fates → P t.work t.fates
one_keeps P step none h = h
one_keeps P step (left e r) h = one_keeps P step r h
one_keeps P step (hides {i = i} {f = f} {s = s} g r) h = one_keeps P step r (step s i f g h)

-- ---- each walk stops or sets a fate at least

zeros : List ℕ → ℕ
zeros [] = 0
zeros (zero ∷ fs) = suc (zeros fs)
zeros (suc f ∷ fs) = zeros fs

zeros_set : (fs : List ℕ) (i f : ℕ) → i < length fs → get_or fs i 0 ≡ 0 → zeros fs ≡ suc (zeros (set fs i (suc f)))
unfolding zeros
zeros_set [] i f l z = absurd (let n : ⊥ = omega arith in n)
zeros_set (zero ∷ fs) zero f l z = refl
zeros_set (suc g ∷ fs) zero f l z = absurd (let n : ⊥ = omega arith in n)
zeros_set (zero ∷ fs) (suc i) f l z = ap suc (zeros_set fs i f (le_of_suc-le-suc l) z)
zeros_set (suc g ∷ fs) (suc i) f l z = zeros_set fs i f (le_of_suc-le-suc l) z

-- a walk that hides none leaves the sheet, and the layers leave each word that it tried
record Stopped (p : ℕ) (xs js : List ℕ) (s t : Walked) : Type 0 where
  same_state : t ≡ s
  left : Each (λ i. (try p (get_or xs i 0) s.work).fate ≡ 0) js

stops_or_sets : {p : ℕ} {xs js : List ℕ} {s t : Walked} → OneWalk p xs js s t
    → Stopped p xs js s t ⊎ (zeros t.fates < zeros s.fates)
stops_or_sets none = inl (record { same_state = refl; left = each_nil })
stops_or_sets (left e r) =
    ⊎_map (λ h. record { same_state = h.same_state; left = each_cons e h.left }) (λ h. h) (stops_or_sets r)
stops_or_sets (hides {i = i} {f = f} {s = s} g r) =
    let z : zeros s.fates ≡ suc (zeros (set s.fates i (suc f))) = zeros_set s.fates i f (omega (arith, g.long, g.inside)) g.unset in
    inr (⊎_elim (λ h. omega (arith, ap (λ (u : Walked). zeros u.fates) h.same_state)) (λ h. omega arith) (stops_or_sets r))

module _ {o : Order} (io : IsOrder o) (p : ℕ) (xs : List ℕ) (s : Walked) (l : length s.fates ≡ length xs) where
  walk_goes : OneWalk p xs (o xs s) s (walk_in o p xs s)
  walk_goes = one_walk p xs (o xs s) s l (io.names xs s l).once (listed_each (o xs s) (λ i. ((io.names xs s l).named i).0))

  walk_length : length (walk_in o p xs s).fates ≡ length xs
  walk_length = one_keeps (λ w fs. length fs ≡ length xs) (long_survives p xs) walk_goes l

  walk_sets : (walk_in o p xs s).fates ≢ s.fates → zeros (walk_in o p xs s).fates < zeros s.fates
  walk_sets n = ⊎_elim (λ h. absurd (n (ap (λ (u : Walked). u.fates) h.same_state))) (λ h. h) (stops_or_sets walk_goes)

  walk_stops : (walk_in o p xs s).fates ≡ s.fates → Stopped p xs (o xs s) s (walk_in o p xs s)
  walk_stops e = ⊎_elim (λ h. h) (λ h. absurd (let n : ⊥ = omega (arith, ap zeros e) in n)) (stops_or_sets walk_goes)

-- ---- the function with a bound makes the walks that are declared

none_left : (fs : List ℕ) → zeros fs ≡ 0 → all_hidden fs ≡ true
unfolding zeros
none_left [] e = refl
none_left (zero ∷ fs) e = absurd (let n : ⊥ = omega arith in n)
none_left (suc f ∷ fs) e = rw (eqb-suc-zero f) (none_left fs e)

-- the three ways that it goes
module _ (o : Order) (t p : ℕ) (xs : List ℕ) (s : Walked) where
  pub from_over : all_hidden s.fates ≡ true → walks_from o t p xs s ≡ ended s
  unfolding walks_from
  from_over e = go t
    where
      go : (k : ℕ) → walks_from o k p xs s ≡ ended s
      go zero = refl
      go (suc k) = rw (e, walks_from)

  pub from_last : all_hidden s.fates ≡ false → same (walk_in o p xs s).fates s.fates ≡ true
      → walks_from o (suc t) p xs s ≡ one_more (ended (walk_in o p xs s))
  unfolding walks_from
  from_last e f = rw (e, f, walks_from)

  pub from_again : all_hidden s.fates ≡ false → same (walk_in o p xs s).fates s.fates ≡ false
      → walks_from o (suc t) p xs s ≡ one_more (walks_from o t p xs (walk_in o p xs s))
  unfolding walks_from
  from_again e f = rw (e, f, walks_from)

-- t is enough where it is the number of words not hidden, or more
walks_made : {o : Order} → IsOrder o → (t p : ℕ) (xs : List ℕ) (s : Walked) → length s.fates ≡ length xs → zeros s.fates ≤ t
    → Walks o p xs s (walks_from o t p xs s)
walks_made {o} io zero p xs s l z =
    let e : all_hidden s.fates ≡ true = none_left s.fates (omega arith) in rw (from_over o 0 p xs s e) (over e)
walks_made {o} io (suc t) p xs s l z = go _ refl _ refl (walks_made io t p xs (walk_in o p xs s))
  where
    go : (b : Bool) → all_hidden s.fates ≡ b → (c : Bool) → same (walk_in o p xs s).fates s.fates ≡ c
        → (length (walk_in o p xs s).fates ≡ length xs → zeros (walk_in o p xs s).fates ≤ t
        → Walks o p xs (walk_in o p xs s) (walks_from o t p xs (walk_in o p xs s)))
        → Walks o p xs s (walks_from o (suc t) p xs s)
    go true e c f r = rw (from_over o (suc t) p xs s e) (over e)
    go false e true f r = rw (from_last o t p xs s e f) (last e (same_true _ _ f))
    go false e false f r =
        let n : (walk_in o p xs s).fates ≢ s.fates = λ q. clash (same_refl s.fates) (rw q at f) in
        rw (from_again o t p xs s e f) (again e n (r (walk_length io p xs s l) (omega (arith, walk_sets io p xs s l n))))

-- and any t from the number of walks on comes to the same
pub walks_from_lem : {o : Order} {p : ℕ} {xs : List ℕ} {s : Walked} {r : State} → Walks o p xs s r → (t : ℕ) → r.walks ≤ t
    → walks_from o t p xs s ≡ r
walks_from_lem {o} {p} {xs} {s} (over e) t l = from_over o t p xs s e
walks_from_lem (last e f) zero l = absurd (let n : ⊥ = omega arith in n)
walks_from_lem {o} {p} {xs} {s} (last e f) (suc t) l = from_last o t p xs s e (rw f (same_refl s.fates))
walks_from_lem (again e n r) zero l = absurd (let n : ⊥ = omega arith in n)
walks_from_lem {o} {p} {xs} {s} (again e n r) (suc t) l =
    from_again o t p xs s e (same_false _ _ n) ∙ ap one_more (walks_from_lem r t (le_of_suc-le-suc l))

-- so the walks from a state come to one end
pub walks_one : {o : Order} {p : ℕ} {xs : List ℕ} {s : Walked} {r q : State} → Walks o p xs s r → Walks o p xs s q → r ≡ q
walks_one {r = r} {q = q} a b =
    sym (walks_from_lem a (r.walks + q.walks) (omega arith)) ∙ walks_from_lem b (r.walks + q.walks) (omega arith)

-- ---- the laws of the walks of an order

-- no fate is 0 where all are hidden
none_zero : (fs : List ℕ) → all_hidden fs ≡ true → (i : ℕ) → i < length fs → ¬ (get_or fs i 0 ≡ 0)
none_zero [] e i l z = omega arith
none_zero (zero ∷ fs) e i l z = true≢false (sym e)
none_zero (suc f ∷ fs) e zero l z = omega arith
none_zero (suc f ∷ fs) e (suc i) l z = none_zero fs (rw (eqb-suc-zero f) at e) i (le_of_suc-le-suc l) z

module _ {o : Order} (io : IsOrder o) {p : ℕ} {xs : List ℕ} where
  -- every walk but the last hides a word
  walks_most : {s : Walked} {r : State} → Walks o p xs s r → length s.fates ≡ length xs → r.walks ≤ zeros s.fates
  walks_most (over e) l = omega arith
  walks_most {s} (last e f) l = go (zeros s.fates) refl
    where
      go : (n : ℕ) → zeros s.fates ≡ n → 1 ≤ n
      go zero z = clash (none_left s.fates z) e
      go (suc n) z = omega arith
  walks_most {s} (again e n r) l = omega (arith, walks_most r (walk_length io p xs s l), walk_sets io p xs s l n)

  -- what holds of the sheet and the fates and survives each success holds in the end
  pub walks_keep : {s : Walked} {r : State} (P : Work → List ℕ → Type 0) → Survives p xs P → Walks o p xs s r
      → length s.fates ≡ length xs → P s.work s.fates → P r.work r.fates
  walks_keep P step (over e) l h = h
  walks_keep {s} P step (last e f) l h = one_keeps P step (walk_goes io p xs s l) h
  walks_keep {s} P step (again e n r) l h =
      walks_keep P step r (walk_length io p xs s l) (one_keeps P step (walk_goes io p xs s l) h)

  module _ {s : Walked} {r : State} (ws : Walks o p xs s r) (l : length s.fates ≡ length xs) where
    -- the fates stay as many as the words
    pub walks_length : length r.fates ≡ length xs
    walks_length = walks_keep (λ w fs. length fs ≡ length xs) (long_survives p xs) ws l l

    -- a fate once set stays
    pub walks_stay : (i f : ℕ) → get_or s.fates i 0 ≡ suc f → get_or r.fates i 0 ≡ suc f
    walks_stay i f = walks_keep (λ w fs. get_or fs i 0 ≡ suc f) kept ws l
      where
        kept : Survives p xs (λ w fs. get_or fs i 0 ≡ suc f)
        kept v j g c h =
            get_or-set_other v.fates j i (suc g) 0
            (λ e. let n : get_or v.fates j 0 ≡ suc f = rw e at h in omega (arith, c.unset))
            ∙ h

  -- a fate 0 in the end: the last walk left the word, or none was made
  pub walks_left : {s : Walked} {r : State} → Walks o p xs s r → length s.fates ≡ length xs
      → (i : ℕ) → i < length xs → get_or r.fates i 0 ≡ 0 → (try p (get_or xs i 0) r.work).fate ≡ 0
  walks_left {s} (over e) l i b z = absurd (none_zero s.fates e i (rw l b) z)
  walks_left {s} (last e f) l i b z =
      let h : Stopped p xs (o xs s) s (walk_in o p xs s) = walk_stops io p xs s l f in
      let k : Listed i (o xs s) = ((io.names xs s l).named i).1 (rw l b, rw f at z) in
      rw h.same_state (each_listed h.left k)
  walks_left {s} (again e n r) l i b z = walks_left r (walk_length io p xs s l) i b z

-- ---- the walks of a list and a sheet

zeros_replicate : (n : ℕ) → zeros (replicate n 0) ≡ n
unfolding zeros
zeros_replicate zero = refl
zeros_replicate (suc n) = ap suc (zeros_replicate n)

start_length : (xs : List ℕ) (s : Sheet) → length (start xs s).fates ≡ length xs
start_length xs s = length-replicate (length xs) 0

-- the length of the list as a bound on the walks cuts none short
pub hidden_ends : {o : Order} → IsOrder o → (xs : List ℕ) (s : Sheet) → Ends o xs s (hidden_in o xs s)
unfolding hidden_in
hidden_ends io xs s = record {
  order = io;
  walks = walks_made io (length xs) s.width xs (start xs s) (start_length xs s) (rw (zeros_replicate (length xs)) (omega arith));
}

module _ {o : Order} {xs : List ℕ} {s : Sheet} {r : State} (h : Ends o xs s r) where
  -- "The walk count of any call is at most the length of the list."
  pub ends_most : r.walks ≤ length xs
  ends_most = rw (zeros_replicate (length xs)) at (walks_most h.order h.walks (start_length xs s))

  -- anything above that length as a bound comes to the same
  pub ends_any : (t : ℕ) → length xs ≤ t → walks_from o t s.width xs (start xs s) ≡ r
  ends_any t l = walks_from_lem h.walks t (omega (arith, ends_most))

  -- "one fate byte per listed word, in list order"
  pub ends_length : length r.fates ≡ length xs
  ends_length = walks_length h.order h.walks (start_length xs s)

  -- a word that has fate 0 in the end is left by the layers in the sheet of the end
  pub ends_left : (i : ℕ) → i < length xs → get_or r.fates i 0 ≡ 0 → (try s.width (get_or xs i 0) r.work).fate ≡ 0
  ends_left = walks_left h.order h.walks (start_length xs s)

  -- so it is in that sheet
  pub ends_occurs : (i : ℕ) → i < length xs → get_or r.fates i 0 ≡ 0 → occurs (get_or xs i 0) r.work ≡ true
  ends_occurs i l e = try_occurs s.width (get_or xs i 0) r.work (ends_left i l e)

  pub ends_keep : (P : Work → List ℕ → Type 0) → Survives s.width xs P
      → P (start xs s).work (start xs s).fates → P r.work r.fates
  ends_keep P step = walks_keep h.order P step h.walks (start_length xs s)

-- "An empty list makes 0 walks."
pub ends_empty : {o : Order} {s : Sheet} {r : State} → Ends o [] s r → r.walks ≡ 0
ends_empty h = omega (arith, ends_most h)
