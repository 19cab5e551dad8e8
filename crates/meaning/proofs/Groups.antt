-- The groups of Layer2 as they are gathered: their powers fall, and who lies in all of them meets every inequality with x.
use mathlib.Core.Path.{◌≡◌, refl, sym, ◌∙◌}
use mathlib.Core.Bool.{Bool, true, false, not, cond, ◌&&◌, ◌||◌, true≢false, and-eq-true_iff}
use mathlib.Core.Logic.{◌≢◌}
use mathlib.Core.List.{List, [], ◌∷◌}
use Prim.Native.Nat.{ℕ, suc, ◌≤◌, ◌<◌}
use native.Mathlib.Nat.{le_refl, le_trans}
use native.Mathlib.Omega.{arith}
use lib.Dec.{eqb, ltb}
use borrow.Author.Tests.{eqb-false, ltb-true, ltb-false, not-true}
use Rattle.meaning.specs.Lists.{Each, each_nil, each_cons}
use Rattle.meaning.specs.Number.{kappa}
use Rattle.meaning.specs.Row.{Row, IsRow, coefficient, value, row_has}
use Rattle.meaning.specs.Sheet.{Constraint, Values, has, IsOther}
use Rattle.meaning.specs.Layers.{inequality_with, Bound, bound_by, bound_of, estimate, Group, fresh, low_after, past_after, tightened, delta, grouped_by, grouped, with_bound_by, gathered}
use Rattle.meaning.proofs.Tests.{same_true}
use Rattle.meaning.proofs.Layer1.{Unreplaced, unreplaced_lacks, unreplaced_below, UnreplacedIn}
use Rattle.meaning.proofs.Estimates.{value_greatest, value_least}
use Rattle.meaning.proofs.Enough.{Fits, Falling, falling_nil, falling_cons, Inside}

-- ---- bounds

abbrev pub Under : Bool → ℕ → ℕ → Type 0
Under true x y = x < y
Under false x y = x ≤ y

-- t is bounded by c, from above or from below
abbrev pub Bounded : Bool → Bool → ℕ → ℕ → Type 0
Bounded true strict t c = Under strict t c
Bounded false strict t c = Under strict c t

-- the values of the term and of the other side compare as the bound says
pub record Meets (p : ℕ) (a : List ℕ) (b : Bound) : Type 0 where
  pub bounded : Bounded b.above b.strict (value p b.term a) (value p b.other a)

-- a bound moves the ends of a group towards each other
low_rises : (above strict : Bool) (c low : ℕ) → low ≤ low_after above strict c low
low_rises true strict c low = le_refl low
low_rises false strict c low = omega arith

pub past_falls : (above strict : Bool) (c past : ℕ) → past_after above strict c past ≤ past
past_falls true strict c past = omega arith
past_falls false strict c past = le_refl past

pub delta_falls : (p : ℕ) (b : Bound) (g : Group) → delta (tightened p b g) ≤ delta g
unfolding tightened
delta_falls p b g =
    let c : ℕ = estimate p b.above b.other in
    omega (arith, low_rises b.above b.strict c g.low, past_falls b.above b.strict c g.past)

-- a value t between the ends after a bound lies between those before it, and meets the bound by c: a lower bound counts by no less
-- than c, and an upper one by no more than c + 1
between : (above strict : Bool) (low past t c least most : ℕ) → least ≤ suc c → c ≤ most
    → low_after above strict (cond above least most) low ≤ t → t < past_after above strict (cond above least most) past
    → (low ≤ t) × (t < past) × Bounded above strict t c
between true true low past t c least most k m l u = omega arith
between true false low past t c least most k m l u = omega arith
between false true low past t c least most k m l u = omega arith
between false false low past t c least most k m l u = omega arith

module _ {p : ℕ} {a : List ℕ} (values : Values p a) where
  tightened_inside : (b : Bound) (g : Group) → IsRow p b.other → b.term ≡ g.term → Inside p a (tightened p b g)
      → Inside p a g × Meets p a b
  unfolding tightened
  tightened_inside b g row e h =
      let r : (g.low ≤ value p g.term a) × (value p g.term a < g.past)
      × Bounded b.above b.strict (value p g.term a) (value p b.other a) =
      between b.above b.strict _ _ _ _ _ _ (value_least row values) (value_greatest row values) h.low h.past in
      (record { low = r.0; past = r.1 }, record { bounded = rw e r.2 })

  grouped_inside : (k : ℕ) (b : Bound) (gs : List Group) → IsRow p b.other → (grouped p k b gs).apart ≡ true
      → Each (Inside p a) (grouped p k b gs).row → Each (Inside p a) gs × Meets p a b
  unfolding grouped grouped_by
  grouped_inside k b [] row t (each_cons h hs) = (each_nil, (tightened_inside b (fresh p k b.term) row refl h).1)
  grouped_inside k b (g ∷ gs) row t h = go (eqb k g.power) (ltb g.power k) t h (grouped_inside k b gs row)
    where
      go : (here later : Bool) → (grouped_by here later p k b g gs (grouped p k b gs)).apart ≡ true
          → Each (Inside p a) (grouped_by here later p k b g gs (grouped p k b gs)).row
          → ((grouped p k b gs).apart ≡ true → Each (Inside p a) (grouped p k b gs).row → Each (Inside p a) gs × Meets p a b)
          → Each (Inside p a) (g ∷ gs) × Meets p a b
      go true later t (each_cons h hs) rec =
          let r : Inside p a g × Meets p a b = tightened_inside b g row (same_true b.term g.term t) h in
          (each_cons r.0 hs, r.1)
      go false true t (each_cons h hs) rec = (hs, (tightened_inside b (fresh p k b.term) row refl h).1)
      go false false t (each_cons h hs) rec = (each_cons h (rec t hs).0, (rec t hs).1)

-- ---- the row

module _ (p x : ℕ) where
  tightened_fits : (b : Bound) (g : Group) {k : ℕ} → Fits p x k g → Fits p x k (tightened p b g)
  unfolding tightened
  tightened_fits b g f =
      record { power = f.power; less = f.less; within = le_trans (past_falls b.above b.strict _ g.past) f.within }

  fresh_fits : (b : Bound) (k : ℕ) {m : ℕ} → k ≡ kappa p (coefficient b.term x) → k < m → Fits p x m (tightened p b (fresh p k b.term))
  fresh_fits b k e l = tightened_fits b (fresh p k b.term) (record { power = e; less = l; within = omega arith })

  grouped_falling : (b : Bound) (k : ℕ) {m : ℕ} {gs : List Group} → k ≡ kappa p (coefficient b.term x) → k < m
      → Falling p x m gs → Falling p x m (grouped p k b gs).row
  unfolding grouped grouped_by tightened
  grouped_falling b k e l falling_nil = falling_cons (fresh_fits b k e l) falling_nil
  grouped_falling b k e l (falling_cons {k = m} {g = g} {gs = gs} f fs) =
      go (eqb k g.power) refl (ltb g.power k) refl (λ h. grouped_falling b k e h fs)
    where
      go : (here : Bool) → eqb k g.power ≡ here → (later : Bool) → ltb g.power k ≡ later
          → (k < g.power → Falling p x g.power (grouped p k b gs).row)
          → Falling p x m (grouped_by here later p k b g gs (grouped p k b gs)).row
      go true t later u rec = falling_cons (tightened_fits b g f) fs
      go false t true u rec =
          falling_cons (fresh_fits b k e l) (falling_cons (record { power = f.power; less = ltb-true _ _ u; within = f.within }) fs)
      go false t false u rec = falling_cons f (rec (let n : k ≢ g.power = eqb-false _ _ t in omega (arith, ltb-false g.power k u)))

has_short : {p x k : ℕ} {r : Row} → row_has x r ≡ true → Unreplaced p x k r → kappa p (coefficient r x) < k
has_short h (unreplaced_lacks e) = absurd (eqb-false _ _ (not-true _ h) e)
has_short h (unreplaced_below l) = l

bound_short : {p x k : ℕ} (c : Constraint) → has x c ≡ true → UnreplacedIn p x k c → kappa p (coefficient (bound_of x c).term x) < k
bound_short {p} {x} {k} c h u = go (row_has x c.left) refl h
  where
    go : (b : Bool) → row_has x c.left ≡ b → (b || row_has x c.right) ≡ true → kappa p (coefficient (bound_by b c).term x) < k
    go true e h = has_short e u.left
    go false e h = has_short h u.right

pub gathered_falling : (p x k : ℕ) {cs : List Constraint} → Each (UnreplacedIn p x k) cs → Falling p x k (gathered p x cs).row
unfolding gathered with_bound_by
gathered_falling p x k each_nil = falling_nil
gathered_falling p x k (each_cons {x = c} {xs = cs} u us) = go (inequality_with x c) refl (gathered_falling p x k us)
  where
    go : (b : Bool) → inequality_with x c ≡ b → Falling p x k (gathered p x cs).row
        → Falling p x k (with_bound_by b p x c (gathered p x cs)).row
    go true t f = grouped_falling p x (bound_of x c) _ refl (bound_short c ((and-eq-true_iff (ltb 1 c.kind) _).0 t).1 u) f
    go false t f = f

-- an inequality with x is met as a bound
pub record Bounds (p x : ℕ) (a : List ℕ) (c : Constraint) : Type 0 where
  pub met : inequality_with x c ≡ true → Meets p a (bound_of x c)

-- its other side is a row
other_row : {p : ℕ} (x : ℕ) (c : Constraint) → IsOther p c → IsRow p (bound_of x c).other
other_row {p} x c o = go (row_has x c.left)
  where
    go : (b : Bool) → IsRow p (bound_by b c).other
    go true = o.right
    go false = o.left

pub gathered_inside : {p : ℕ} (x : ℕ) {a : List ℕ} {cs : List Constraint} → Values p a → Each (IsOther p) cs
    → (gathered p x cs).apart ≡ true → Each (Inside p a) (gathered p x cs).row → Each (Bounds p x a) cs
unfolding gathered with_bound_by
gathered_inside x values each_nil t h = each_nil
gathered_inside {p} x {a} values (each_cons {x = c} {xs = cs} o os) t h =
    go (inequality_with x c) refl t h (gathered_inside x values os)
  where
    go : (b : Bool) → inequality_with x c ≡ b → (with_bound_by b p x c (gathered p x cs)).apart ≡ true
        → Each (Inside p a) (with_bound_by b p x c (gathered p x cs)).row
        → ((gathered p x cs).apart ≡ true → Each (Inside p a) (gathered p x cs).row → Each (Bounds p x a) cs)
        → Each (Bounds p x a) (c ∷ cs)
    go true e t h rec =
        let k : ℕ = kappa p (coefficient (bound_of x c).term x) in
        let s : ((grouped p k (bound_of x c) (gathered p x cs).row).apart ≡ true) × ((gathered p x cs).apart ≡ true) =
        (and-eq-true_iff _ _).0 ((and-eq-true_iff (not (row_has x c.left && row_has x c.right)) _).0 t).1 in
        let r : Each (Inside p a) (gathered p x cs).row × Meets p a (bound_of x c) =
        grouped_inside values k (bound_of x c) _ (other_row x c o) s.0 h in
        each_cons (record { met = λ z. r.1 }) (rec s.1 r.0)
    go false e t h rec = each_cons (record { met = λ z. absurd (true≢false (sym z ∙ e)) }) (rec t h)
