-- Layer2's rule: where the disequalities lose less than the groups leave ways, some word lies in every group and breaks no
-- disequality. The words in the groups are written out, each once; each lost one gets a number below `lost` of its own; so the
-- pigeonhole finds one that is not lost.
use mathlib.Core.Path.{◌≡◌, refl, ap, sym, ◌∙◌}
use mathlib.Core.Logic.{◌≢◌}
use mathlib.Core.Bool.{Bool, true, false, cond, false≢true}
use mathlib.Core.List.{List, [], ◌∷◌}
use Prim.Native.Nat.{ℕ, zero, suc, ◌+◌, ◌*◌, ◌-◌, ◌^◌, ◌/◌, ◌%◌, ◌≤◌, ◌<◌}
use native.Mathlib.Omega.{arith}
use native.Mathlib.Nat.{mod-lt, mul-le-mul_left, eq_of_mul-eq-mul_left, div-lt_iff_lt-mul, div-add-mod'}
use lib.ListN.{length, set}
use lib.Pow.{pow_pos}
use Rattle.meaning.specs.Lists.{Each, each_nil, each_cons}
use Rattle.meaning.specs.Number.{kappa}
use Rattle.meaning.specs.Row.{Row, coefficient, value}
use Rattle.meaning.specs.Sheet.{Constraint}
use Rattle.meaning.specs.Layers.{disequality_with, Group, delta, ways, lost_to, lost}
use Rattle.meaning.proofs.Congruence.{◌⊢◌≈◌, ≈trans, ≈mod, ≈small, polym}
use Rattle.meaning.proofs.Two.{two_split}
use Rattle.meaning.proofs.Kappa.{kappa_le}
use Rattle.meaning.proofs.Value.{sum_at, value_sum, sum_set}
use Rattle.meaning.proofs.Pigeon.{pigeon}
use Rattle.meaning.proofs.Line.{Slope, back, Spread, spread}

-- ---- what is asked, and what is found

-- a row of groups: the powers fall from k, each the κ of x in the group's term, and no upper bound passes 2 ^ p − 1
pub record Fits (p x k : ℕ) (g : Group) : Type 0 where
  pub power : g.power ≡ kappa p (coefficient g.term x)
  pub less : g.power < k
  pub within : g.past ≤ 2 ^ p

pub data Falling (p x : ℕ) : ℕ → List Group → Type 0 where
  falling_nil : {k : ℕ} → Falling p x k []
  falling_cons : {k : ℕ} {g : Group} {gs : List Group} → Fits p x k g → Falling p x g.power gs → Falling p x k (g ∷ gs)

-- the group's term lies between its ends
pub record Inside (p : ℕ) (a : List ℕ) (g : Group) : Type 0 where
  pub low : g.low ≤ value p g.term a
  pub past : value p g.term a < g.past

-- a disequality with x is not broken
pub record Clear (p x : ℕ) (a : List ℕ) (c : Constraint) : Type 0 where
  pub clear : disequality_with x c ≡ true → value p c.left a ≢ 0

pub record Found (p x k r : ℕ) (a : List ℕ) (gs : List Group) (cs : List Constraint) (v : ℕ) : Type 0 where
  pub small : v < 2 ^ p
  pub near : 2 ^ (p - k) ⊢ v ≈ r
  pub inside : Each (Inside p (set a x v)) gs
  pub clear : Each (Clear p x (set a x v)) cs

-- ---- the words in the groups

-- as many words as there are ways, each in every group and written once
record Many (p x k r : ℕ) (a : List ℕ) (gs : List Group) : Type 0 where
  at : ℕ → ℕ
  small : (n : ℕ) → n < ways p k gs → at n < 2 ^ p
  near : (n : ℕ) → n < ways p k gs → 2 ^ (p - k) ⊢ at n ≈ r
  inside : (n : ℕ) → n < ways p k gs → Each (Inside p (set a x (at n))) gs
  once : (i j : ℕ) → i < ways p k gs → j < ways p k gs → at i ≡ at j → i ≡ j

many_nil : (p x k r : ℕ) (a : List ℕ) → k ≤ p → Many p x k r a []
unfolding ways
many_nil p x k r a wide =
    let m : ℕ = 2 ^ (p - k) in
    let low : r % m < m = mod-lt r (pow_pos (p - k)) in
    record {
      at = λ n. r % m + m * n;
      small = λ n l. omega (arith, two_split wide, mul-le-mul_left m l);
      near = λ n l. ≈trans (polym 0 n (omega arith)) (≈mod r);
      inside = λ n l. each_nil;
      once = λ i j li lj e. eq_of_mul-eq-mul_left m (pow_pos (p - k)) i j (omega arith);
    }

-- n < q b: its digits to the base b
base_pos : (n q b : ℕ) → n < q * b → 0 < b
base_pos n q zero l = absurd (let z : ⊥ = omega arith in z)
base_pos n q (suc b) l = omega arith

high_digit : (n q b : ℕ) → n < q * b → n / b < q
high_digit n q b l = (div-lt_iff_lt-mul (base_pos n q b l)).1 l

low_digit : (n q b : ℕ) → n < q * b → n % b < b
low_digit n q b l = mod-lt n (base_pos n q b l)

-- a term along the word x
abbrev along : List ℕ → ℕ → Row → ℕ → ℕ
along a x r v = sum_at r (set a x v)

along_slope : (a : List ℕ) (x : ℕ) (r : Row) → x < length a → Slope (coefficient r x) (along a x r)
along_slope a x r there = record { rises = λ u v. omega (arith, sum_set r a x u there, sum_set r a x v there) }

-- over the low p − k bits of r, g has its delta's share of spots
module _ (p x k r : ℕ) (a : List ℕ) (g : Group) (within : g.past ≤ 2 ^ p)
    (s : Spread p k g.power r g.low (along a x g.term)) where
  share : ℕ
  share = delta g / 2 ^ (p - k + g.power)

  abbrev Near : ℕ → ℕ → Type 0
  Near j v = 2 ^ (p - g.power) ⊢ v ≈ s.residue j

  spot_past : (j : ℕ) → j < share → s.spot j < g.past
  unfolding share
  spot_past j l = omega (arith, s.low j, s.high j (delta g) l)

  value_spot : (j v : ℕ) → j < share → Near j v → value p g.term (set a x v) ≡ s.spot j
  value_spot j v l h =
      value_sum p g.term (set a x v)
      ∙ ≈small (≈trans (≈mod (along a x g.term v)) (s.lands j v h)) (mod-lt _ (pow_pos p)) (omega (arith, spot_past j l))

  spot_inside : (j v : ℕ) → j < share → Near j v → Inside p (set a x v) g
  spot_inside j v l h = record { low = rw (value_spot j v l h) (s.low j); past = rw (value_spot j v l h) (spot_past j l) }

  spot_once : (i j v : ℕ) → i < share → j < share → Near i v → Near j v → i ≡ j
  spot_once i j v li lj hi hj = s.once i j (sym (value_spot i v li hi) ∙ value_spot j v lj hj)

  many_cons : (gs : List Group) → ((j : ℕ) → Many p x g.power (s.residue j) a gs) → Many p x k r a (g ∷ gs)
  unfolding ways share
  many_cons gs sub =
      record {
        at = at;
        small = λ n l. (sub (n / b)).small (n % b) (low_digit n share b l);
        near = λ n l. s.near (n / b) (at n) (close n l);
        inside =
            λ n l.
            each_cons (spot_inside (n / b) (at n) (high_digit n share b l) (close n l)) ((sub (n / b)).inside (n % b) (low_digit n share b l));
        once = once;
      }
    where
      b : ℕ
      b = ways p g.power gs

      at : ℕ → ℕ
      at n = (sub (n / b)).at (n % b)

      close : (n : ℕ) → n < share * b → Near (n / b) (at n)
      close n l = (sub (n / b)).near (n % b) (low_digit n share b l)

      once : (i j : ℕ) → i < share * b → j < share * b → at i ≡ at j → i ≡ j
      once i j li lj e =
          let near : Near (i / b) (at j) = rw e at (close i li) in
          let high : i / b ≡ j / b = spot_once (i / b) (j / b) (at j) (high_digit i share b li) (high_digit j share b lj) near (close j lj) in
          let same : (sub (j / b)).at (i % b) ≡ at j = ap (λ (d : ℕ). (sub d).at (i % b)) (sym high) ∙ e in
          let low : i % b ≡ j % b = (sub (j / b)).once (i % b) (j % b) (low_digit i share b li) (low_digit j share b lj) same in
          omega (arith, div-add-mod' i b, div-add-mod' j b, ap (λ (d : ℕ). d * b) high)

many : (p x : ℕ) (a : List ℕ) → x < length a → {k : ℕ} {gs : List Group} → Falling p x k gs → (r : ℕ) → k ≤ p → Many p x k r a gs
many p x a there falling_nil r wide = many_nil p x _ r a wide
many p x a there (falling_cons {k = k} {g = g} {gs = gs} f fs) r wide =
    let s : Spread p k g.power r g.low (along a x g.term) =
    rw f.power (spread p k r g.low (along_slope a x g.term there) (omega arith) (omega arith) wide) in
    many_cons p x k r a g f.within s gs (λ j. many p x a there fs (s.residue j) (omega arith))

-- ---- the lost words

-- zero where c is a disequality with x that v breaks
stays : ℕ → ℕ → List ℕ → Constraint → ℕ → ℕ
stays p x a c v = cond (disequality_with x c) (value p c.left (set a x v)) 1

-- the bits of v that the term of c does not see
unseen : ℕ → ℕ → Constraint → ℕ → ℕ
unseen p x c v = v / 2 ^ (p - kappa p (coefficient c.left x))

abbrev code_by : ℕ → ℕ → ℕ → ℕ
code_by zero n m = n
code_by (suc t) n m = m

-- the number of a word: what the first disequality that it breaks does not see of it
code : ℕ → ℕ → List ℕ → List Constraint → ℕ → ℕ
code p x a [] v = 0
code p x a (c ∷ cs) v = code_by (stays p x a c v) (unseen p x c v) (lost_to p x c + code p x a cs v)

module _ (p x : ℕ) (a : List ℕ) where
  broken : (c : Constraint) (v : ℕ) → stays p x a c v ≡ 0 → (disequality_with x c ≡ true) × (value p c.left (set a x v) ≡ 0)
  unfolding stays
  broken c v = go (disequality_with x c)
    where
      go : (b : Bool) {n : ℕ} → cond b n 1 ≡ 0 → (b ≡ true) × (n ≡ 0)
      go true e = (refl, e)
      go false e = absurd (let z : ⊥ = omega arith in z)

  kept : (c : Constraint) (v : ℕ) → stays p x a c v ≢ 0 → Clear p x (set a x v) c
  unfolding stays
  kept c v n = record { clear = go (disequality_with x c) n }
    where
      go : (b : Bool) {n : ℕ} → cond b n 1 ≢ 0 → b ≡ true → n ≢ 0
      go true h t = h
      go false h t = absurd (false≢true t)

  broken_lt : (c : Constraint) (v : ℕ) → v < 2 ^ p → stays p x a c v ≡ 0 → unseen p x c v < lost_to p x c
  unfolding unseen
  broken_lt c v l e =
      let κ : ℕ = kappa p (coefficient c.left x) in
      rw (broken c v e).0 ((div-lt_iff_lt-mul (pow_pos (p - κ))).1 (omega (arith, two_split (kappa_le p (coefficient c.left x)))))

module _ (p x : ℕ) (a : List ℕ) (there : x < length a) where
  broken_once : (c : Constraint) (u v : ℕ) → stays p x a c u ≡ 0 → stays p x a c v ≡ 0 → unseen p x c u ≡ unseen p x c v → u ≡ v
  unfolding unseen
  broken_once c u v eu ev e =
      let m : ℕ = 2 ^ (p - kappa p (coefficient c.left x)) in
      let zeros : value p c.left (set a x u) ≡ value p c.left (set a x v) = (broken p x a c u eu).1 ∙ sym (broken p x a c v ev).1 in
      let sums : 2 ^ p ⊢ along a x c.left u ≈ along a x c.left v =
      record { eq = sym (value_sum p c.left _) ∙ zeros ∙ value_sum p c.left _ } in
      let low : m ⊢ u ≈ v = back p (along_slope a x c.left there) sums in
      omega (arith, low.eq, div-add-mod' u m, div-add-mod' v m, ap (λ (n : ℕ). n * m) e)

  code_once : (cs : List Constraint) (u v : ℕ) → u < 2 ^ p → v < 2 ^ p
      → code p x a cs u < lost p x cs → code p x a cs u ≡ code p x a cs v → u ≡ v
  unfolding code lost
  code_once [] u v lu lv l e = absurd (let z : ⊥ = omega arith in z)
  code_once (c ∷ cs) u v lu lv l e = go (stays p x a c u) refl (stays p x a c v) refl l e (code_once cs u v lu lv)
    where
      go : (s : ℕ) → stays p x a c u ≡ s → (t : ℕ) → stays p x a c v ≡ t
          → code_by s (unseen p x c u) (lost_to p x c + code p x a cs u) < lost_to p x c + lost p x cs
          → code_by s (unseen p x c u) (lost_to p x c + code p x a cs u) ≡ code_by t (unseen p x c v) (lost_to p x c + code p x a cs v)
          → (code p x a cs u < lost p x cs → code p x a cs u ≡ code p x a cs v → u ≡ v) → u ≡ v
      go zero eu zero ev l e rec = broken_once c u v eu ev e
      go zero eu (suc t) ev l e rec = absurd (let z : ⊥ = omega (arith, broken_lt p x a c u lu eu) in z)
      go (suc s) eu zero ev l e rec = absurd (let z : ⊥ = omega (arith, broken_lt p x a c v lv ev) in z)
      go (suc s) eu (suc t) ev l e rec = rec (omega arith) (omega arith)

  code_clear : (cs : List Constraint) (v : ℕ) → v < 2 ^ p → lost p x cs ≤ code p x a cs v → Each (Clear p x (set a x v)) cs
  unfolding code lost
  code_clear [] v lv l = each_nil
  code_clear (c ∷ cs) v lv l = go (stays p x a c v) refl l (code_clear cs v lv)
    where
      go : (s : ℕ) → stays p x a c v ≡ s → lost_to p x c + lost p x cs ≤ code_by s (unseen p x c v) (lost_to p x c + code p x a cs v)
          → (lost p x cs ≤ code p x a cs v → Each (Clear p x (set a x v)) cs) → Each (Clear p x (set a x v)) (c ∷ cs)
      go zero e l rec = absurd (let z : ⊥ = omega (arith, broken_lt p x a c v lv e) in z)
      go (suc s) e l rec = each_cons (kept p x a c v (λ z. omega arith)) (rec (omega arith))

  pub enough : {k : ℕ} {gs : List Group} (r : ℕ) (cs : List Constraint) → k ≤ p → Falling p x k gs → lost p x cs < ways p k gs
      → (v : ℕ) × Found p x k r a gs cs v
  enough {k} {gs} r cs wide f l =
      let m : Many p x k r a gs = many p x a there f r wide in
      let i : (n : ℕ) × (n < ways p k gs) × (lost p x cs ≤ code p x a cs (m.at n)) =
      pigeon (λ n. code p x a cs (m.at n)) (lost p x cs) (ways p k gs) l
      (λ i j li lj b e. m.once i j li lj (code_once cs (m.at i) (m.at j) (m.small i li) (m.small j lj) b e)) in (
        m.at i.0,
        record {
          small = m.small i.0 i.1;
          near = m.near i.0 i.1;
          inside = m.inside i.0 i.1;
          clear = code_clear cs (m.at i.0) (m.small i.0 i.1) i.2;
        },
      )
