-- The product over the row of records, as a loop takes it, that it fits its word, and the row as it is filled from the table.
use Rattle.std.proofs.Common.{◌≡◌, refl, sym, ap, ◌∙◌, ℕ, zero, suc, ◌+◌, ◌-◌, ◌*◌, ◌/◌, ◌%◌, ◌^◌, ◌≤◌, ◌<◌, List, [], ◌∷◌, ◌++◌, map, length}
use Rattle.std.proofs.Common.{Option, Some, None, IfSome, get_or, drop, append-nil, append_assoc, length-append, arith}
use Rattle.std.proofs.Common.{le_trans, le-mul_of_pos_right, mul-le-mul_left, mul_assoc, mod-eq_of_lt, one-mul, zero-add, add-one}
use Rattle.std.proofs.Common.{pow_pos, pow_mono, drop-cons}
use Rattle.std.proofs.Math.Nat.{le_of_mul-le-mul_right, div-mul-le_self, sub-zero}
use native.Mathlib.Decide.{dec_lt}
use native.Mathlib.Nat.{suc-add}
use lib.Pow.{pow-add}
use lib.ListN.{drop_of_length-le}
use Rattle.meaning.specs.Lists.{Each, each_nil, each_cons}
use Rattle.meaning.specs.Layers.{Group, delta, ways}
use Rattle.meaning.proofs.Members.{each_get}
use Rattle.meaning.proofs.Two.{two_split}
use Rattle.layers.specs.declared.layer2.Group.{Group as HeldGroup}
use Rattle.layers.specs.declared.records.Record.{Record}
use Rattle.layers.specs.Groups.{slot, groups_below, IsGroup, IsTable}
use Rattle.layers.specs.Records.{IsRecord, groups_in}

-- where the loop is: the records from i on are left
pub record At (p k0 : ℕ) (rs : List Record) (acc k i : ℕ) : Type 0 where
  pub known : k ≤ p
  pub bound : acc * 2 ^ k ≤ 2 ^ k0
  pub rest : acc * ways p k (groups_in (drop i rs)) ≡ ways p k0 (groups_in rs)

pub at_start : {p k : ℕ} (rs : List Record) → k ≤ p → At p k rs 1 k 0
at_start rs l = record { known = l; bound = omega arith; rest = one-mul _ }

-- a group's share fits the bits that are free
share_fits : (p k j d : ℕ) → k ≤ p → d ≤ 2 ^ p → d / 2 ^ (p - k + j) * 2 ^ j ≤ 2 ^ k
share_fits p k j d wide l =
    le_of_mul-le-mul_right {k = 2 ^ (p - k)} (omega (arith, f, div-mul-le_self d (2 ^ (p - k + j)), two_split wide)) (pow_pos (p - k))
  where
    f : d / 2 ^ (p - k + j) * 2 ^ (p - k + j) ≡ d / 2 ^ (p - k + j) * (2 ^ (p - k) * 2 ^ j)
    f = ap (λ (m : ℕ). d / 2 ^ (p - k + j) * m) (pow-add 2 (p - k) j)

module _ {p k m : ℕ} {r : Record} (acc : ℕ) (l : k ≤ p) (o : IsRecord p r) (b : acc * 2 ^ k ≤ m) where
  share_bound : acc * (r.delta / 2 ^ (p - k + r.power)) * 2 ^ r.power ≤ m
  share_bound = omega (arith, b, mul-le-mul_left acc (share_fits p k r.power r.delta l o.most))

  pub share_le : acc * (r.delta / 2 ^ (p - k + r.power)) ≤ m
  share_le = le_trans (le-mul_of_pos_right _ (pow_pos r.power)) share_bound

module _ {p k0 : ℕ} {rs : List Record} {acc k i : ℕ} (a : At p k0 rs acc k i) where
  pub at_next : (d : Record) → Each (IsRecord p) rs → i < length rs
      → At p k0 rs (acc * ((get_or rs i d).delta / 2 ^ (p - k + (get_or rs i d).power))) (get_or rs i d).power (i + 1)
  unfolding ways
  at_next d o l =
      let e : IsRecord p (get_or rs i d) = each_get i d l o in
      record {
        known = omega (arith, e.below);
        bound = share_bound acc a.known e a.bound;
        rest = rw add-one (mul_assoc acc _ _ ∙ (rw (drop-cons rs i d l, sub-zero) at a.rest));
      }

  module _ (l : p ≤ 32) (m : k0 ≤ p) where
    pub at_fits : acc * 2 ^ k ≤ 2 ^ 32
    at_fits = le_trans a.bound (pow_mono (le_trans m l))

    pub at_end : length rs ≤ i → ((acc * 2 ^ k) % 2 ^ 64 ≤ 2 ^ 32) × ((acc * 2 ^ k) % 2 ^ 64 ≡ ways p k0 (groups_in rs))
    unfolding ways
    at_end z =
        let word : (acc * 2 ^ k) % 2 ^ 64 ≡ acc * 2 ^ k = mod-eq_of_lt (omega (arith, at_fits)) in
        (rw word at_fits, word ∙ (rw (drop_of_length-le rs z) at a.rest))

-- ---- the row filled from the table

-- what the row keeps of a group
abbrev pub record_of : Group → Record
record_of g = record { power = g.power; delta = delta g }

abbrev pub records_below : List (Option HeldGroup) → ℕ → List Record
records_below table n = map record_of (groups_below table n)

-- where the loop is: the groups of the powers from k on are in the row
pub record Filled (p : ℕ) (table : List (Option HeldGroup)) (rs : List Record) (k : ℕ) : Type 0 where
  pub within : length rs + k ≤ p
  pub rest : rs ++ records_below table k ≡ records_below table 32

-- no group has the power p or more
above_none : {p : ℕ} {table : List (Option HeldGroup)} → IsTable p table → (i : ℕ) → groups_below table (i + p) ≡ groups_below table p
unfolding groups_below
above_none {p} o zero = rw zero-add
above_none {p} o (suc i) = rw (suc-add i p, o.below (i + p) (omega arith), above_none o i)

pub filled_start : {p : ℕ} {table : List (Option HeldGroup)} → p ≤ 32 → IsTable p table → Filled p table [] p
filled_start {p} l o =
    let e : 32 - p + p ≡ 32 = omega arith in
    record { within = omega arith; rest = ap (map record_of) (sym (rw e at (above_none o (32 - p)))) }

module _ {p : ℕ} {table : List (Option HeldGroup)} {rs : List Record} {n k : ℕ} (f : Filled p table rs k) (e : k ≡ n + 1) where
  pub filled_skip : get_or table n None ≡ None → Filled p table rs n
  unfolding groups_below
  filled_skip z = record { within = omega (arith, f.within); rest = rw (e, add-one n, z) at f.rest }

  pub filled_next : (g : HeldGroup) {d : ℕ} → get_or table n None ≡ Some g → d ≡ g.past - g.low
      → Filled p table (rs ++ record { power = n; delta = d } ∷ []) n
  unfolding groups_below
  filled_next g z w =
      let r : Record = record { power = n; delta = g.past - g.low } in
      rw w (record {
        within = omega (arith, f.within, length-append rs (r ∷ []));
        rest = append_assoc rs (r ∷ []) (records_below table n) ∙ (rw (e, add-one n, z) at f.rest);
      })

pub records_each : {p : ℕ} {table : List (Option HeldGroup)} → IsTable p table → (n : ℕ) → Each (IsRecord p) (records_below table n)
unfolding groups_below
records_each o zero = each_nil
records_each {p} {table} o (suc n) = go (get_or table n None) refl (o.groups n) (dec_lt n p) (records_each o n)
  where
    go : (g : Option HeldGroup) → get_or table n None ≡ g → IfSome g (IsGroup p) → Dec (n < p) → Each (IsRecord p) (records_below table n)
        → Each (IsRecord p) (map record_of (slot n g (groups_below table n)))
    go None e h d hs = hs
    go (Some g) e h (yes l) hs = each_cons (record { below = l; most = omega (arith, h.most) }) hs
    go (Some g) e h (no l) hs = let z : None ≡ Some g = sym (o.below n (omega arith)) ∙ e in absurd cc

pub ways_records : (p k : ℕ) (gs : List Group) → ways p k (groups_in (map record_of gs)) ≡ ways p k gs
unfolding ways
ways_records p k [] = refl
ways_records p k (g ∷ gs) = rw (sub-zero, ways_records p g.power gs)

module _ {p : ℕ} {table : List (Option HeldGroup)} {rs : List Record} {k : ℕ} (f : Filled p table rs k) (z : k ≤ 0) where
  all_in : rs ≡ records_below table 32
  unfolding groups_below
  all_in = let e : k ≡ 0 = omega arith in sym (append-nil rs) ∙ (rw e at f.rest)

  pub filled_each : IsTable p table → Each (IsRecord p) rs
  filled_each o = rw all_in (records_each o 32)

  pub filled_ways : (k0 : ℕ) → ways p k0 (groups_in rs) ≡ ways p k0 (groups_below table 32)
  filled_ways k0 = rw all_in (ways_records p k0 (groups_below table 32))
