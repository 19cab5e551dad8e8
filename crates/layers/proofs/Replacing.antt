-- The equality to go by for a word, what it says put into a row, and a loop that does so with one row after the other.
use Rattle.std.proofs.Common.{◌≡◌, refl, sym, ap, ap₂, ◌∙◌, Bool, true, false, cond, List, ◌∷◌, ◌++◌, map, length, get_or, set, take, drop, ℕ, suc, ◌+◌, ◌-◌, ◌*◌, ◌/◌, ◌^◌, ◌≤◌, ◌<◌, leb, ◌⊎◌, ⊎_elim, Option, Some, None, MatchOption, IfSome, zero-add, take_all, drop_of_length-le, append-nil, arith}
use Rattle.std.proofs.lemmas.List.Edits.{map_over_more}
use Rattle.std.proofs.lemmas.List.{get_or_default}
use Rattle.std.specs.Bool.{⊤}
use native.Mathlib.Nat.{zero-div}
use borrow.Author.Tests.{le-leb, lt-leb}
use Rattle.meaning.specs.Number.{kappa}
use Rattle.meaning.specs.Row.{Row, zero_row, IsRow, coefficient, less}
use Rattle.meaning.specs.Layers.{Chosen, chosen, replaced}
use Rattle.meaning.specs.Lists.{Each}
use Rattle.meaning.proofs.Members.{each_get}
use Rattle.meaning.proofs.Kappa.{kappa_le}
use Rattle.meaning.proofs.Value.{less_row, less_none}
use Rattle.row.specs.Block.{row_of, put_row, rows_from}
use Rattle.row.proofs.Blocks.{row_at, rows_put, length_rows}
use Rattle.sheet.specs.Work.{equalities_of}
use Rattle.sheet.specs.declared.Equalities.{Equalities}
use Rattle.layers.specs.Choice.{choice_of}
use Rattle.layers.specs.declared.layer1.Choice.{Choice}
use Rattle.layers.proofs.Lists.{get_or_behind}

-- ---- the equality to go by

module _ (p x : ℕ) (r : Row) (rs : List Row) where
  chosen_first : kappa p (coefficient r x) ≤ (chosen p x rs).power
      → chosen p x (r ∷ rs) ≡ record { power = kappa p (coefficient r x); at = 0 }
  unfolding chosen
  chosen_first h = rw (le-leb (kappa p (coefficient r x)) (chosen p x rs).power h)

  chosen_behind : (chosen p x rs).power < kappa p (coefficient r x)
      → chosen p x (r ∷ rs) ≡ record { power = (chosen p x rs).power; at = suc (chosen p x rs).at }
  unfolding chosen
  chosen_behind h = rw (lt-leb (kappa p (coefficient r x)) (chosen p x rs).power h)

-- the choice among the equalities from i on
abbrev pub Chooses : ℕ → ℕ → ℕ → Option Choice → Chosen → Type 0
Chooses p i n None d = d ≡ record { power = p; at = 0 }
Chooses p i n (Some c) d = (c.power < p) × (i ≤ c.at) × (c.at < n) × (d ≡ record { power = c.power; at = c.at - i })

pub record Choosing (p x : ℕ) (e : Equalities) (choice : Option Choice) (i : ℕ) : Type 0 where
  pub within : i ≤ e.count
  pub chooses : Chooses p i e.count choice (chosen p x (rows_from e.rows i (e.count - i)))

pub choose_none : {p x : ℕ} {e : Equalities} → Choosing p x e None e.count
unfolding chosen
choose_none {e = e} = let z : e.count - e.count ≡ 0 = omega arith in record { within = omega arith; chooses = rw z }

-- k is the κ of the one before i
module _ {p x : ℕ} {e : Equalities} {choice : Option Choice} {i k : ℕ} (h : Choosing p x e choice i) (some : 0 < i)
    (is : k ≡ kappa p (coefficient (row_of e.rows (i - 1)) x)) where
  before : rows_from e.rows (i - 1) (e.count - (i - 1)) ≡ row_of e.rows (i - 1) ∷ rows_from e.rows i (e.count - i)
  before =
      let n : e.count - (i - 1) ≡ suc (e.count - i) = omega (arith, h.within) in
      let f : suc (i - 1) ≡ i = omega arith in
      ap (rows_from e.rows (i - 1)) n ∙ ap (λ (j : ℕ). row_of e.rows (i - 1) ∷ rows_from e.rows j (e.count - i)) f

  first : k ≤ (chosen p x (rows_from e.rows i (e.count - i))).power
      → chosen p x (rows_from e.rows (i - 1) (e.count - (i - 1))) ≡ record { power = k; at = 0 }
  first l =
      let rs = rows_from e.rows i (e.count - i) in
      ap (chosen p x) before ∙ chosen_first p x (row_of e.rows (i - 1)) rs (omega (arith, is, l))
      ∙ ap (λ (j : ℕ). record { power = j; at = 0 }) (sym is)

  behind : {d : Chosen} → chosen p x (rows_from e.rows i (e.count - i)) ≡ d → d.power < k
      → chosen p x (rows_from e.rows (i - 1) (e.count - (i - 1))) ≡ record { power = d.power; at = suc d.at }
  behind f l =
      let rs = rows_from e.rows i (e.count - i) in
      ap (chosen p x) before
      ∙ chosen_behind p x (row_of e.rows (i - 1)) rs (omega (arith, is, l, ap (λ (c : Chosen). c.power) f))
      ∙ ap (λ (c : Chosen). record { power = c.power; at = suc c.at }) f

least : {p k : ℕ} (i n : ℕ) (choice : Option Choice) (d : Chosen) → Chooses p i n choice d → k < p
    → MatchOption choice ⊤ (λ c. k ≤ c.power) → k ≤ d.power
least i n None d f l m = omega (arith, l, ap (λ (c : Chosen). c.power) f)
least i n (Some c) d f l m = omega (arith, m, ap (λ (c : Chosen). c.power) f.3)

-- the one before i comes first where k is at most the κ of the choice, and below p
pub choose_here : {p x : ℕ} {e : Equalities} (choice : Option Choice) {i k : ℕ} → Choosing p x e choice i → 0 < i
    → k ≡ kappa p (coefficient (row_of e.rows (i - 1)) x) → k < p → MatchOption choice ⊤ (λ c. k ≤ c.power)
    → Choosing p x e (Some (record { power = k; at = i - 1 })) (i - 1)
choose_here choice {i} h some is l m =
    let z : i - 1 - (i - 1) ≡ 0 = omega arith in
    record {
      within = omega (arith, h.within);
      chooses = (l, omega arith, omega (arith, h.within), rw z (first h some is (least i _ choice _ h.chooses l m)));
    }

-- and otherwise it does not
pub choose_behind : {p x : ℕ} {e : Equalities} (choice : Option Choice) {i k : ℕ} → Choosing p x e choice i → 0 < i
    → k ≡ kappa p (coefficient (row_of e.rows (i - 1)) x) → (p ≤ k) ⊎ MatchOption choice ⊥ (λ c. c.power < k)
    → Choosing p x e choice (i - 1)
choose_behind {p} {x} {e} None {i} {k} h some is m =
    let l : p ≤ k = ⊎_elim (λ a. a) (λ a. absurd a) m in
    let f : k ≡ p = omega (arith, l, is, kappa_le p (coefficient (row_of e.rows (i - 1)) x)) in
    let g = first h some is (omega (arith, f, ap (λ (d : Chosen). d.power) h.chooses)) in
    record { within = omega (arith, h.within); chooses = g ∙ ap (λ (j : ℕ). record { power = j; at = 0 }) f }
choose_behind (Some c) {i} {k} h some is m =
    let f : suc (c.at - i) ≡ c.at - (i - 1) = omega (arith, h.chooses.1) in
    let l : c.power < k = ⊎_elim (λ a. omega (arith, a, h.chooses.0)) (λ a. a) m in
    record {
      within = omega (arith, h.within);
      chooses = (h.chooses.0, omega (arith, h.chooses.1), h.chooses.2, rw (← f) (behind h some is h.chooses.3 l));
    }

pub choose_all : {p x : ℕ} {e : Equalities} (choice : Option Choice) {i : ℕ} → i ≤ 0 → Choosing p x e choice i
    → choice_of p choice ≡ chosen p x (equalities_of e)
choose_all {p} {x} {e} choice {i} l h =
    let z : i ≡ 0 = omega (arith, l) in
    let n : e.count - 0 ≡ e.count = omega arith in
    go choice (rw n at (rw z at h).chooses)
  where
    go : (c : Option Choice) {d : Chosen} → Chooses p 0 e.count c d → choice_of p c ≡ d
    go None f = sym f
    go (Some c) f = let m : c.at - 0 ≡ c.at = omega arith in sym (rw m at f.3)

pub choose_below : {p x : ℕ} {e : Equalities} (choice : Option Choice) {i : ℕ} → Choosing p x e choice i
    → IfSome choice (λ c. (c.power < p) × (c.at < e.count))
choose_below None h = tt
choose_below (Some c) h = (h.chooses.0, h.chooses.2)

-- ---- what a row says put into another

module _ (p x k : ℕ) (t r : Row) where
  pub replaced_absent : IsRow p t → IsRow p r → coefficient r x ≡ 0 → replaced p x k t r ≡ r
  unfolding replaced
  replaced_absent ht hr e = go (leb k (kappa p (coefficient r x)))
    where
      none : less p (coefficient r x / 2 ^ k) t r ≡ r
      none = ap (λ (c : ℕ). less p (c / 2 ^ k) t r) e ∙ ap (λ (q : ℕ). less p q t r) (zero-div (2 ^ k)) ∙ less_none ht hr

      go : (b : Bool) → cond b (less p (coefficient r x / 2 ^ k) t r) r ≡ r
      go true = none
      go false = refl

  pub replaced_some : k ≤ kappa p (coefficient r x) → replaced p x k t r ≡ less p (coefficient r x / 2 ^ k) t r
  unfolding replaced
  replaced_some l = rw (le-leb k (kappa p (coefficient r x)) l)

  pub replaced_not : kappa p (coefficient r x) < k → replaced p x k t r ≡ r
  unfolding replaced
  replaced_not l = rw (lt-leb k (kappa p (coefficient r x)) l)

  pub replaced_long : IsRow p t → IsRow p r → length (replaced p x k t r) ≡ 17
  unfolding replaced
  replaced_long ht hr = go (leb k (kappa p (coefficient r x)))
    where
      go : (b : Bool) → length (cond b (less p (coefficient r x / 2 ^ k) t r) r) ≡ 17
      go true = (less_row _ ht hr).long
      go false = hr.long

-- ---- rows of a block, one after the other

-- of the equalities `to`, those before i are those of `from` under f, and the others are as they were
pub record Mapped (f : Row → Row) (from to : Equalities) (i : ℕ) : Type 0 where
  pub count : to.count ≡ from.count
  pub rows : equalities_of to ≡ map f (take i (equalities_of from)) ++ drop i (equalities_of from)

module _ {f : Row → Row} {from to : Equalities} {i : ℕ} (h : Mapped f from to i) where
  counted : length (equalities_of from) ≡ to.count
  counted = length_rows from.rows 0 from.count ∙ sym h.count

  -- row i is as it was, so that it has what each had
  pub row_kept : {P : Row → Type 0} {r : Row} → Each P (equalities_of from) → i < from.count → r ≡ row_of to.rows i → P r
  row_kept each b e =
      let n : i < length (equalities_of from) = omega (arith, counted, h.count, b) in
      let m : i < to.count = omega (arith, h.count, b) in
      let is = sym (row_at to.rows m) ∙ ap (λ (l : List Row). get_or l i zero_row) h.rows
      ∙ get_or_behind f (equalities_of from) i zero_row n in
      rw (e, is) (each_get i zero_row n each)

  pub map_next : {rows : List ℕ} (r s : Row) → i < from.count → to.count * 17 ≤ length to.rows → length s ≡ 17
      → r ≡ row_of to.rows i → s ≡ f r → rows ≡ put_row to.rows i s → Mapped f from (record { rows = rows; count = to.count }) (i + 1)
  map_next r s b fits long er es e =
      let n : i < length (equalities_of from) = omega (arith, counted, h.count, b) in
      let m : i < to.count = omega (arith, h.count, b) in
      let is : r ≡ get_or (equalities_of to) i r =
      er ∙ sym (row_at to.rows m) ∙ get_or_default (equalities_of to) i zero_row r (omega (arith, m, length_rows to.rows 0 to.count)) in
      record {
        count = h.count;
        rows = ap (λ (l : List ℕ). rows_from l 0 to.count) e ∙ rows_put to.rows i s (omega arith) long 0 i to.count (sym (zero-add i)) m (omega arith)
            ∙ ap (set (equalities_of to) i) es ∙ map_over_more f (equalities_of from) (equalities_of to) i r n h.rows is;
      }

  -- all are mapped, and then s is put in the place of one
  pub map_put : {rows : List ℕ} (at : ℕ) (s : Row) → from.count ≤ i → at < from.count → to.count * 17 ≤ length to.rows → length s ≡ 17
      → rows ≡ put_row to.rows at s → rows_from rows 0 to.count ≡ set (map f (equalities_of from)) at s
  map_put at s b l fits long e =
      let n : length (equalities_of from) ≤ i = omega (arith, counted, h.count, b) in
      let all : equalities_of to ≡ map f (equalities_of from) =
      h.rows ∙ ap₂ (λ (a d : List Row). map f a ++ d) (take_all i (equalities_of from) n) (drop_of_length-le (equalities_of from) n)
      ∙ append-nil (map f (equalities_of from)) in
      ap (λ (l : List ℕ). rows_from l 0 to.count) e
      ∙ rows_put to.rows at s (omega (arith, h.count)) long 0 at to.count (sym (zero-add at)) (omega (arith, h.count)) (omega arith)
      ∙ ap (λ (l : List Row). set l at s) all
