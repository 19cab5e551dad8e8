-- Lowering a row by the places, reducing the places, and taking those that have a row.
use mathlib.Core.Path.{◌≡◌, refl, sym, ap, ap₂, ◌∙◌}
use mathlib.Core.Bool.{true, false}
use mathlib.Core.List.{List, [], ◌∷◌, ◌++◌, append_assoc, append-nil}
use Prim.Native.Nat.{ℕ, zero, suc, ◌+◌, ◌-◌, ◌*◌, ◌/◌, ◌^◌, ◌≤◌, ◌<◌}
use native.Mathlib.Numerals.{add-one}
use native.Mathlib.Omega.{arith}
use lib.ListN.{length}
use Rattle.meaning.specs.Lists.{Each, each_nil, each_cons}
use Rattle.meaning.specs.Number.{kappa}
use Rattle.meaning.specs.Row.{Row, IsRow, coefficient, less, wordless}
use Rattle.meaning.specs.Tidy.{lowered, reduced, filled}
use Rattle.meaning.proofs.Value.{less_row, less_none}
use Rattle.row.specs.Block.{row_of, put_row, rows_from}
use Rattle.row.proofs.Blocks.{length_row, put_own, put_put, put_same, put_other, rows_put_other}
use Rattle.tidy.proofs.Places.{IsPlaces, place_row, put_places}

-- ---- one place of sixteen

-- the places from x on are place x and those after it
places_from : (l : List ℕ) (x : ℕ) → x < 16 → rows_from l x (16 - x) ≡ row_of l x ∷ rows_from l (suc x) (16 - suc x)
places_from l x b = let n : 16 - x ≡ suc (16 - suc x) = omega arith in rw n

-- ---- the row of a place lowered by one later place, and by the rest

module _ {p : ℕ} {l : List ℕ} (x y : ℕ) (b : x < 16) (d : y < 16) (h : IsPlaces p l) where
  -- by the quotient q of its coefficient
  pub lowered_by : {a c q : ℕ} {s : Row} {l' : List ℕ} → a ≡ coefficient (row_of l x) y → c ≡ coefficient (row_of l y) y → q ≡ a / 2 ^ kappa p c
      → s ≡ row_of l y → l' ≡ put_row l x (less p q s (row_of l x)) → l' ≡ put_row l x (lowered p y (rows_from l y 1) (row_of l x))
  unfolding lowered
  lowered_by ea ec eq es el = rw (el, es, eq, ea, ec)

  -- which is nothing where the quotient is 0
  pub lowered_none : coefficient (row_of l x) y / 2 ^ kappa p (coefficient (row_of l y) y) ≡ 0
      → l ≡ put_row l x (lowered p y (rows_from l y 1) (row_of l x))
  lowered_none e =
      lowered_by refl refl (sym e) refl
      (sym (put_own l x) ∙ ap (put_row l x) (sym (less_none (place_row y h d) (place_row x h b))))

-- a lowered row is a row
lowered_row : {p : ℕ} (x : ℕ) {ss : List Row} {r : Row} → Each (IsRow p) ss → IsRow p r → IsRow p (lowered p x ss r)
unfolding lowered
lowered_row x each_nil hr = hr
lowered_row x (each_cons h hs) hr = lowered_row (suc x) hs (less_row _ h hr)

-- what is left to take off a row after one place
after_one : (p y : ℕ) (l : List ℕ) (r : Row) → y < 16
    → lowered p (y + 1) (rows_from l (y + 1) (16 - (y + 1))) (lowered p y (rows_from l y 1) r) ≡ lowered p y (rows_from l y (16 - y)) r
unfolding lowered
after_one p y l r b = rw (add-one y, places_from l y b)

after_all : (p y : ℕ) (l : List ℕ) (r : Row) → 16 ≤ y → lowered p y (rows_from l y (16 - y)) r ≡ r
unfolding lowered
after_all p y l r b = let e : 16 - y ≡ 0 = omega arith in rw e

-- the row of place x is lowered by the places before y, and the places are otherwise l₀ still
pub record LoweredTo (p : ℕ) (l₀ : List ℕ) (x : ℕ) (l : List ℕ) (y : ℕ) : Type 0 where
  pub places : IsPlaces p l
  pub kept : l ≡ put_row l₀ x (row_of l x)
  pub ends : lowered p y (rows_from l₀ y (16 - y)) (row_of l x) ≡ lowered p (x + 1) (rows_from l₀ (x + 1) (16 - (x + 1))) (row_of l₀ x)

pub lowered_none_yet : {p : ℕ} {l : List ℕ} (x : ℕ) → IsPlaces p l → LoweredTo p l x l (x + 1)
lowered_none_yet {l = l} x h = record { places = h; kept = sym (put_own l x); ends = refl }

module _ {p : ℕ} {l₀ : List ℕ} {x : ℕ} {l : List ℕ} {y : ℕ} (h : LoweredTo p l₀ x l y) where
  pub lowered_more : {l' : List ℕ} → IsPlaces p l₀ → x < y → y < 16 → l' ≡ put_row l x (lowered p y (rows_from l y 1) (row_of l x))
      → LoweredTo p l₀ x l' (y + 1)
  lowered_more {l'} h₀ b d el =
      let r : Row = row_of l x in
      let t : Row = lowered p y (rows_from l y 1) r in
      let fits : (x + 1) * 17 ≤ length l = omega (arith, h.places.long) in
      let fits₀ : (x + 1) * 17 ≤ length l₀ = omega (arith, h₀.long) in
      let ht : IsRow p t = lowered_row y (each_cons (place_row y h.places d) each_nil) (place_row x h.places (omega arith)) in
      let row : row_of l' x ≡ t = ap (λ (d : List ℕ). row_of d x) el ∙ put_same l x t fits ht.long in
      let same : row_of l y ≡ row_of l₀ y =
      ap (λ (d : List ℕ). row_of d y) h.kept ∙ put_other l₀ x r fits₀ (length_row l x fits) y (omega (arith, h₀.long)) (λ z. omega arith) in
      record {
        places = rw el (put_places x h.places (omega arith) ht);
        kept = el ∙ ap (λ (d : List ℕ). put_row d x t) h.kept ∙ put_put l₀ x r fits₀ (length_row l x fits) t ∙ ap (put_row l₀ x) (sym row);
        ends = ap (lowered p (y + 1) (rows_from l₀ (y + 1) (16 - (y + 1)))) (row ∙ ap (λ (s : Row). lowered p y (s ∷ []) r) same)
            ∙ after_one p y l₀ r d ∙ h.ends;
      }

  pub lowered_all : 16 ≤ y → l ≡ put_row l₀ x (lowered p (x + 1) (rows_from l₀ (x + 1) (16 - (x + 1))) (row_of l₀ x))
  lowered_all b = h.kept ∙ ap (put_row l₀ x) (sym (after_all p y l₀ (row_of l x) b) ∙ h.ends)

-- ---- the places from x on reduced, and those before it as they were

pub record ReducedFrom (p : ℕ) (l₀ l : List ℕ) (x : ℕ) : Type 0 where
  pub places : IsPlaces p l
  pub later : rows_from l x (16 - x) ≡ reduced p x (rows_from l₀ x (16 - x))
  pub earlier : (j : ℕ) → j < x → row_of l j ≡ row_of l₀ j

pub reduced_none : {p : ℕ} {l : List ℕ} → IsPlaces p l → ReducedFrom p l l 16
unfolding reduced
reduced_none h = record { places = h; later = refl; earlier = λ j b. refl }

pub reduced_all : {p : ℕ} {l₀ l : List ℕ} (x : ℕ) → x ≤ 0 → ReducedFrom p l₀ l x → rows_from l 0 16 ≡ reduced p 0 (rows_from l₀ 0 16)
reduced_all zero b h = h.later
reduced_all (suc x) b h = absurd (let z : ⊥ = omega arith in z)

rows_each : {p : ℕ} {l : List ℕ} → IsPlaces p l → (x n : ℕ) → x + n ≤ 16 → Each (IsRow p) (rows_from l x n)
rows_each h x zero b = each_nil
rows_each h x (suc n) b = each_cons (place_row x h (omega arith)) (rows_each h (suc x) n (omega arith))

-- the row of one place more lowered by them
pub reduced_more : {p : ℕ} {l₀ l l' : List ℕ} (y : ℕ) {x : ℕ} → y < 16 → x ≡ suc y → ReducedFrom p l₀ l x
    → l' ≡ put_row l y (lowered p (y + 1) (rows_from l (y + 1) (16 - (y + 1))) (row_of l y)) → ReducedFrom p l₀ l' y
unfolding reduced
reduced_more {p} {l₀} {l} y {x} b ex h el =
    let t : Row = lowered p (y + 1) (rows_from l (y + 1) (16 - (y + 1))) (row_of l y) in
    let ht : IsRow p t = lowered_row (y + 1) (rows_each h.places (y + 1) (16 - (y + 1)) (omega arith)) (place_row y h.places b) in
    let later = rw ex at h.later in
    let fits : (y + 1) * 17 ≤ length l = omega (arith, h.places.long) in
    let row : t ≡ lowered p (suc y) (reduced p (suc y) (rows_from l₀ (suc y) (16 - suc y))) (row_of l₀ y) =
    rw (add-one y, later, h.earlier y (omega arith)) in
    let rest = rows_put_other l y t fits ht.long (suc y) (16 - suc y) (omega (arith, h.places.long)) (λ j u v z. omega arith) in
    rw el record {
      places = put_places y h.places b ht;
      later = rw (places_from (put_row l y t) y b, places_from l₀ y b) (ap₂ ◌∷◌ (put_same l y t fits ht.long ∙ row) (rest ∙ later));
      earlier = λ j u. put_other l y t fits ht.long j (omega (arith, h.places.long)) (λ z. omega arith) ∙ h.earlier j (omega arith);
    }

-- ---- the places that have a row

-- the rows taken are those of the places before x that have a row
pub record FilledTo (l : List ℕ) (taken : List Row) (n x : ℕ) : Type 0 where
  pub few : n ≤ x
  pub most : x ≤ 16
  pub rows : taken ++ filled (rows_from l x (16 - x)) ≡ filled (rows_from l 0 16)

pub filled_all : {l : List ℕ} {taken : List Row} {n x : ℕ} → 16 ≤ x → FilledTo l taken n x → taken ≡ filled (rows_from l 0 16)
unfolding filled
filled_all {taken} {x} b h =
    let e : 16 - x ≡ 0 = omega arith in
    sym (append-nil taken) ∙ rw e at h.rows

-- place x is passed over, or its row is put behind those that are there
module _ {l : List ℕ} {taken : List Row} {n x : ℕ} (b : x < 16) (h : FilledTo l taken n x) where
  abbrev rest : List Row
  rest = filled (rows_from l (x + 1) (16 - (x + 1)))

  passed : wordless (row_of l x) ≡ true → rest ≡ filled (rows_from l x (16 - x))
  unfolding filled
  passed e = rw (add-one x, places_from l x b, e)

  put : wordless (row_of l x) ≡ false → row_of l x ∷ rest ≡ filled (rows_from l x (16 - x))
  unfolding filled
  put e = rw (add-one x, places_from l x b, e)

  pub filled_skip : {taken' : List Row} {n' : ℕ} → wordless (row_of l x) ≡ true → taken' ≡ taken → n' ≡ n → FilledTo l taken' n' (x + 1)
  filled_skip e et en =
      rw (et, en) record {
        few = omega arith;
        most = omega arith;
        rows = ap (λ (rs : List Row). taken ++ rs) (passed e) ∙ h.rows;
      }

  pub filled_keep : {taken' : List Row} {n' : ℕ} → wordless (row_of l x) ≡ false → taken' ≡ taken ++ (row_of l x ∷ []) → n' ≡ n + 1
      → FilledTo l taken' n' (x + 1)
  filled_keep e et en =
      rw (et, en) record {
        few = omega arith;
        most = omega arith;
        rows = rw (append_assoc taken (row_of l x ∷ []) rest) (ap (λ (rs : List Row). taken ++ rs) (put e) ∙ h.rows);
      }
