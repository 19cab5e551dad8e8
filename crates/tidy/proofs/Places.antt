-- The places of the basis: what the turn of a word makes of its place, and the places while rows go through them.
use mathlib.Core.Path.{◌≡◌, refl, sym, ap, ap₂, ◌∙◌}
use mathlib.Core.Bool.{Bool, true, false, ◌&&◌}
use mathlib.Core.List.{List, [], ◌∷◌, ◌++◌, append_assoc, append-nil}
use Prim.Native.Nat.{ℕ, zero, suc, ◌+◌, ◌-◌, ◌*◌, ◌/◌, ◌%◌, ◌^◌, ◌≤◌, ◌<◌}
use native.Mathlib.Nat.{zero-div}
use native.Mathlib.Numerals.{add-one}
use native.Mathlib.Omega.{arith}
use lib.Dec.{leb, eqb}
use lib.ListN.{length, get_or, set, take, drop, length-take, length-drop, drop_of_length-le}
use lib.Seq.{drop-cons, take_all, take-suc-set, drop-set-lt}
use borrow.Author.Tests.{le-leb, lt-leb}
use Rattle.meaning.specs.Lists.{Each, each_nil, each_cons}
use Rattle.meaning.specs.Number.{kappa}
use Rattle.meaning.specs.Row.{Row, IsRow, coefficient, constant, zero_row, less, unit}
use Rattle.meaning.specs.Tidy.{Turn, turn_by, turn, Put, put, Basis, put_all}
use Rattle.meaning.proofs.Kappa.{kappa_le, kappa_zero}
use Rattle.meaning.proofs.Members.{each_set, each_head, each_tail}
use Rattle.meaning.proofs.Value.{less_row, less_none}
use Rattle.meaning.proofs.Turn.{unit_row}
use Rattle.row.specs.Block.{row_of, put_row, rows_from}
use Rattle.row.proofs.Blocks.{length_row, length_put, put_own, put_put, put_same, rows_put, rows_put_other, row_at, row_is, rows_next}
use Rattle.row.proofs.Multiples.{less_low}
use Rattle.tidy.specs.Blocks.{HasRows}

-- sixteen places, each a row
pub record IsPlaces (p : ℕ) (places : List ℕ) : Type 0 where
  pub long : 272 ≤ length places
  pub rows : Each (IsRow p) (rows_from places 0 16)

rows_of : {p : ℕ} (l : List ℕ) (k n : ℕ) → ((x : ℕ) → x < k + n → IsRow p (row_of l x)) → Each (IsRow p) (rows_from l k n)
rows_of l k zero h = each_nil
rows_of l k (suc n) h = each_cons (h k (omega arith)) (rows_of l (suc k) n (λ x b. h x (omega arith)))

-- a list with seventeen numbers from n on
long_enough : (n : ℕ) (l : List ℕ) → length (take 17 (drop n l)) ≡ 17 → n + 17 ≤ length l
long_enough n l e = let h = simp (length-take, length-drop) at e in omega (arith, h)

pub places_of : {p : ℕ} {l : List ℕ} → HasRows p l → IsPlaces p l
places_of {l = l} h = record { long = long_enough 255 l (h 15 (omega arith)).long; rows = rows_of l 0 16 h }

-- ---- the turn of a word

turn_rows : {p : ℕ} (x : ℕ) {s r : Row} → IsRow p s → IsRow p r → IsRow p (turn p x s r).place × IsRow p (turn p x s r).pending
unfolding turn turn_by
turn_rows {p} x {s} {r} hs hr = go (leb (kappa p (coefficient s x)) (kappa p (coefficient r x)))
  where
    go : (b : Bool) → IsRow p (turn_by b p x s r).place × IsRow p (turn_by b p x s r).pending
    go true = (hs, less_row _ hs hr)
    go false = (unit_row x hr, less_row _ (unit_row x hr) hs)

module _ (p x : ℕ) (s r : Row) where
  turn_clears : kappa p (coefficient s x) ≤ kappa p (coefficient r x)
      → turn p x s r ≡ record { place = s; pending = less p (coefficient r x / 2 ^ kappa p (coefficient s x)) s r }
  unfolding turn turn_by
  turn_clears h = rw (le-leb _ _ h)

  turn_stays : IsRow p s → IsRow p r → coefficient r x ≡ 0 → turn p x s r ≡ record { place = s; pending = r }
  turn_stays hs hr e =
      let k : ℕ = kappa p (coefficient s x) in
      let h : k ≤ kappa p (coefficient r x) = rw (e, kappa_zero p) (kappa_le p (coefficient s x)) in
      let none : less p (coefficient r x / 2 ^ k) s r ≡ r = rw (e, zero-div (2 ^ k)) (less_none hs hr) in
      turn_clears h ∙ ap (λ (t : Row). record { place = s; pending = t }) none

  turn_takes : kappa p (coefficient r x) < kappa p (coefficient s x)
      → turn p x s r ≡ record {
        place = unit p x r;
        pending = less p (2 ^ (kappa p (coefficient s x) - kappa p (coefficient r x))) (unit p x r) s;
      }
  unfolding turn turn_by
  turn_takes h = rw (lt-leb _ _ h)

pub kappa_most : {p k : ℕ} (c : ℕ) → k ≡ kappa p c → k ≤ p
kappa_most {p} c e = rw e (kappa_le p c)

-- ---- the rows of a block

module _ {p : ℕ} {l : List ℕ} (x : ℕ) (h : IsPlaces p l) (b : x < 16) where
  pub place_row : IsRow p (row_of l x)
  place_row = row_is l h.rows b refl

  module _ {r : Row} (hr : IsRow p r) where
    rows_set : rows_from (put_row l x r) 0 16 ≡ set (rows_from l 0 16) x r
    rows_set = rows_put l x r (omega (arith, h.long)) hr.long 0 x 16 (omega arith) b (omega (arith, h.long))

    pub put_places : IsPlaces p (put_row l x r)
    put_places = record {
      long = rw (length_put l x r (omega (arith, h.long)) hr.long) h.long;
      rows = rw rows_set (each_set x r hr h.rows);
    }

-- a row put in place x
pub has_rows_put : {p : ℕ} (l : List ℕ) {l' : List ℕ} {r : Row} (x : ℕ) → x < 16 → HasRows p l → IsRow p r → l' ≡ put_row l x r → HasRows p l'
has_rows_put l x b h hr e = λ y d. place_row y (rw e (put_places x (places_of h) b hr)) d

-- ---- the turn of a word in the blocks, as its code goes: the places are l, and the pending row is row i of m

module _ (l m : List ℕ) (p x i : ℕ) where
  abbrev pub Turned : List ℕ → List ℕ → Type 0
  Turned l' m' =
      (l' ≡ put_row l x (turn p x (row_of l x) (row_of m i)).place) × (m' ≡ put_row m i (turn p x (row_of l x) (row_of m i)).pending)

  pub stays : IsRow p (row_of l x) → IsRow p (row_of m i) → coefficient (row_of m i) x ≡ 0 → Turned l m
  stays hs hr e = rw (turn_stays p x (row_of l x) (row_of m i) hs hr e) (sym (put_own l x), sym (put_own m i))

  -- the code has found the coefficients a and c and their powers k and j
  module _ {a c k j : ℕ} (ea : a ≡ coefficient (row_of l x) x) (ec : c ≡ coefficient (row_of m i) x) (ek : k ≡ kappa p a) (ej : j ≡ kappa p c) where
    place_kappa : k ≡ kappa p (coefficient (row_of l x) x)
    place_kappa = ek ∙ ap (kappa p) ea

    row_kappa : j ≡ kappa p (coefficient (row_of m i) x)
    row_kappa = ej ∙ ap (kappa p) ec

    pub clears : {l' m₁ m' : List ℕ} {s : Row} {q : ℕ} → k ≤ j → q ≡ c / 2 ^ k → l' ≡ l → m₁ ≡ m → s ≡ row_of l' x
        → m' ≡ put_row m₁ i (less p q s (row_of m₁ i)) → Turned l' m'
    clears h eq el em es et =
        let b : kappa p (coefficient (row_of l x) x) ≤ kappa p (coefficient (row_of m i) x) = rw (← place_kappa, ← row_kappa) h in
        rw (turn_clears p x (row_of l x) (row_of m i) b, et, es, el, em, eq, ← place_kappa, ec) (sym (put_own l x), refl)

    module _ (h : j < k) where
      pub even_less : kappa p (coefficient (row_of m i) x) < p
      even_less = rw (← row_kappa) (let b : k ≤ p = kappa_most a ek in let n : j < p = omega arith in n)

      pub takes : {l' m₁ m' : List ℕ} {s : Row} {q : ℕ} → p ≤ 32 → (x + 1) * 17 ≤ length l → (i + 1) * 17 ≤ length m → IsRow p (row_of m i)
          → q ≡ 2 ^ (k - j) % 2 ^ 32 → l' ≡ put_row l x (unit p x (row_of m i)) → m₁ ≡ put_row m i (row_of l x) → s ≡ row_of l' x
          → m' ≡ put_row m₁ i (less p q s (row_of m₁ i)) → Turned l' m'
      takes {l'} {m₁} {s = s} w fl fm hr eq el em es et =
          let u : Row = unit p x (row_of m i) in
          let b : kappa p (coefficient (row_of m i) x) < kappa p (coefficient (row_of l x) x) = rw (← place_kappa, ← row_kappa) h in
          let es' : s ≡ u = es ∙ ap (λ (d : List ℕ). row_of d x) el ∙ put_same l x u fl (unit_row x hr).long in
          let eo : row_of m₁ i ≡ row_of l x = ap (λ (d : List ℕ). row_of d i) em ∙ put_same m i (row_of l x) fm (length_row l x fl) in
          rw (turn_takes p x (row_of l x) (row_of m i) b, et, es', eo, em, put_put m i (row_of l x) fm (length_row l x fl), eq, ← place_kappa, ← row_kappa)
          (el, ap (put_row m i) (sym (less_low p (2 ^ (k - j)) u (row_of l x) w)))

-- ---- a row on its way through the places

-- what is left of a row is a row
rest_row : {p : ℕ} (x : ℕ) {ss : List Row} {r : Row} → Each (IsRow p) ss → IsRow p r → IsRow p (put p x ss r).rest
unfolding put
rest_row x each_nil hr = hr
rest_row x (each_cons h hs) hr = rest_row (suc x) hs (turn_rows x h hr).1

abbrev behind : List Row → Put → Put
behind ss b = record { places = ss ++ b.places; rest = b.rest }

-- the places before x as they are, and the row put into those from x on
pub along : ℕ → ℕ → List Row → Row → Put
along p x ss r = behind (take x ss) (put p x (drop x ss) r)

along_next : (p x : ℕ) (ss : List Row) (r : Row) (t : Turn) → x < length ss → t ≡ turn p x (get_or ss x zero_row) r
    → along p x ss r ≡ along p (suc x) (set ss x t.place) t.pending
unfolding along put
along_next p x ss r t h e =
    let after : List Row = drop (suc x) ss in
    let b : Turn → Put = λ u. put p (suc x) after u.pending in
    ap (λ (d : List Row). behind (take x ss) (put p x d r)) (drop-cons ss x zero_row h)
    ∙ ap (λ (u : Turn). behind (take x ss) (behind (u.place ∷ []) (b u))) (sym e)
    ∙ ap (λ (l : List Row). record { places = l; rest = (b t).rest }) (sym (append_assoc (take x ss) (t.place ∷ []) (b t).places))
    ∙ ap₂ (λ (a d : List Row). behind a (put p (suc x) d t.pending))
    (sym (take-suc-set ss x t.place h))
    (sym (drop-set-lt (suc x) ss x t.place (omega arith)))

along_end : (p x : ℕ) (ss : List Row) (r : Row) → length ss ≤ x → along p x ss r ≡ record { places = ss; rest = r }
unfolding along put
along_end p x ss r h = rw (take_all x ss h, drop_of_length-le ss h, append-nil)

-- row i of m comes to the word x, the places are in l, this is what comes of it in the end, and the block is otherwise m₀ still
pub record Putting (p x : ℕ) (l m₀ : List ℕ) (i : ℕ) (m : List ℕ) (end : Put) : Type 0 where
  pub places : IsPlaces p l
  pub long : length m ≡ 544
  pub row : IsRow p (row_of m i)
  pub kept : m ≡ put_row m₀ i (row_of m i)
  pub ends : along p x (rows_from l 0 16) (row_of m i) ≡ end

pub putting_start : {p : ℕ} {l m : List ℕ} (i : ℕ) → IsPlaces p l → length m ≡ 544 → IsRow p (row_of m i)
    → Putting p 0 l m i m (put p 0 (rows_from l 0 16) (row_of m i))
unfolding along
putting_start {m = m} i h long hr = record { places = h; long = long; row = hr; kept = sym (put_own m i); ends = refl }

module _ {p x : ℕ} {l m₀ : List ℕ} {i : ℕ} {m : List ℕ} {end : Put} (h : Putting p x l m₀ i m end) where
  pub putting_next : {l' m' : List ℕ} → x < 16 → i < 32 → length m₀ ≡ 544 → l' ≡ put_row l x (turn p x (row_of l x) (row_of m i)).place
      → m' ≡ put_row m i (turn p x (row_of l x) (row_of m i)).pending → Putting p (x + 1) l' m₀ i m' end
  putting_next {l'} {m'} b few long el em =
      let t : Turn = turn p x (row_of l x) (row_of m i) in
      let hs : IsRow p t.place × IsRow p t.pending = turn_rows x (place_row x h.places b) h.row in
      let e : t ≡ turn p x (get_or (rows_from l 0 16) x zero_row) (row_of m i) =
      ap (λ (s : Row). turn p x s (row_of m i)) (sym (row_at l b)) in
      let fits : (i + 1) * 17 ≤ length m = omega (arith, h.long) in
      let row : row_of m' i ≡ t.pending = ap (λ (d : List ℕ). row_of d i) em ∙ put_same m i t.pending fits hs.1.long in
      record {
        places = rw el (put_places x h.places b hs.0);
        long = ap length em ∙ length_put m i t.pending fits hs.1.long ∙ h.long;
        row = rw row hs.1;
        kept = em ∙ ap (λ (d : List ℕ). put_row d i t.pending) h.kept
            ∙ put_put m₀ i (row_of m i) (omega arith) (length_row m i fits) t.pending ∙ ap (put_row m₀ i) (sym row);
        ends = rw (el, row, add-one) (ap (λ (ss : List Row). along p (suc x) ss t.pending) (rows_set x h.places b hs.0)
            ∙ sym (along_next p x (rows_from l 0 16) (row_of m i) t b e) ∙ h.ends);
      }

  pub putting_end : 16 ≤ x → (rows_from l 0 16 ≡ end.places) × (m ≡ put_row m₀ i end.rest)
  putting_end b =
      let e = sym (along_end p x (rows_from l 0 16) (row_of m i) b) ∙ h.ends in
      (ap (λ (b : Put). b.places) e, h.kept ∙ ap (λ (b : Put). put_row m₀ i b.rest) e)

-- ---- rows that are put one after the other

-- row i is the next of n rows, the places are in l, b says whether there is a solution so far, and this is what comes of it in the end
pub record PuttingAll (p : ℕ) (rows : List ℕ) (i n : ℕ) (l : List ℕ) (b : Bool) (end : Basis) : Type 0 where
  pub places : IsPlaces p l
  pub long : length rows ≡ 544
  pub left : Each (IsRow p) (rows_from rows i (n - i))
  pub ends : put_all p (rows_from rows i (n - i)) (record { places = rows_from l 0 16; solvable = b }) ≡ end

pub all_start : {p : ℕ} (rows : List ℕ) (n : ℕ) {l : List ℕ} (b : Bool) → IsPlaces p l → length rows ≡ 544 → Each (IsRow p) (rows_from rows 0 n)
    → PuttingAll p rows 0 n l b (put_all p (rows_from rows 0 n) (record { places = rows_from l 0 16; solvable = b }))
all_start {p} rows n {l} b h long hs =
    let e : n - 0 ≡ n = omega arith in
    record {
      places = h;
      long = long;
      left = rw e hs;
      ends = ap (λ (m : ℕ). put_all p (rows_from rows 0 m) (record { places = rows_from l 0 16; solvable = b })) e;
    }

module _ {p : ℕ} {rows : List ℕ} {i n : ℕ} {l : List ℕ} {b : Bool} {end : Basis} (h : PuttingAll p rows i n l b end) where
  pub all_row : i < n → IsRow p (row_of rows i)
  all_row m = each_head (rw (rows_next rows i n m) at h.left)

  -- row i is put, and its rest stands in its place
  module _ (m : i < n) (few : n ≤ 32) {rows' : List ℕ}
      (er : rows' ≡ put_row rows i (put p 0 (rows_from l 0 16) (row_of rows i)).rest) where
    abbrev rest : Row
    rest = (put p 0 (rows_from l 0 16) (row_of rows i)).rest

    rest_long : length rest ≡ 17
    rest_long = (rest_row 0 {ss = rows_from l 0 16} {r = row_of rows i} h.places.rows (all_row m)).long

    all_long : length rows' ≡ 544
    all_long = ap length er ∙ length_put rows i rest (omega (arith, h.long)) rest_long ∙ h.long

    rest_at : row_of rows' i ≡ rest
    rest_at = ap (λ (d : List ℕ). row_of d i) er ∙ put_same rows i rest (omega (arith, h.long)) rest_long

    later : rows_from rows' (i + 1) (n - (i + 1)) ≡ rows_from rows (i + 1) (n - (i + 1))
    later = rw er (rows_put_other rows i rest (omega (arith, h.long)) rest_long (i + 1) (n - (i + 1)) (omega (arith, h.long)) (λ j u v z. omega arith))

    pub all_next : {l' : List ℕ} {b' : Bool} {c : ℕ} → IsPlaces p l' → rows_from l' 0 16 ≡ (put p 0 (rows_from l 0 16) (row_of rows i)).places
        → c ≡ coefficient (row_of rows' i) 16 → b' ≡ b && eqb c 0 → PuttingAll p rows' (i + 1) n l' b' end
    unfolding put_all
    all_next {l'} {b'} hl el ec eb =
        let made : Put → Basis = λ c. record { places = c.places; solvable = b && eqb (constant c.rest) 0 } in
        let e : ◌≡◌ {A = Basis} (record { places = rows_from l' 0 16; solvable = b' }) (made (put p 0 (rows_from l 0 16) (row_of rows i))) =
        ap₂ (λ (ss : List Row) (d : Bool). record { places = ss; solvable = d }) el
        (eb ∙ ap (λ (k : ℕ). b && eqb k 0) (ec ∙ ap (λ (t : Row). coefficient t 16) rest_at)) in
        record {
          places = hl;
          long = all_long;
          left = rw later (each_tail (rw (rows_next rows i n m) at h.left));
          ends = ap₂ (put_all p) later e
              ∙ ap (λ (ss : List Row). put_all p ss (record { places = rows_from l 0 16; solvable = b })) (sym (rows_next rows i n m)) ∙ h.ends;
        }

  pub all_end : n ≤ i → record { places = rows_from l 0 16; solvable = b } ≡ end
  unfolding put_all
  all_end m =
      let e : 0 ≡ n - i = omega arith in
      ap (λ (k : ℕ). put_all p (rows_from rows i k) (record { places = rows_from l 0 16; solvable = b })) e ∙ h.ends
