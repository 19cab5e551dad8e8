-- Laws of the rows of a block of any length.
use Rattle.std.proofs.Common.{◌≡◌, ◌≢◌, ℕ, zero, suc, ◌+◌, ◌-◌, ◌*◌, ◌≤◌, ◌<◌, List, [], ◌∷◌, ◌++◌, length, get_or, set, drop, refl, sym, ap, ap₂, ◌∙◌, add-zero, zero-add, add-one, take-add, take-append-drop, get_or-take, get_or-drop, take_at, drop_at, drop-drop, take_all, append_assoc, arith}
use Rattle.std.proofs.Math.Decide.{dec_lt}
use Rattle.std.proofs.Math.Seq.{paste}
use Rattle.std.proofs.lemmas.Grind.{common_steps}
use Rattle.std.proofs.lemmas.List.{ext_get_or}
use Rattle.meaning.specs.Lists.{Each}
use Rattle.meaning.specs.Row.{Row, zero_row}
use Rattle.meaning.proofs.Members.{each_get}
use Rattle.row.specs.Block.{row_of, put_row, rows_from}
use Rattle.row.proofs.Copies.{past, front, copied}

pub length_row : (l : List ℕ) (i : ℕ) → (i + 1) * 17 ≤ length l → length (row_of l i) ≡ 17
length_row l i h = grind (arith, common_steps)

pub get_or_row : (l : List ℕ) (i x : ℕ) → x < 17 → get_or (row_of l i) x 0 ≡ get_or l (i * 17 + x) 0
get_or_row l i x h = get_or-take 17 (drop (i * 17) l) x 0 h ∙ get_or-drop (i * 17) l x 0

-- ---- the rows from a place on, as a list

pub length_rows : (l : List ℕ) (i n : ℕ) → length (rows_from l i n) ≡ n
length_rows l i zero = refl
length_rows l i (suc n) = ap suc (length_rows l (suc i) n)

get_or_rows : (l : List ℕ) (i n j : ℕ) (d : Row) → j < n → get_or (rows_from l i n) j d ≡ row_of l (i + j)
get_or_rows l i zero j d h = absurd (let z : ⊥ = omega arith in z)
get_or_rows l i (suc n) zero d h = ap (row_of l) (sym (add-zero i))
get_or_rows l i (suc n) (suc j) d h =
    let e : suc i + j ≡ i + suc j = omega arith in
    get_or_rows l (suc i) n j d (omega arith) ∙ ap (row_of l) e

-- of the first n, row i is the one at i, and has what each has
pub row_at : (l : List ℕ) {n i : ℕ} → i < n → get_or (rows_from l 0 n) i zero_row ≡ row_of l i
row_at l {n} {i} b = get_or_rows l 0 n i zero_row b ∙ ap (row_of l) (zero-add i)

pub row_is : {P : Row → Type 0} (l : List ℕ) {n i : ℕ} {r : Row} → Each P (rows_from l 0 n) → i < n → r ≡ row_of l i → P r
row_is l {n} {i} h b e = rw (e, ← row_at l b) (each_get i zero_row (rw (length_rows l 0 n) b) h)

-- the first of them, and the last
pub rows_next : (l : List ℕ) (i n : ℕ) → i < n → rows_from l i (n - i) ≡ row_of l i ∷ rows_from l (i + 1) (n - (i + 1))
rows_next l i n h = let e : n - i ≡ suc (n - (i + 1)) = omega arith in rw (e, add-one)

pub rows_last : (l : List ℕ) (k n : ℕ) → rows_from l k (suc n) ≡ rows_from l k n ++ (row_of l (k + n) ∷ [])
rows_last l k zero = ap (λ (j : ℕ). row_of l j ∷ []) (sym (add-zero k))
rows_last l k (suc n) =
    let e : suc k + n ≡ k + suc n = omega arith in
    ap (λ (rs : List Row). row_of l k ∷ rs) (rows_last l (suc k) n ∙ ap (λ (j : ℕ). rows_from l (suc k) n ++ (row_of l j ∷ [])) e)

-- ---- one row before others

module _ (a l : List ℕ) (long : length a ≡ 17) where
  pub row_first : row_of (a ++ l) 0 ≡ a
  row_first = take_at a l 17 long

  pub row_behind : (i : ℕ) → row_of (a ++ l) (suc i) ≡ row_of l i
  row_behind i =
      let f : suc i * 17 ≡ 17 + i * 17 = omega arith in
      rw (f, ← drop-drop (i * 17) 17 (a ++ l), drop_at a l 17 long)

  pub put_first : (r : Row) → length r ≡ 17 → put_row (a ++ l) 0 r ≡ r ++ l
  put_first r h = rw (drop_at a l 17 long, take_all 17 r (omega arith))

  pub put_behind : (i : ℕ) (r : Row) → put_row (a ++ l) (suc i) r ≡ a ++ put_row l i r
  put_behind i r =
      let f : suc i * 17 ≡ 17 + i * 17 = omega arith in
      let g : 17 + i * 17 + 17 ≡ 17 + (i * 17 + 17) = omega arith in
      rw (f, g, take-add 17 (i * 17) (a ++ l), ← drop-drop (i * 17 + 17) 17 (a ++ l), take_at a l 17 long, drop_at a l 17 long, append_assoc a, append_assoc a)

-- ---- rows put

-- a row put where it stands
pub put_own : (l : List ℕ) (i : ℕ) → put_row l i (row_of l i) ≡ l
put_own l i = grind (arith, common_steps, take-add (i * 17) 17 l, take-append-drop (i * 17 + 17) l)

-- ---- after a row is put

module _ (l : List ℕ) (i : ℕ) (r : Row) (fits : (i + 1) * 17 ≤ length l) (long : length r ≡ 17) where
  pub length_put : length (put_row l i r) ≡ length l
  length_put = grind (arith, common_steps)

  -- another in its place
  pub put_put : (s : Row) → put_row (put_row l i r) i s ≡ put_row l i s
  put_put s = grind (arith, common_steps)

  -- it stands in its place
  pub put_same : row_of (put_row l i r) i ≡ r
  put_same = grind (arith, common_steps)

  other : (j x : ℕ) → x < 17 → j ≢ i → Dec (j < i) → get_or (put_row l i r) (j * 17 + x) 0 ≡ get_or l (j * 17 + x) 0
  other j x h ne (yes b) = front l (i * 17) r 17 (omega arith) (omega arith) (j * 17 + x) (omega arith)
  other j x h ne (no b) = past l (i * 17) r 17 (omega arith) (omega arith) (j * 17 + x) (omega arith)

  -- and the other rows are as they were
  pub put_other : (j : ℕ) → (j + 1) * 17 ≤ length l → j ≢ i → row_of (put_row l i r) j ≡ row_of l j
  put_other j h ne =
      let n : length (row_of (put_row l i r) j) ≡ 17 = length_row (put_row l i r) j (omega (arith, length_put)) in
      ext_get_or 0 (row_of (put_row l i r) j) (row_of l j) (n ∙ sym (length_row l j h))
      (λ k m. get_or_row (put_row l i r) j k (omega arith) ∙ other j k (omega arith) ne (dec_lt j i) ∙ sym (get_or_row l j k (omega arith)))

  -- among rows that it is not one of, nothing changes
  pub rows_put_other : (k n : ℕ) → (k + n) * 17 ≤ length l → ((j : ℕ) → k ≤ j → j < k + n → j ≢ i)
      → rows_from (put_row l i r) k n ≡ rows_from l k n
  rows_put_other k zero h ne = refl
  rows_put_other k (suc n) h ne =
      ap₂ ◌∷◌ (put_other k (omega arith) (ne k (omega arith) (omega arith)))
      (rows_put_other (suc k) n (omega arith) (λ j a b. ne j (omega arith) (omega arith)))

  -- and among others it takes its place
  pub rows_put : (k m n : ℕ) → i ≡ k + m → m < n → (k + n) * 17 ≤ length l → rows_from (put_row l i r) k n ≡ set (rows_from l k n) m r
  rows_put k m zero e b h = absurd (let z : ⊥ = omega arith in z)
  rows_put k zero (suc n) e b h =
      let f : k ≡ i = omega arith in
      ap₂ ◌∷◌ (ap (row_of (put_row l i r)) f ∙ put_same) (rows_put_other (suc k) n (omega arith) (λ j a b z. omega arith))
  rows_put k (suc m) (suc n) e b h =
      ap₂ ◌∷◌ (put_other k (omega arith) (λ z. omega arith)) (rows_put (suc k) m n (omega arith) (omega arith) (omega arith))

-- ---- rows that are copied number by number

module _ (d s : List ℕ) (n : ℕ) (hd : n ≤ length d) (hs : n ≤ length s) where
  row_copied : (k : ℕ) → (k + 1) * 17 ≤ n → row_of (paste d 0 s n) k ≡ row_of s k
  row_copied k b =
      let lp : length (paste d 0 s n) ≡ length d = grind (arith, common_steps) in
      let l : length (row_of (paste d 0 s n) k) ≡ 17 = length_row (paste d 0 s n) k (omega arith) in
      ext_get_or 0 (row_of (paste d 0 s n) k) (row_of s k) (l ∙ sym (length_row s k (omega arith)))
      (λ x m. get_or_row (paste d 0 s n) k x (omega arith) ∙ grind (arith, copied d 0 s n (omega arith) hs (k * 17 + x)) ∙ sym (get_or_row s k x (omega arith)))

  pub rows_copied : (k m : ℕ) → (k + m) * 17 ≤ n → rows_from (paste d 0 s n) k m ≡ rows_from s k m
  rows_copied k zero b = refl
  rows_copied k (suc m) b = ap₂ ◌∷◌ (row_copied k (omega arith)) (rows_copied (suc k) m (omega arith))
