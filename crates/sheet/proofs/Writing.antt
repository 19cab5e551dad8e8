-- Bytes that are written part after part: `written old i new` is old with new in the place of the bytes from i on.
use Rattle.std.proofs.Common.{ℕ, zero, suc, ◌+◌, ◌-◌, ◌*◌, ◌≤◌, ◌<◌, ◌≡◌, refl, sym, ap, ◌∙◌, List, [], ◌∷◌, ◌++◌, map, length, get_or, set, take, drop}
use Rattle.std.proofs.Common.{append_assoc, append-nil, length-append, take-append-drop, length-take-le, take-suc, take_at, drop_at, drop-drop}
use Rattle.std.proofs.Common.{add-zero, zero-add, mul-le-mul, mul-le-mul_right, add-one, arith}
use Rattle.std.proofs.lemmas.List.{map-append, length-map, set_split}
use borrow.Rule.Slice.PartMut.{put_mid}
use Rattle.meaning.specs.Lists.{Each, each_nil, each_cons}
use Rattle.meaning.specs.Row.{Row, constant}
use Rattle.meaning.specs.Sheet.{Constraint, equal_zero}
use Rattle.meaning.specs.Outcome.{over}
use Rattle.meaning.specs.Bytes.{stride, size_of, number_bytes, numbers_bytes, term_bytes, constraint_bytes, constraints_bytes, sheet_bytes}
use Rattle.meaning.proofs.Bytes.{numbers_bytes_append, constraints_bytes_append, length_number_bytes, length_numbers_bytes, length_term_bytes}
use Rattle.row.specs.Block.{row_of, rows_from}
use Rattle.row.proofs.Blocks.{rows_last, length_row, length_rows}
use Rattle.sheet.specs.Bytes.{written}
use Rattle.sheet.specs.Work.{constraint_of, constraints_of}
use Rattle.sheet.specs.declared.constraint.Constraint.{Constraint as Held}
use Rattle.sheet.proofs.Outcomes.{other_at, others_from}

-- ---- sizes

pub size_mono : (n i m : ℕ) → i ≤ m → size_of n i ≤ size_of n m
size_mono n i m h = omega (arith, mul-le-mul_right (stride n) h)

-- so that it has room in 32 bits
pub size_small : (n m : ℕ) → n ≤ 16 → m ≤ 48 → size_of n m ≤ size_of 16 48
size_small n m hn hm =
    let one : stride n ≤ stride 16 = omega arith in
    omega (arith, mul-le-mul hm one)

-- ---- what is written

pub written_none : (old : List ℕ) (i : ℕ) → written old i [] ≡ old
written_none old i = rw add-zero (take-append-drop i old)

written_one : (old : List ℕ) (i v : ℕ) → i < length old → set old i v ≡ written old i (v ∷ [])
written_one old i v h = rw add-one (set_split old i v h)

-- as a part of the slice is written
pub put_written : (old : List ℕ) (i k : ℕ) (new : List ℕ) → k ≡ length new → put_mid i k old new ≡ written old i new
put_written old i k new e = rw (e, drop-drop (length new) i old)

-- one part and the next
pub IsWritten-then
    : (old : List ℕ) (i : ℕ) (a : List ℕ) (j : ℕ) (b : List ℕ) {l m : List ℕ} → i ≤ length old → j ≡ i + length a
    → l ≡ written old i a → m ≡ written l j b → m ≡ written old i (a ++ b)
IsWritten-then old i a j b {l} {m} h e f g =
    let p : List ℕ = take i old ++ a in
    let q : List ℕ = drop (i + length a) old in
    let n : length p ≡ j = rw length-append (omega (arith, length-take-le i old h)) in
    let s : l ≡ p ++ q = f ∙ sym (append_assoc (take i old) a q) in
    let t : take j l ≡ p = rw s (take_at p q j n) in
    let d : drop j l ≡ q = rw s (drop_at p q j n) in
    let k : i + length a + length b ≡ i + length (a ++ b) = rw length-append (omega arith) in
    let u : drop (length b) q ≡ drop (i + length (a ++ b)) old = rw (← k) (drop-drop (length b) (i + length a) old) in
    let v : drop (j + length b) l ≡ drop (i + length (a ++ b)) old = rw (← drop-drop (length b) j l, d) u in
    rw (g, t, v, append_assoc (take i old) a, append_assoc)

-- ---- terms

length_numbers : (r : Row) (k : ℕ) → k ≤ length r → length (numbers_bytes (take k r)) ≡ 4 * k
length_numbers r k h = omega (arith, length_numbers_bytes (take k r), length-take-le k r h)

numbers_snoc : (r : Row) (k : ℕ) → k < length r → numbers_bytes (take (k + 1) r) ≡ numbers_bytes (take k r) ++ number_bytes (get_or r k 0)
unfolding numbers_bytes
numbers_snoc r k h = rw (add-one, take-suc r k 0 h, numbers_bytes_append (take k r) (get_or r k 0 ∷ []), append-nil)

-- one number more
pub number_more
    : (old : List ℕ) (i : ℕ) (r : Row) (k : ℕ) {l m : List ℕ} → i ≤ length old → k < length r
    → l ≡ written old i (numbers_bytes (take k r)) → m ≡ written l (i + 4 * k) (number_bytes (get_or r k 0))
    → m ≡ written old i (numbers_bytes (take (k + 1) r))
number_more old i r k h b f g =
    let z : i + 4 * k ≡ i + length (numbers_bytes (take k r)) = omega (arith, length_numbers r k (omega arith)) in
    rw (numbers_snoc r k b) (IsWritten-then old i (numbers_bytes (take k r)) (i + 4 * k) (number_bytes (get_or r k 0)) h z f g)

pub term_written
    : (old : List ℕ) (i n : ℕ) (r : Row) {l m : List ℕ} → i ≤ length old → n ≤ length r
    → l ≡ written old i (numbers_bytes (take n r)) → m ≡ written l (i + 4 * n) (number_bytes (constant r))
    → m ≡ written old i (term_bytes n r)
unfolding term_bytes
term_written old i n r h b f g =
    let z : i + 4 * n ≡ i + length (numbers_bytes (take n r)) = omega (arith, length_numbers r n b) in
    IsWritten-then old i (numbers_bytes (take n r)) (i + 4 * n) (number_bytes (constant r)) h z f g

-- ---- constraints

pub constraint_written
    : (old : List ℕ) (i n : ℕ) (c : Constraint) {l m : List ℕ} → i < length old → length (term_bytes n c.left) ≡ 4 * (n + 1)
    → l ≡ written (set old i c.kind) (i + 1) (term_bytes n c.left)
    → m ≡ written l (i + 1 + 4 * (n + 1)) (term_bytes n c.right) → m ≡ written old i (constraint_bytes n c)
unfolding constraint_bytes
constraint_written old i n c h t f g =
    let a : List ℕ = term_bytes n c.left in
    let b : List ℕ = term_bytes n c.right in
    let z : i + 1 + 4 * (n + 1) ≡ i + length (c.kind ∷ a) = omega (arith, t) in
    let front = IsWritten-then old i (c.kind ∷ []) (i + 1) a (omega arith) refl (written_one old i c.kind h) f in
    IsWritten-then old i (c.kind ∷ a) (i + 1 + 4 * (n + 1)) b (omega arith) z front g

pub length_constraint
    : (n : ℕ) (c : Constraint) → length (term_bytes n c.left) ≡ 4 * (n + 1) → length (term_bytes n c.right) ≡ 4 * (n + 1)
    → length (constraint_bytes n c) ≡ stride n
unfolding constraint_bytes
length_constraint n c s t = rw length-append (omega (arith, s, t))

-- ---- constraints, one after the other

-- k constraints, of a stride each
pub record Strides (n k : ℕ) (cs : List Constraint) : Type 0 where
  pub many : length cs ≡ k
  pub size : length (constraints_bytes n cs) ≡ k * stride n

pub no_strides : (n : ℕ) → Strides n 0 []
unfolding constraints_bytes
no_strides n = record { many = refl; size = omega arith }

pub more_strides
    : {n k : ℕ} {cs : List Constraint} (c : Constraint) → length (constraint_bytes n c) ≡ stride n → Strides n k cs → Strides n (k + 1) (cs ++ (c ∷ []))
unfolding constraints_bytes
more_strides {n} {k} {cs} c t h =
    let l : length (constraint_bytes n c ++ []) ≡ stride n = rw append-nil t in
    record {
      many = rw length-append (omega (arith, h.many));
      size = rw (constraints_bytes_append n cs (c ∷ []), length-append) (omega (arith, h.size, l));
    }

-- old with the first k constraints in the place of the bytes from i on
pub record Laid (old : List ℕ) (i n k : ℕ) (cs : List Constraint) (l : List ℕ) : Type 0 where
  pub bytes : l ≡ written old i (constraints_bytes n cs)
  pub strides : Strides n k cs

pub laid_none : (old : List ℕ) (i n : ℕ) → Laid old i n 0 [] old
unfolding constraints_bytes
laid_none old i n = record { bytes = sym (written_none old i); strides = no_strides n }

-- and one more
pub laid_more
    : {old : List ℕ} {i n k : ℕ} {cs ds : List Constraint} (c : Constraint) (j : ℕ) {l m : List ℕ} → i ≤ length old
    → Laid old i n k cs l → ds ≡ cs ++ (c ∷ []) → j ≡ i + k * stride n → length (constraint_bytes n c) ≡ stride n
    → m ≡ written l j (constraint_bytes n c) → Laid old i n (k + 1) ds m
unfolding constraints_bytes
laid_more {old} {i} {n} {cs = cs} c j h a d e t b =
    let z : j ≡ i + length (constraints_bytes n cs) = omega (arith, a.strides.size) in
    let one = IsWritten-then old i (constraints_bytes n cs) j (constraint_bytes n c) h z a.bytes b in
    record {
      bytes = rw (d, constraints_bytes_append n cs (c ∷ []), append-nil) one;
      strides = rw d (more_strides c t a.strides);
    }

pub equalities_next
    : (l : List ℕ) (k : ℕ) → map equal_zero (rows_from l 0 (k + 1)) ≡ map equal_zero (rows_from l 0 k) ++ (equal_zero (row_of l k) ∷ [])
equalities_next l k =
    let last = rw zero-add at (rows_last l 0 k) in
    rw (add-one k) (ap (map equal_zero) last ∙ map-append equal_zero (rows_from l 0 k) (row_of l k ∷ []))

pub others_next
    : (os : List Held) (k : ℕ) (d : Held) → k < length os
    → constraints_of (take (k + 1) os) ≡ constraints_of (take k os) ++ (constraint_of (get_or os k d) ∷ [])
others_next os k d h = rw (add-one, take-suc os k d h) (map-append constraint_of (take k os) (get_or os k d ∷ []))

-- ---- a sheet

-- both sides have the n words of the sheet
pub record Reaches (n : ℕ) (c : Constraint) : Type 0 where
  pub left : n ≤ length c.left
  pub right : n ≤ length c.right

-- constraints that have are of a stride each
each_strides : (n : ℕ) {cs : List Constraint} → Each (Reaches n) cs → Strides n (length cs) cs
unfolding constraints_bytes
each_strides n each_nil = record { many = refl; size = omega arith }
each_strides n (each_cons {x = c} {xs = cs} t ts) =
    let rest = each_strides n ts in
    let one = length_constraint n c (length_term_bytes n c.left t.left) (length_term_bytes n c.right t.right) in
    record { many = refl; size = rw length-append (omega (arith, one, rest.size)) }

equalities_reach : (l : List ℕ) (n i k : ℕ) → n ≤ 16 → (i + k) * 17 ≤ length l → Each (Reaches n) (map equal_zero (rows_from l i k))
equalities_reach l n i zero h b = each_nil
equalities_reach l n i (suc k) h b =
    let c : Reaches n (equal_zero (row_of l i)) = record { left = omega (arith, length_row l i (omega arith)); right = omega arith } in
    each_cons c (equalities_reach l n (suc i) k h (omega arith))

length_equalities : (l : List ℕ) (k : ℕ) → length (map equal_zero (rows_from l 0 k)) ≡ k
length_equalities l k = length-map (rows_from l 0 k) equal_zero ∙ length_rows l 0 k

pub equalities_strides : (l : List ℕ) (n k : ℕ) → n ≤ 16 → k * 17 ≤ length l → Strides n k (map equal_zero (rows_from l 0 k))
equalities_strides l n k h b =
    let all = each_strides n (equalities_reach l n 0 k h (omega arith)) in
    let many = length_equalities l k in
    record { many = many; size = rw many at all.size }

-- the same of others in blocks
others_reach : (kinds sides : List ℕ) (n i k : ℕ) → n ≤ 16 → (i + k) * 34 ≤ length sides → Each (Reaches n) (others_from kinds sides i k)
others_reach kinds sides n i zero h b = each_nil
others_reach kinds sides n i (suc k) h b =
    let c : Reaches n (other_at kinds sides i) =
    record { left = omega (arith, length_row sides (2 * i) (omega arith)); right = omega (arith, length_row sides (2 * i + 1) (omega arith)) } in
    each_cons c (others_reach kinds sides n (suc i) k h (omega arith))

length_others : (kinds sides : List ℕ) (i k : ℕ) → length (others_from kinds sides i k) ≡ k
length_others kinds sides i zero = refl
length_others kinds sides i (suc k) = ap suc (length_others kinds sides (suc i) k)

pub others_strides
    : (kinds sides : List ℕ) (n k : ℕ) → n ≤ 16 → k * 34 ≤ length sides → Strides n k (others_from kinds sides 0 k)
others_strides kinds sides n k h b =
    let all = each_strides n (others_reach kinds sides n 0 k h (omega arith)) in
    let many = length_others kinds sides 0 k in
    record { many = many; size = rw many at all.size }

-- and of equalities, and of others, whose bytes are as long as the call that wrote them says
pub put_rows_strides
    : (l : List ℕ) (n k : ℕ) → length (constraints_bytes n (map equal_zero (rows_from l 0 k))) ≡ k * stride n
    → Strides n k (map equal_zero (rows_from l 0 k))
put_rows_strides l n k h = record { many = length_equalities l k; size = h }

pub put_strides
    : (os : List Held) (n : ℕ) → length (constraints_bytes n (constraints_of os)) ≡ length os * stride n → Strides n (length os) (constraints_of os)
put_strides os n h = record { many = length-map os constraint_of; size = h }

-- the eight bytes at the front of a sheet of m constraints
abbrev front : ℕ → ℕ → ℕ → List ℕ
front p n m = number_bytes (size_of n m - 4) ++ (1 ∷ p ∷ n ∷ m ∷ [])

module _ (p n : ℕ) {e o : ℕ} {cs ds : List Constraint} (he : Strides n e cs) (ho : Strides n o ds) where
  sheet_parts
      : sheet_bytes (record { width = p; words = n; constraints = cs ++ ds })
      ≡ front p n (e + o) ++ constraints_bytes n cs ++ constraints_bytes n ds
  unfolding sheet_bytes
  sheet_parts =
      let l : length (cs ++ ds) ≡ e + o = rw length-append (omega arith) in
      rw (l, constraints_bytes_append n cs ds, append_assoc (front p n (e + o)), append_assoc)

  pub length_sheet : length (sheet_bytes (record { width = p; words = n; constraints = cs ++ ds })) ≡ size_of n (e + o)
  length_sheet = rw sheet_parts (simp length-append (omega (arith, length_number_bytes (size_of n (e + o) - 4))))

  -- its length, the other bytes of the front, and both lists of constraints, one after the other from the front on
  pub sheet_written
      : (old : List ℕ) {s : ℕ} {a b c d : List ℕ} → 8 ≤ length old → s ≡ size_of n (e + o) → a ≡ written old 0 (number_bytes (s - 4))
      → b ≡ written a 4 (1 ∷ p ∷ n ∷ (e + o) ∷ []) → c ≡ written b 8 (constraints_bytes n cs)
      → d ≡ written c (size_of n e) (constraints_bytes n ds)
      → d ≡ over (sheet_bytes (record { width = p; words = n; constraints = cs ++ ds })) old
  sheet_written old {s} h es ea eb ec ed =
      let x : List ℕ = number_bytes (size_of n (e + o) - 4) in
      let y : List ℕ = 1 ∷ p ∷ n ∷ (e + o) ∷ [] in
      let z : List ℕ = constraints_bytes n cs in
      let lx : length x ≡ 4 = length_number_bytes (size_of n (e + o) - 4) in
      let ly : length (x ++ y) ≡ 8 = rw length-append (omega arith) in
      let lz : length (x ++ y ++ z) ≡ size_of n e = rw length-append (omega arith) in
      let two = IsWritten-then old 0 x 4 y (omega arith) (omega arith) (rw es at ea) eb in
      let three = IsWritten-then old 0 (x ++ y) 8 z (omega arith) (omega arith) two ec in
      let four = IsWritten-then old 0 (x ++ y ++ z) (size_of n e) (constraints_bytes n ds) (omega arith) (omega arith) three ed in
      rw sheet_parts (rw zero-add at four)
