-- Rows that are tidied alone: which are none to tidy, and what becomes of the block.
use Rattle.std.proofs.Common.{◌≡◌, refl, sym, ap, ap₂, ◌∙◌, subst, ◌≢◌, Bool, true, false, List, [], ◌∷◌, ◌++◌, append_assoc, ℕ, zero, suc, ◌+◌, ◌*◌, ◌^◌}
use Rattle.std.proofs.Common.{◌≤◌, ◌<◌, zero-add, replicate, length-take-le}
use Rattle.std.proofs.Common.{arith, leb, length, take, drop, pow_pos}
use Rattle.std.proofs.Common.{take-add, drop-drop, ltb-false, leb-false, eqb-true}
use Rattle.std.proofs.Math.Seq.{paste}
use Rattle.std.proofs.lemmas.Bool.{eqb-false}
use Rattle.std.proofs.lemmas.List.{length-replicate}
use borrow.Author.Tests.{not-false}
use Rattle.meaning.specs.Lists.{Each, each_nil, each_cons}
use Rattle.meaning.specs.Row.{Row, IsRow}
use Rattle.meaning.specs.Tidy.{tidy}
use Rattle.meaning.specs.Outcome.{over}
use Rattle.meaning.proofs.Tests.{neither}
use Rattle.meaning.proofs.Members.{each_at, none_each}
use Rattle.meaning.proofs.Tidying.{tidy_work}
use Rattle.row.specs.Block.{row_of, rows_from}
use Rattle.row.proofs.Blocks.{length_row, length_rows, row_first, row_behind, rows_copied}
use Rattle.sheet.specs.declared.constraint.Constraint.{Constraint as Held}
use Rattle.sheet.specs.Work.{sheet_work}
use Rattle.sheet.specs.Working.{IsWidth, IsWorking}
use Rattle.sheet.specs.declared.Sheet.{Sheet}
use Rattle.hide.specs.Alone.{Tidied, bad_rows, flat, tidied_by, tidied_rows}

-- ---- rows that are to be tidied, and others

pub bad_tidied : (rows : List ℕ) (eqs p : ℕ) → bad_rows rows eqs p ≡ true
    → ◌≡◌ {A = Tidied} (record { answer = 255; rows = rows }) (tidied_rows rows eqs p)
unfolding tidied_rows tidied_by
bad_tidied rows eqs p b = sym (ap (λ (t : Bool). tidied_by t rows eqs p) b)

pub record GoodRows (rows : List ℕ) (eqs p : ℕ) : Type 0 where
  pub long : length rows ≡ 544
  pub few : eqs ≤ 32
  pub width : IsWidth p
  pub small : Each (λ x. x < 2 ^ p) (take (eqs * 17) rows)

not_zero : {p : ℕ} → p ≢ 0 → 1 ≤ p
not_zero h = omega arith

pub good_rows : (rows : List ℕ) (eqs p : ℕ) → bad_rows rows eqs p ≡ false → GoodRows rows eqs p
unfolding bad_rows
good_rows rows eqs p e =
    let a = neither _ _ e in
    let b = neither _ _ a.1 in
    let c = neither _ _ b.1 in
    let d = neither _ _ c.1 in
    record {
      long = eqb-true (length rows) 544 (not-false _ a.0);
      few = ltb-false 32 eqs b.0;
      width = record { some = not_zero (eqb-false p 0 c.0); most = ltb-false 32 p d.0 };
      small = none_each (leb (2 ^ p)) (leb-false (2 ^ p)) (take (eqs * 17) rows) d.1;
    }

-- the numbers of the rows of a block
flat_rows : (l : List ℕ) (i n : ℕ) → flat (rows_from l i n) ≡ take (n * 17) (drop (i * 17) l)
flat_rows l i zero = refl
flat_rows l i (suc n) =
    let d : List ℕ = drop (i * 17) l in
    let e : suc i * 17 ≡ i * 17 + 17 = omega arith in
    let f : 17 + n * 17 ≡ suc n * 17 = omega arith in
    let g : take (n * 17) (drop (suc i * 17) l) ≡ take (n * 17) (drop 17 d) = rw (e, drop-drop 17 (i * 17) l) in
    ap (◌++◌ (row_of l i)) (flat_rows l (suc i) n ∙ g) ∙ sym (take-add 17 (n * 17) d) ∙ ap (λ (k : ℕ). take k d) f

each_parts : {P : ℕ → Type 0} (xs : List ℕ) {ys : List ℕ} → Each P (xs ++ ys) → Each P xs × Each P ys
each_parts [] h = (each_nil, h)
each_parts (x ∷ xs) (each_cons h hs) = let r = each_parts xs hs in (each_cons h r.0, r.1)

rows_are : (p : ℕ) (l : List ℕ) (i n : ℕ) → (i + n) * 17 ≤ length l → Each (λ x. x < 2 ^ p) (flat (rows_from l i n))
    → Each (IsRow p) (rows_from l i n)
rows_are p l i zero h s = each_nil
rows_are p l i (suc n) h s =
    let q : Each (λ x. x < 2 ^ p) (row_of l i) × Each (λ x. x < 2 ^ p) (flat (rows_from l (suc i) n)) = each_parts (row_of l i) s in
    let r : IsRow p (row_of l i) = record { long = length_row l i (omega arith); small = each_at {P = λ x. x < 2 ^ p} q.0 (pow_pos p) } in
    each_cons r (rows_are p l (suc i) n (omega arith) q.1)

good_is : (rows : List ℕ) (eqs p : ℕ) → GoodRows rows eqs p → Each (IsRow p) (rows_from rows 0 eqs)
good_is rows eqs p g = rows_are p rows 0 eqs (omega (arith, g.few, g.long)) (rw (flat_rows rows 0 eqs) g.small)

-- the sheet of the block can be worked on
pub good_working : (rows : List ℕ) (eqs p n : ℕ) (os : List Held) → GoodRows rows eqs p
    → IsWorking (record { width = p; words = n; equalities = record { rows = rows; count = eqs }; others = record { places = os; count = 0 } })
good_working rows eqs p n os g =
    record { width = g.width; few_eqs = g.few; few_others = omega arith; work = record { rows = good_is rows eqs p g; sides = each_nil } }

-- and what is copied back from the sheet afterwards
pub tidied_back : (rows : List ℕ) (eqs p : ℕ) (s : Sheet) → bad_rows rows eqs p ≡ false
    → length (take (s.equalities.count * 17) s.equalities.rows) ≡ s.equalities.count * 17
    → sheet_work s ≡ tidy p (record { eqs = rows_from rows 0 eqs; others = [] })
    → let n : ℕ = s.equalities.count * 17 in
    ◌≡◌ {A = Tidied} (record { answer = s.equalities.count; rows = take n s.equalities.rows ++ drop n rows }) (tidied_rows rows eqs p)
unfolding tidied_rows tidied_by
tidied_back rows eqs p s b l w =
    let n : ℕ = s.equalities.count * 17 in
    let k : length (rows_from s.equalities.rows 0 s.equalities.count) ≡ s.equalities.count = length_rows s.equalities.rows 0 s.equalities.count in
    let f : flat (rows_from s.equalities.rows 0 s.equalities.count) ≡ take n s.equalities.rows = flat_rows s.equalities.rows 0 s.equalities.count in
    rw (b, ← w, k, f, l)

-- ---- the same for rows that are copied into a block of zeros, tidied there and copied back

abbrev blank : ℕ → List ℕ
blank n = replicate n 0

length_blank : (n : ℕ) → length (replicate {A = ℕ} n 0) ≡ n
length_blank n = length-replicate n 0

-- the copies are the rows
rows_kept : (rows : List ℕ) (eqs : ℕ) {p : ℕ} → GoodRows rows eqs p
    → rows_from (paste (blank 544) 0 rows (eqs * 17)) 0 eqs ≡ rows_from rows 0 eqs
rows_kept rows eqs g =
    rows_copied (blank 544) rows (eqs * 17) (omega (arith, length_blank 544, g.few)) (omega (arith, g.few, g.long)) 0 eqs (omega arith)

-- so what is copied back of the tidied block is what the definition says
pub tidied_rows_lem : (rows : List ℕ) (eqs p : ℕ) (next : List ℕ) {block out : List ℕ} {n : ℕ} → GoodRows rows eqs p
    → bad_rows rows eqs p ≡ false → block ≡ paste (replicate 544 0) 0 rows (eqs * 17) → length next ≡ 544 → n ≤ 16
    → rows_from next 0 n ≡ (tidy p (record { eqs = rows_from block 0 eqs; others = [] })).eqs → out ≡ paste rows 0 next (n * 17)
    → ◌≡◌ {A = Tidied} (record { answer = n; rows = out }) (tidied_rows rows eqs p)
unfolding tidied_rows tidied_by
tidied_rows_lem rows eqs p next {block} {out} {n} g b e ln few w eo =
    ap₂ (λ (k : ℕ) (l : List ℕ). record { answer = k; rows = l }) (sym (length_rows next 0 n) ∙ ap length is) written
    ∙ sym (ap (λ (t : Bool). tidied_by t rows eqs p) b)
  where
    is : rows_from next 0 n ≡ (tidy p (record { eqs = rows_from rows 0 eqs; others = [] })).eqs
    is =
        let kept : rows_from block 0 eqs ≡ rows_from rows 0 eqs = ap (λ (l : List ℕ). rows_from l 0 eqs) e ∙ rows_kept rows eqs g in
        w ∙ ap (λ (v : List Row). (tidy p (record { eqs = v; others = [] })).eqs) kept

    numbers : flat (tidy p (record { eqs = rows_from rows 0 eqs; others = [] })).eqs ≡ take (n * 17) next
    numbers = ap flat (sym is) ∙ flat_rows next 0 n

    written : out ≡ over (flat (tidy p (record { eqs = rows_from rows 0 eqs; others = [] })).eqs) rows
    written =
        let l : length (take (n * 17) next) ≡ n * 17 = length-take-le (n * 17) next (omega arith) in
        rw (numbers, l) (eo ∙ ap (λ (k : ℕ). take (n * 17) next ++ drop k rows) (zero-add (n * 17)))

-- ---- what stands at the front of the block afterwards

rows_behind : (r l : List ℕ) (i n : ℕ) → length r ≡ 17 → rows_from (r ++ l) (suc i) n ≡ rows_from l i n
rows_behind r l i zero e = refl
rows_behind r l i (suc n) e = ap₂ ◌∷◌ (row_behind r l e i) (rows_behind r l (suc i) n e)

flat_front : {p : ℕ} {rs : List Row} (l : List ℕ) → Each (IsRow p) rs → rows_from (flat rs ++ l) 0 (length rs) ≡ rs
flat_front l each_nil = refl
flat_front l (each_cons {x = r} {xs = rs} h hs) =
    let rest : rows_from (r ++ (flat rs ++ l)) 1 (length rs) ≡ rs = rows_behind r (flat rs ++ l) 0 (length rs) h.long ∙ flat_front l hs in
    let whole = ap₂ ◌∷◌ (row_first r (flat rs ++ l) h.long) rest in
    subst (λ (b : List ℕ). rows_from b 0 (length (r ∷ rs)) ≡ r ∷ rs) (sym (append_assoc r (flat rs) l)) whole

pub tidied_front : (rows : List ℕ) (eqs p : ℕ) → bad_rows rows eqs p ≡ false
    → rows_from (tidied_rows rows eqs p).rows 0 (tidied_rows rows eqs p).answer ≡ (tidy p (record { eqs = rows_from rows 0 eqs; others = [] })).eqs
unfolding tidied_rows tidied_by
tidied_front rows eqs p b =
    let g : GoodRows rows eqs p = good_rows rows eqs p b in
    let r : Each (IsRow p) (rows_from rows 0 eqs) = good_is rows eqs p g in
    rw b (flat_front _ (tidy_work g.width.some (record { rows = r; sides = each_nil })).rows)
