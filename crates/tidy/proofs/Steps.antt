-- What the steps of tidying come to: the sheet holds the tidied work, and it is a working sheet again.
use Rattle.std.proofs.Common.{ℕ, zero, suc, ◌≤◌, ◌≡◌, refl, sym, ap, ap₂, ◌∙◌, ◌⊎◌, inl, inr, arith}
use Rattle.std.proofs.Common.{Bool, true, false, not, ◌&&◌, List, [], ◌∷◌, length, replicate}
use Rattle.meaning.specs.Lists.{Each, each_nil, each_cons, any_of}
use Rattle.meaning.specs.Row.{Row, IsRow, zero_row, one_row}
use Rattle.meaning.specs.Sheet.{Constraint, Work}
use Rattle.meaning.specs.Tidy.{Basis, put_all, reduced, filled, refuted, kept, tidy_by, tidy}
use Rattle.meaning.proofs.Kept.{kept_each}
use Rattle.tidy.specs.Blocks.{basis_of}
use Rattle.tidy.proofs.Places.{IsPlaces}
use Rattle.meaning.proofs.Tidying.{one_row_lem, filled_each}
use Rattle.meaning.proofs.Value.{zero_row_lem}
use Rattle.row.specs.Block.{put_row, rows_from}
use Rattle.row.proofs.Blocks.{put_same}
use Rattle.sheet.specs.Work.{constraints_of, equalities_of, sheet_work}
use Rattle.sheet.specs.Working.{IsWorking}
use Rattle.sheet.specs.declared.Sheet.{Sheet}
use Rattle.sheet.specs.declared.others.Others.{Others}
use Rattle.sheet.specs.Others.{others_of}

-- ---- rows

zero_rows : (p n : ℕ) → Each (IsRow p) (replicate n zero_row)
zero_rows p zero = each_nil
zero_rows p (suc n) = each_cons (zero_row_lem p) (zero_rows p n)

-- a block of zeros has the places of the empty basis
pub blank_places : (p : ℕ) → IsPlaces p (replicate 272 0)
blank_places p = record { long = omega arith; rows = zero_rows p 16 }

-- ---- the two ends

either : {b c : Bool} → (b ≡ false) ⊎ (c ≡ true) → (b && not c) ≡ false
either (inl e) = rw e
either {b = true} (inr e) = rw e
either {b = false} (inr e) = refl

-- s with these rows and others
abbrev pub with_work : Sheet → List ℕ → ℕ → Others → Sheet
with_work s rows n os =
    record { width = s.width; words = s.words; equalities = record { rows = rows; count = n }; others = os }

-- what is ensured of t then
abbrev pub Tidied : Sheet → Sheet → Type 0
Tidied s t = IsWorking t × (sheet_work t ≡ tidy s.width (sheet_work s))

-- all rows are put into the empty basis: its places then are ss, and `solvable` says whether the rows have a solution
module _ {s : Sheet} (h : IsWorking s) {p : ℕ} {blank : List ℕ} (width : p ≡ s.width) (zeros : blank ≡ replicate 272 0) {ss : List Row} {solvable : Bool}
    (places : ss ≡ (put_all p (equalities_of s.equalities) (basis_of blank)).places)
    (answer : solvable ≡ (put_all p (equalities_of s.equalities) (basis_of blank)).solvable) where
  abbrev refuses : Bool
  refuses = any_of refuted (constraints_of (others_of s.others))

  tidy_by_lem : {b : Bool} → (solvable && not refuses) ≡ b → tidy_by b s.width ss (constraints_of (others_of s.others)) ≡ tidy s.width (sheet_work s)
  unfolding tidy
  tidy_by_lem e =
      let made : List Row → Bool → Work = λ ss b. tidy_by (b && not refuses) s.width ss (constraints_of (others_of s.others)) in
      let put = ap₂ (λ (p : ℕ) (l : List ℕ). put_all p (equalities_of s.equalities) (basis_of l)) width zeros in
      ap (λ (b : Bool). tidy_by b s.width ss (constraints_of (others_of s.others))) (sym e) ∙ ap₂ made places answer
      ∙ ap (λ (b : Basis). made b.places b.solvable) put

  -- they have none, or an other is refuted: 1 = 0 is put into their block, which is used up
  pub tidied_false : (used : List ℕ) {rows : List ℕ} {os : Others} → (solvable ≡ false) ⊎ (refuses ≡ true)
      → length used ≡ 544 → rows ≡ put_row used 0 one_row → os.count ≡ 0 → Tidied s (with_work s rows 1 os)
  unfolding tidy_by
  tidied_false used {rows} {os} fails long put none =
      let fits : 17 ≤ length used = omega arith in
      let one : rows_from rows 0 1 ≡ one_row ∷ [] = rw put (ap (λ (r : Row). r ∷ []) (put_same used 0 one_row fits refl)) in
      rw none (
        record {
          width = h.width;
          few_eqs = omega arith;
          few_others = omega arith;
          work = record { rows = rw one (each_cons (one_row_lem h.width.some) each_nil); sides = each_nil };
        },
        ap (λ (rs : List Row). record { eqs = rs; others = [] }) one ∙ tidy_by_lem (either fails),
      )

  -- they have one, and no other is refuted: the places are lowered to those of another block, which are filled in
  pub tidied_true : {places rows : List ℕ} {n : ℕ} {os : Others} → solvable ≡ true → refuses ≡ false
      → IsPlaces s.width places → rows_from places 0 16 ≡ reduced s.width 0 ss
      → n ≤ 16 → rows_from rows 0 n ≡ filled (rows_from places 0 16)
      → constraints_of (others_of os) ≡ kept (constraints_of (others_of s.others)) → os.count ≤ s.others.count → Tidied s (with_work s rows n os)
  unfolding tidy_by
  tidied_true {places} holds none good reduces few fills keeps fewer =
      let test : (solvable && not refuses) ≡ true = rw (holds, none) in (
        record {
          width = h.width;
          few_eqs = omega arith;
          few_others = omega (arith, h.few_others);
          work = record { rows = rw fills (filled_each good.rows); sides = rw keeps (kept_each h.work.sides) };
        },
        ap₂ (λ (rs : List Row) (os : List Constraint). record { eqs = rs; others = os }) (fills ∙ ap filled reduces) keeps ∙ tidy_by_lem test,
      )
