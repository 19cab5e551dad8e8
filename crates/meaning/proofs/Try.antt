-- Trying a word: the sheet then says of the other words exactly what some value of the word makes true.
use mathlib.Core.Path.{◌≡◌, refl, ap, sym, ◌∙◌}
use mathlib.Core.Logic.{◌↔◌, ◌≢◌}
use mathlib.Core.Bool.{Bool, true, false, not, ◌&&◌, or-false, true≢false}
use mathlib.Core.List.{List, [], ◌∷◌, map}
use Prim.Native.Nat.{ℕ, ◌-◌, ◌%◌, ◌^◌, ◌≤◌, ◌<◌}
use native.Mathlib.Omega.{arith}
use native.Mathlib.Nat.{mod-lt, le_of_eq}
use borrow.Author.Tests.{ltb-true, ltb-false, lt-ltb, not-true}
use lib.Dec.{ltb}
use lib.Pow.{pow_pos}
use lib.ListN.{length, get_or, set, length-set, length-map, get_or-map}
use lib.Seq.{get_or-set_same, lt-length-set}
use Rattle.meaning.specs.Lists.{Each, any_of}
use Rattle.meaning.specs.Row.{Row, IsRow, most_words, coefficient, zero_row, scale, unit, row_has}
use Rattle.meaning.specs.Number.{kappa}
use Rattle.meaning.specs.Sheet.{Constraint, Holds, HoldAll, Values, Work, has, occurs, IsOther, IsWork}
use Rattle.meaning.specs.Layers.{chosen, replaced, replaced_in, Layer1, layer1, layer1_by, spare, without, Tried, try, try_by, try_layer1, try_layer2}
use Rattle.meaning.proofs.Turn.{unit_row, unit_power, unit_zero, unit_lacks}
use Rattle.meaning.proofs.Congruence.{◌⊢◌≈◌, ≈mod}
use Rattle.meaning.proofs.Two.{two_down}
use Rattle.meaning.proofs.Value.{scale_row}
use Rattle.meaning.proofs.Working.{IsZero, Solved}
use Rattle.meaning.proofs.Members.{Part, part_all, part_length, part_each, part_map, empty, each_get, each_set, each_unset, each_to, each_both, each_iff, each_map, each_unmap, none_each}
use Rattle.meaning.proofs.Absent.{Lacking, LackingIn, Absent, has_lacking, occurs_absent, absent_occurs}
use Rattle.meaning.proofs.Kept.{without_part, without_lacks}
use Rattle.meaning.proofs.Spare.{spare_finds}
use Rattle.meaning.proofs.Layer1.{zeros_set, hold_all_set, solved_set, scale_lacks, scale_zero, row_unreplaced, replaced_row, replaced_gone, replaced_lacks, replaced_zero, replaced_in_other, replaced_in_unreplaced, replaced_in_lacks, replaced_in_holds, scaled_gone, told_some, told_again, Tells, UnreplacedIn, chosen_law, unchosen_lacks, chosen_some}

-- ---- step 2

abbrev pub kinds : List Constraint → List ℕ
kinds cs = map (λ c. c.kind) cs

-- what it leaves: x is in no row but the chosen one, of which stays what it says of the other words; and a solution of the
-- rows leaves x free but for its value modulo 2^(p − power)
pub record IsLayer1 (p x : ℕ) (w : Work) (l : Layer1) : Type 0 where
  pub power : l.power ≡ (chosen p x w.eqs).power
  pub rows : Each (IsRow p) l.eqs
  pub sides : Each (IsOther p) l.others
  pub gone : Each (Lacking x) l.eqs
  pub unreplaced : Each (UnreplacedIn p x l.power) l.others
  pub absent : (y : ℕ) → y < most_words → Absent y w → Absent y (record { eqs = l.eqs; others = l.others })
  pub many : length l.eqs ≡ length w.eqs
  pub same_kinds : kinds l.others ≡ kinds w.others
  pub keeps : (a : List ℕ) → Values p a → (v : ℕ) → Solved p (set a x v) w → Each (IsZero p a) l.eqs × HoldAll p (set a x v) l.others
  pub frees : (a : List ℕ) → Values p a → Each (IsZero p a) l.eqs
      → (r : ℕ) × ((v : ℕ) → 2 ^ (p - l.power) ⊢ v ≈ r → HoldAll p (set a x v) l.others → Solved p (set a x v) w)

-- the rows once the row t, which stood at that place, is replaced by 2^(p−k) × t
abbrev rows_after : ℕ → ℕ → ℕ → ℕ → Row → List Row → List Row
rows_after p x k at t rs = set (map (replaced p x k t) rs) at (scale p (2 ^ (p - k)) t)

-- an equality has x: t tells what 2^k × x is, it is zero just where the row at that place is, and k is least
module _ {p x k : ℕ} {t : Row} (tells : Tells p x k t) {w : Work} (hw : IsWork p w) (at : ℕ) where
  rows_row : Each (IsRow p) (rows_after p x k at t w.eqs)
  rows_row = each_set at _ (scale_row _ tells.row) (each_map (replaced p x k t) (each_to (λ r. replaced_row tells) hw.rows))

  rows_gone : Each (λ r. k ≤ kappa p (coefficient r x)) w.eqs → Each (Lacking x) (rows_after p x k at t w.eqs)
  rows_gone least =
      each_set at _ (scaled_gone tells) (each_map (replaced p x k t) (each_both (λ r. replaced_gone tells) hw.rows least))

  rows_lack : {y : ℕ} → y < most_words → Lacking y t → Each (Lacking y) w.eqs → Each (Lacking y) (rows_after p x k at t w.eqs)
  rows_lack l ht hs =
      each_set at _ (scale_lacks _ tells.row l ht)
      (each_map (replaced p x k t) (each_both (λ r h. replaced_lacks tells h l ht) hw.rows hs))

  -- at values where t is zero
  module _ {b : List ℕ} (z : IsZero p b t) where
    replaced_zeros : Each (IsZero p b) (map (replaced p x k t) w.eqs) ↔ Each (IsZero p b) w.eqs
    replaced_zeros =
        let e : Each (λ r. IsZero p b (replaced p x k t r)) w.eqs ↔ Each (IsZero p b) w.eqs =
        each_iff (λ r h. replaced_zero tells h z) hw.rows in
        (λ hs. e.0 (each_unmap (replaced p x k t) w.eqs hs), λ hs. each_map (replaced p x k t) (e.1 hs))

    replaced_sides : HoldAll p b (map (replaced_in p x k t) w.others) ↔ HoldAll p b w.others
    replaced_sides =
        let e : Each (λ c. Holds p b (replaced_in p x k t c)) w.others ↔ HoldAll p b w.others =
        each_iff (λ c h. replaced_in_holds tells h z) hw.sides in
        (λ hs. e.0 (each_unmap (replaced_in p x k t) w.others hs), λ hs. each_map (replaced_in p x k t) (e.1 hs))

    rows_zero : Each (IsZero p b) w.eqs → Each (IsZero p b) (rows_after p x k at t w.eqs)
    rows_zero hs = each_set at _ (scale_zero _ z) (replaced_zeros.1 hs)

    -- what stood at the place is zero too
    zero_rows : at < length w.eqs → IsZero p b (get_or w.eqs at zero_row)
        → Each (IsZero p b) (rows_after p x k at t w.eqs) → Each (IsZero p b) w.eqs
    zero_rows l h hs =
        let f : Row → Row = replaced p x k t in
        let g : IsZero p b (get_or (map f w.eqs) at (f zero_row)) =
        rw (get_or-map f w.eqs at zero_row) ((replaced_zero tells (each_get at zero_row l hw.rows) z).1 h) in
        replaced_zeros.0 (each_unset (map f w.eqs) at _ (f zero_row) g hs)

  module _ (inside : at < length w.eqs) (known : (b : List ℕ) → IsZero p b t ↔ IsZero p b (get_or w.eqs at zero_row))
      (gone : Each (Lacking x) (rows_after p x k at t w.eqs)) {a : List ℕ} (ha : Values p a) where
    step_keeps : (v : ℕ) → Solved p (set a x v) w
        → Each (IsZero p a) (rows_after p x k at t w.eqs) × HoldAll p (set a x v) (map (replaced_in p x k t) w.others)
    step_keeps v s =
        let z : IsZero p (set a x v) t = (known _).1 (each_get at zero_row inside s.zeros) in
        ((zeros_set tells.word ha v gone).0 (rows_zero z s.zeros), (replaced_sides z).1 s.hold)

    step_frees : Each (IsZero p a) (rows_after p x k at t w.eqs)
        → (r : ℕ) × ((v : ℕ) → 2 ^ (p - k) ⊢ v ≈ r → HoldAll p (set a x v) (map (replaced_in p x k t) w.others) → Solved p (set a x v) w)
    step_frees zs =
        let rs : List Row = map (replaced p x k t) w.eqs in
        let m : at < length rs = rw (length-map w.eqs (replaced p x k t)) inside in
        let e : get_or (rows_after p x k at t w.eqs) at zero_row ≡ scale p (2 ^ (p - k)) t = get_or-set_same rs at _ zero_row m in
        let s : IsZero p a (scale p (2 ^ (p - k)) t) = rw e at (each_get at zero_row (lt-length-set rs at _ m) zs) in
        let r : (v : ℕ) × (v < 2 ^ p) × IsZero p (set a x v) t = (told_some tells ha).1 s in (
          r.0,
          λ v e h.
              let z : IsZero p (set a x v) t = told_again tells ha r.2 e in
              record {
                zeros = zero_rows z inside ((known _).0 z) ((zeros_set tells.word ha v gone).1 zs);
                hold = (replaced_sides z).0 h;
              },
        )

kinds_replaced : (p x k : ℕ) (t : Row) (cs : List Constraint) → kinds (map (replaced_in p x k t) cs) ≡ kinds cs
kinds_replaced p x k t [] = refl
kinds_replaced p x k t (c ∷ cs) = ap (λ ks. c.kind ∷ ks) (kinds_replaced p x k t cs)

-- the chosen row, 2^k × x less what it is
abbrev chosen_row : ℕ → ℕ → Work → Row
chosen_row p x w = unit p x (get_or w.eqs (chosen p x w.eqs).at zero_row)

module _ {p x : ℕ} {w : Work} (hw : IsWork p w) (hx : x < most_words) where
  -- no equality has x
  layer1_none : p ≤ (chosen p x w.eqs).power → IsLayer1 p x w (layer1_by false p x (chosen p x w.eqs) w)
  unfolding layer1_by
  layer1_none l =
      record {
        power = omega (arith, (chosen_law p x w.eqs).bounded);
        rows = hw.rows;
        sides = hw.sides;
        gone = gone;
        unreplaced = each_to (λ c h. record { left = row_unreplaced h.left; right = row_unreplaced h.right }) hw.sides;
        absent = λ y m h. h;
        many = refl;
        same_kinds = refl;
        keeps = λ a ha v s. ((zeros_set hx ha v gone).0 s.zeros, s.hold);
        frees = λ a ha z. (0, λ v e h. record { zeros = (zeros_set hx ha v gone).1 z; hold = h });
      }
    where
      gone : Each (Lacking x) w.eqs
      gone = unchosen_lacks hw.rows l

  module _ (below : (chosen p x w.eqs).power < p) where
    chosen_inside : (chosen p x w.eqs).at < length w.eqs
    chosen_inside = ((chosen_law p x w.eqs).found below).0

    chosen_row_lem : IsRow p (get_or w.eqs (chosen p x w.eqs).at zero_row)
    chosen_row_lem = each_get _ zero_row chosen_inside hw.rows

    chosen_power : kappa p (coefficient (get_or w.eqs (chosen p x w.eqs).at zero_row) x) ≡ (chosen p x w.eqs).power
    chosen_power = ((chosen_law p x w.eqs).found below).1

    chosen_tells : Tells p x (chosen p x w.eqs).power (chosen_row p x w)
    chosen_tells =
        record {
          row = unit_row x chosen_row_lem;
          word = hx;
          power = (chosen_law p x w.eqs).bounded;
          lead = unit_power x (omega (arith, chosen_power)) chosen_row_lem (omega arith) ∙ ap (λ (k : ℕ). 2 ^ k) chosen_power;
        }

    layer1_some : IsLayer1 p x w (layer1_by true p x (chosen p x w.eqs) w)
    unfolding layer1_by
    layer1_some =
        record {
          power = refl;
          rows = rows_row chosen_tells hw at;
          sides = each_map into (each_to (λ c. replaced_in_other chosen_tells) hw.sides);
          gone = gone;
          unreplaced = each_map into (each_to (λ c. replaced_in_unreplaced chosen_tells) hw.sides);
          absent =
              λ y l h.
              record {
                rows = rows_lack chosen_tells hw at l (lacks l h.rows) h.rows;
                sides = each_map into (each_both (λ c o. replaced_in_lacks chosen_tells o l (lacks l h.rows)) hw.sides h.sides);
              };
          many = simp (length-set, length-map);
          same_kinds = kinds_replaced p x _ _ w.others;
          keeps = λ a ha. step_keeps chosen_tells hw at chosen_inside known gone ha;
          frees = λ a ha. step_frees chosen_tells hw at chosen_inside known gone ha;
        }
      where
        at : ℕ
        at = (chosen p x w.eqs).at

        into : Constraint → Constraint
        into = replaced_in p x (chosen p x w.eqs).power (chosen_row p x w)

        gone : Each (Lacking x) (rows_after p x (chosen p x w.eqs).power at (chosen_row p x w) w.eqs)
        gone = rows_gone chosen_tells hw at (chosen_law p x w.eqs).least

        known : (b : List ℕ) → IsZero p b (chosen_row p x w) ↔ IsZero p b (get_or w.eqs at zero_row)
        known b = let z : IsZero p b (get_or w.eqs at zero_row) ↔ IsZero p b (chosen_row p x w) = unit_zero x (omega (arith, chosen_power)) in (z.1, z.0)

        lacks : {y : ℕ} → y < most_words → Each (Lacking y) w.eqs → Lacking y (chosen_row p x w)
        lacks l hs = record { lacks = unit_lacks x chosen_row_lem _ (omega arith) (each_get at zero_row chosen_inside hs).lacks }

  pub layer1_law : IsLayer1 p x w (layer1 p x w)
  unfolding layer1
  layer1_law = go (ltb (chosen p x w.eqs).power p) refl
    where
      go : (b : Bool) → ltb (chosen p x w.eqs).power p ≡ b → IsLayer1 p x w (layer1_by b p x (chosen p x w.eqs) w)
      go true e = layer1_some (ltb-true _ _ e)
      go false e = layer1_none (ltb-false _ _ e)

  -- ---- hiding x

  -- the others that stay lack x, and a value of x is found for all of them, whatever its low bits
  hides : {a : List ℕ} → Values p a → {os : List Constraint} → Part os (layer1 p x w).others → Each (LackingIn x) os
      → ((r : ℕ) → HoldAll p a os
      → (v : ℕ) × (v < 2 ^ p) × (2 ^ (p - (layer1 p x w).power) ⊢ v ≈ r) × HoldAll p (set a x v) (layer1 p x w).others)
      → Solved p a (record { eqs = (layer1 p x w).eqs; others = os }) ↔ ((v : ℕ) × (v < 2 ^ p) × Solved p (set a x v) w)
  hides {a} ha {os} part lacks finds = (some, all)
    where
      some : Solved p a (record { eqs = (layer1 p x w).eqs; others = os }) → (v : ℕ) × (v < 2 ^ p) × Solved p (set a x v) w
      some s =
          let (r, frees) = layer1_law.frees a ha s.zeros in
          let (v, small, near, holds) = finds r s.hold in
          (v, small, frees v near holds)

      all : ((v : ℕ) × (v < 2 ^ p) × Solved p (set a x v) w) → Solved p a (record { eqs = (layer1 p x w).eqs; others = os })
      all (v, small, s) =
          let (zeros, holds) = layer1_law.keeps a ha v s in
          record { zeros = zeros; hold = (hold_all_set hx ha v lacks).0 (part_each part holds) }

  -- step 2 left x in no other constraint
  hides_alone : {a : List ℕ} → Values p a → Each (LackingIn x) (layer1 p x w).others
      → Solved p a (record { eqs = (layer1 p x w).eqs; others = (layer1 p x w).others }) ↔ ((v : ℕ) × (v < 2 ^ p) × Solved p (set a x v) w)
  hides_alone ha lacks =
      hides ha (part_all _) lacks
      (λ r hs.
      let near : 2 ^ (p - (layer1 p x w).power) ⊢ r % 2 ^ p ≈ r = two_down _ (omega arith) (≈mod r) in
      (r % 2 ^ p, mod-lt r (pow_pos p), near, (hold_all_set hx ha (r % 2 ^ p) lacks).1 hs))

  -- x is in no constraint
  hides_absent : {a : List ℕ} → Values p a → Absent x w → Solved p a w ↔ ((v : ℕ) × (v < 2 ^ p) × Solved p (set a x v) w)
  hides_absent ha lacks = (λ s. (0, pow_pos p, (solved_set hx ha 0 lacks).1 s), λ (v, small, s). (solved_set hx ha v lacks).0 s)

-- ---- the four ways of a try

alone_lacks : {x : ℕ} {cs : List Constraint} (b : Bool) → b && not (any_of (has x) cs) ≡ true → Each (LackingIn x) cs
alone_lacks {x} {cs} true e = none_each (has x) has_lacking cs (not-true _ e)
alone_lacks false e = absurd (true≢false (sym e))

pub data Way (p x : ℕ) (w : Work) : Tried → Type 0 where
  way_absent : Absent x w → Way p x w (record { fate = 1; work = w })
  way_alone : Each (LackingIn x) (layer1 p x w).others
      → Way p x w (record { fate = 2; work = record { eqs = (layer1 p x w).eqs; others = (layer1 p x w).others } })
  way_spare : spare p x (layer1 p x w).power (layer1 p x w).others ≡ true
      → Way p x w (record { fate = 3; work = record { eqs = (layer1 p x w).eqs; others = without x (layer1 p x w).others } })
  way_left : occurs x w ≡ true → ltb (layer1 p x w).power p && not (any_of (has x) (layer1 p x w).others) ≡ false
      → Way p x w (record { fate = 0; work = w })

pub try_way : (p x : ℕ) (w : Work) → Way p x w (try p x w)
unfolding try try_by try_layer1 try_layer2
try_way p x w = go (occurs x w) refl
  where
    l : Layer1
    l = layer1 p x w

    alone : Bool
    alone = ltb l.power p && not (any_of (has x) l.others)

    second : occurs x w ≡ true → alone ≡ false → (b : Bool) → spare p x l.power l.others ≡ b → Way p x w (try_layer2 b x l w)
    second o e true s = way_spare s
    second o e false s = way_left o e

    first : occurs x w ≡ true → (b : Bool) → alone ≡ b → Way p x w (try_layer1 b p x l w)
    first o true e = way_alone (alone_lacks (ltb l.power p) e)
    first o false e = second o e _ refl

    go : (b : Bool) → occurs x w ≡ b → Way p x w (try_by b p x w)
    go true o = first o _ refl
    go false o = way_absent (occurs_absent w o)

-- ---- what a try comes to

-- no more constraints than before, and their kinds are those of some that were there
pub record Fewer (v w : Work) : Type 0 where
  pub rows : length v.eqs ≡ length w.eqs
  pub others : length v.others ≤ length w.others
  pub stay : Part (kinds v.others) (kinds w.others)

fewer : (v w : Work) → length v.eqs ≡ length w.eqs → Part (kinds v.others) (kinds w.others) → Fewer v w
fewer v w e h = record { rows = e; others = simp length-map at (part_length h); stay = h }

pub try_left : (p x : ℕ) (w : Work) → (try p x w).fate ≡ 0 → (try p x w).work ≡ w
try_left p x w e = go (try_way p x w) e
  where
    go : {t : Tried} → Way p x w t → t.fate ≡ 0 → t.work ≡ w
    go (way_absent h) e = refl
    go (way_alone h) e = absurd (let n : ⊥ = omega arith in n)
    go (way_spare h) e = absurd (let n : ⊥ = omega arith in n)
    go (way_left o h) e = refl

-- a word that is left occurs
pub try_occurs : (p x : ℕ) (w : Work) → (try p x w).fate ≡ 0 → occurs x w ≡ true
try_occurs p x w e = go (try_way p x w) e
  where
    go : {t : Tried} → Way p x w t → t.fate ≡ 0 → occurs x w ≡ true
    go (way_absent h) e = absurd (let n : ⊥ = omega arith in n)
    go (way_alone h) e = absurd (let n : ⊥ = omega arith in n)
    go (way_spare h) e = absurd (let n : ⊥ = omega arith in n)
    go (way_left o h) e = o

module _ {p x : ℕ} {w : Work} (hw : IsWork p w) (hx : x < most_words) where
  pub try_work : IsWork p (try p x w).work
  try_work = go (try_way p x w)
    where
      go : {t : Tried} → Way p x w t → IsWork p t.work
      go (way_absent h) = hw
      go (way_alone h) = record { rows = (layer1_law hw hx).rows; sides = (layer1_law hw hx).sides }
      go (way_spare h) = record { rows = (layer1_law hw hx).rows; sides = part_each (without_part x _) (layer1_law hw hx).sides }
      go (way_left o h) = hw

  pub try_gone : (try p x w).fate ≢ 0 → occurs x (try p x w).work ≡ false
  try_gone n = absent_occurs (go (try_way p x w) n)
    where
      go : {t : Tried} → Way p x w t → t.fate ≢ 0 → Absent x t.work
      go (way_absent h) n = h
      go (way_alone h) n = record { rows = (layer1_law hw hx).gone; sides = h }
      go (way_spare h) n = record { rows = (layer1_law hw hx).gone; sides = without_lacks x _ }
      go (way_left o h) n = absurd (n refl)

  pub try_absent : (y : ℕ) → y < most_words → occurs y w ≡ false → occurs y (try p x w).work ≡ false
  try_absent y l e = absent_occurs (go (try_way p x w) (occurs_absent w e))
    where
      go : {t : Tried} → Way p x w t → Absent y w → Absent y t.work
      go (way_absent h) lacks = lacks
      go (way_alone h) lacks = (layer1_law hw hx).absent y l lacks
      go (way_spare h) lacks =
          let r : Absent y (record { eqs = (layer1 p x w).eqs; others = (layer1 p x w).others }) = (layer1_law hw hx).absent y l lacks in
          record { rows = r.rows; sides = part_each (without_part x _) r.sides }
      go (way_left o h) lacks = lacks

  pub try_few : Fewer (try p x w).work w
  try_few = go (try_way p x w)
    where
      l : IsLayer1 p x w (layer1 p x w)
      l = layer1_law hw hx

      go : {t : Tried} → Way p x w t → Fewer t.work w
      go (way_absent h) = fewer _ _ refl (part_all _)
      go (way_alone h) = fewer _ _ l.many (rw l.same_kinds (part_all _))
      go (way_spare h) = fewer _ _ l.many (rw (← l.same_kinds) (part_map (λ c. c.kind) (without_part x _)))
      go (way_left o h) = fewer _ _ refl (part_all _)

  -- on equalities alone x is absent, or Layer1 hides it
  pub try_equalities : w.others ≡ [] → ((try p x w).fate ≢ 0) × ((try p x w).work.others ≡ [])
  unfolding occurs
  try_equalities e = (go (try_way p x w), empty _ (omega (arith, try_few.others, ap length e)))
    where
      row_has_lem : occurs x w ≡ true → any_of (row_has x) w.eqs ≡ true
      row_has_lem o = sym (or-false _) ∙ rw e at o

      go : {t : Tried} → Way p x w t → t.fate ≢ 0
      go (way_absent h) = λ z. omega arith
      go (way_alone h) = λ z. omega arith
      go (way_spare h) = λ z. omega arith
      go (way_left o h) =
          let none : (layer1 p x w).others ≡ [] = empty _ (simp (length-map, e) at (le_of_eq (ap length (layer1_law hw hx).same_kinds))) in
          let lower : (layer1 p x w).power < p = rw (layer1_law hw hx).power ((chosen_some p x hw.rows).1 (row_has_lem o)) in
          absurd (true≢false (rw (lt-ltb _ _ lower, none) at h))

  pub try_says : (try p x w).fate ≢ 0 → (a : List ℕ) → Values p a
      → Solved p a (try p x w).work ↔ ((v : ℕ) × (v < 2 ^ p) × Solved p (set a x v) w)
  try_says n a ha = go (try_way p x w) n
    where
      go : {t : Tried} → Way p x w t → t.fate ≢ 0 → Solved p a t.work ↔ ((v : ℕ) × (v < 2 ^ p) × Solved p (set a x v) w)
      go (way_absent h) n = hides_absent hw hx ha h
      go (way_alone h) n = hides_alone hw hx ha h
      go (way_spare h) n =
          let l : IsLayer1 p x w (layer1 p x w) = layer1_law hw hx in
          hides hw hx ha (without_part x _) (without_lacks x _)
          (spare_finds p x _ _ hx (omega (arith, l.power, (chosen_law p x w.eqs).bounded)) l.sides l.unreplaced h a ha)
      go (way_left o h) n = absurd (n refl)
