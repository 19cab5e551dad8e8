-- Trying a word on the working sheet: which way of the definition each way of the code is, and the sheet then.
use Rattle.std.proofs.Common.{◌≡◌, refl, sym, ap, ◌∙◌, Bool, true, false, not, List, map, ℕ, ◌-◌, ◌^◌, ◌≤◌, ◌<◌, arith, length, get_or, set, lt-ltb, le-ltb}
use Rattle.std.proofs.lemmas.List.{length-map}
use Rattle.meaning.specs.Lists.{Each, any_of}
use Rattle.meaning.specs.Number.{kappa}
use Rattle.meaning.specs.Row.{Row, IsRow, coefficient, zero_row, scale, unit, row_has}
use Rattle.meaning.specs.Sheet.{Work, IsOther, IsWork, has, occurs}
use Rattle.meaning.specs.Layers.{Chosen, Tried, chosen, replaced, replaced_in, Layer1, layer1, layer1_by, spare, without, try, try_by, try_layer1, try_layer2}
use Rattle.meaning.proofs.Turn.{unit_row}
use Rattle.meaning.proofs.Layer1.{chosen_law, chosen_some}
use Rattle.meaning.proofs.Try.{layer1_law, try_work, try_few}
use Rattle.row.specs.Block.{row_of}
use Rattle.row.proofs.Blocks.{length_rows, row_at, row_is}
use Rattle.sheet.specs.Others.{others_of}
use Rattle.sheet.specs.Work.{constraint_of, constraints_of, equalities_of, sheet_work}
use Rattle.sheet.specs.Working.{IsWorking}
use Rattle.sheet.proofs.Made.{others_few}
use Rattle.sheet.specs.declared.constraint.Constraint.{Constraint as Held}
use Rattle.sheet.specs.declared.Sheet.{Sheet}
use Rattle.hide.specs.Fate.{fate_number}
use Rattle.hide.specs.Steps.{IsTried}
use Rattle.hide.specs.declared.fate.Fate.{Fate}

-- ---- the ways of a try

module _ (p x : ℕ) (w : Work) (hw : IsWork p w) (hx : x < 16) where
  -- no equality has x
  module _ (none : record { power = p; at = 0 } ≡ chosen p x w.eqs) where
    l : p ≤ (chosen p x w.eqs).power
    l = let e : p ≡ (chosen p x w.eqs).power = ap (λ (c : Chosen). c.power) none in omega arith

    none_has : any_of (row_has x) w.eqs ≡ false
    none_has = go (any_of (row_has x) w.eqs) refl
      where
        go : (b : Bool) → any_of (row_has x) w.eqs ≡ b → b ≡ false
        go true e = absurd (let n : ⊥ = omega (arith, l, (chosen_some p x hw.rows).1 e) in n)
        go false e = refl

    pub try_nowhere : any_of (has x) w.others ≡ false → try p x w ≡ record { fate = 1; work = w }
    unfolding try try_by occurs
    try_nowhere e = rw (none_has, e)

    free_layer : layer1 p x w ≡ record { power = p; eqs = w.eqs; others = w.others }
    unfolding layer1 layer1_by
    free_layer = rw (le-ltb (chosen p x w.eqs).power p l)

    try_free : any_of (has x) w.others ≡ true
        → try p x w ≡ try_layer2 (spare p x p w.others) x (record { power = p; eqs = w.eqs; others = w.others }) w
    unfolding try try_by occurs try_layer1
    try_free e = rw (none_has, e, free_layer, le-ltb p p (omega arith))

    -- those that have x are dropped where there is a surplus
    pub try_spare : any_of (has x) w.others ≡ true → spare p x p w.others ≡ true
        → try p x w ≡ record { fate = 3; work = record { eqs = w.eqs; others = without x w.others } }
    unfolding try_layer2
    try_spare e f = try_free e ∙ rw f

    pub try_left : any_of (has x) w.others ≡ true → spare p x p w.others ≡ false → try p x w ≡ record { fate = 0; work = w }
    unfolding try_layer2
    try_left e f = try_free e ∙ rw f

  -- an equality has x
  module _ (l : (chosen p x w.eqs).power < p) where
    try_bound : try p x w ≡ try_layer1 (not (any_of (has x) (layer1 p x w).others)) p x (layer1 p x w) w
    unfolding try try_by occurs
    try_bound = rw ((chosen_some p x hw.rows).0 l, (layer1_law hw hx).power, lt-ltb (chosen p x w.eqs).power p l)

    pub try_alone : any_of (has x) (layer1 p x w).others ≡ false
        → try p x w ≡ record { fate = 2; work = record { eqs = (layer1 p x w).eqs; others = (layer1 p x w).others } }
    unfolding try_layer1
    try_alone e = rw (try_bound, e)

    pub try_more : any_of (has x) (layer1 p x w).others ≡ true
        → try p x w ≡ try_layer2 (spare p x (layer1 p x w).power (layer1 p x w).others) x (layer1 p x w) w
    unfolding try_layer1
    try_more e = rw (try_bound, e)

-- the new sheet, which has no more others, and the fate are those of the try
pub tried_fewer : {s : Sheet} → IsWorking s → {x : ℕ} → x < 16 → (new : Sheet) (f : Fate)
    → new.width ≡ s.width → new.words ≡ s.words → new.equalities.count ≡ s.equalities.count → new.others.count ≤ s.others.count
    → try s.width x (sheet_work s) ≡ record { fate = fate_number f; work = sheet_work new } → IsTried x s new f
tried_fewer {s} h {x} hx new f ep en ec eo e =
    let ew : sheet_work new ≡ (try s.width x (sheet_work s)).work = sym (ap (λ (t : Tried). t.work) e) in
    record {
      follows = record {
        working = record {
          width = rw ep h.width;
          few_eqs = rw ec h.few_eqs;
          few_others = omega (arith, eo, h.few_others);
          work = rw (ep, ew) (try_work h.work hx);
        };
        width = ep;
        words = en;
        fewer = eo;
      };
      count = ec;
      fate = sym (ap (λ (t : Tried). t.fate) e);
      work = ew;
    }

-- that it has no more follows where its places hold as many as it counts
pub tried : {s : Sheet} → IsWorking s → {x : ℕ} → x < 16 → (new : Sheet) (f : Fate)
    → new.width ≡ s.width → new.words ≡ s.words → new.equalities.count ≡ s.equalities.count → length (others_of new.others) ≡ new.others.count
    → try s.width x (sheet_work s) ≡ record { fate = fate_number f; work = sheet_work new } → IsTried x s new f
tried {s} h {x} hx new f ep en ec full e =
    let few = try_few {x = x} h.work hx in
    let l : length (constraints_of (others_of new.others)) ≤ length (constraints_of (others_of s.others)) =
    rw (ap (λ (t : Tried). t.work.others) e) at few.others in
    tried_fewer h hx new f ep en ec
    (omega (arith, full, length-map (others_of new.others) constraint_of, length-map (others_of s.others) constraint_of, others_few s.others, l)) e

-- ---- an equality has x: the one at `at` is chosen, with power k

module _ {s : Sheet} (h : IsWorking s) {x : ℕ} (hx : x < 16) {k at : ℕ} (l : k < s.width)
    (e : record { power = k; at = at } ≡ chosen s.width x (equalities_of s.equalities)) where
  abbrev p : ℕ
  p = s.width

  abbrev rows : List Row
  rows = equalities_of s.equalities

  ek : k ≡ (chosen p x rows).power
  ek = ap (λ (c : Chosen). c.power) e

  ea : at ≡ (chosen p x rows).at
  ea = ap (λ (c : Chosen). c.at) e

  below : (chosen p x rows).power < p
  below = omega (arith, ek)

  found : (at < length rows) × (kappa p (coefficient (get_or rows at zero_row) x) ≡ k)
  found = rw (ek, ea) ((chosen_law p x rows).found below)

  pub bound_inside : at < s.equalities.count
  bound_inside = rw (length_rows s.equalities.rows 0 s.equalities.count) at found.0

  bound_at : get_or rows at zero_row ≡ row_of s.equalities.rows at
  bound_at = row_at s.equalities.rows bound_inside

  pub bound_lead : kappa p (coefficient (row_of s.equalities.rows at) x) < p
  bound_lead = rw (← bound_at, found.1) l

  -- t is what it says
  module _ {t : Row} (et : t ≡ unit p x (row_of s.equalities.rows at)) where
    pub bound_row : IsRow p t
    bound_row = rw et (unit_row x (row_is s.equalities.rows h.work.rows bound_inside refl))

    bound_layer : layer1 p x (sheet_work s)
        ≡ record {
          power = k;
          eqs = set (map (replaced p x k t) rows) at (scale p (2 ^ (p - k)) t);
          others = map (replaced_in p x k t) (constraints_of (others_of s.others));
        }
    unfolding layer1 layer1_by
    bound_layer = rw (lt-ltb (chosen p x rows).power p below, ← ek, ← ea, bound_at, ← et)

    -- `next` are the others with what t says put in
    module _ (next : List Held) (en : constraints_of next ≡ map (replaced_in p x k t) (constraints_of (others_of s.others))) where
      layer_is : layer1 p x (sheet_work s)
          ≡ record {
            power = k;
            eqs = set (map (replaced p x k t) rows) at (scale p (2 ^ (p - k)) t);
            others = constraints_of next;
          }
      layer_is = rw en bound_layer

      pub next_sides : Each (IsOther p) (constraints_of next)
      next_sides = rw (ap (λ (n : Layer1). n.others) layer_is) at (layer1_law h.work hx).sides

      pub next_few : length next ≤ 32
      next_few =
          let a : length (constraints_of next) ≡ length (map (replaced_in p x k t) (constraints_of (others_of s.others))) = ap length en in
          let b : length (map (replaced_in p x k t) (constraints_of (others_of s.others))) ≡ length (constraints_of (others_of s.others)) =
          length-map (constraints_of (others_of s.others)) (replaced_in p x k t) in
          let m = others_few s.others in
          omega (arith, a, b, length-map next constraint_of, length-map (others_of s.others) constraint_of, m, h.few_others)

      -- x is left in them, and there is no surplus
      pub bound_left : any_of (has x) (constraints_of next) ≡ true → spare p x k (constraints_of next) ≡ false
          → try p x (sheet_work s) ≡ record { fate = 0; work = sheet_work s }
      unfolding try_layer2
      bound_left b f = try_more p x _ h.work hx below (rw layer_is b) ∙ rw (layer_is, f)

      -- x is left in none of them
      pub bound_alone : any_of (has x) (constraints_of next) ≡ false
          → try p x (sheet_work s)
          ≡ record {
            fate = 2;
            work = record { eqs = set (map (replaced p x k t) rows) at (scale p (2 ^ (p - k)) t); others = constraints_of next };
          }
      bound_alone b = try_alone p x _ h.work hx below (rw layer_is b) ∙ rw layer_is

      -- those that have x are dropped
      pub bound_spare : any_of (has x) (constraints_of next) ≡ true → spare p x k (constraints_of next) ≡ true
          → try p x (sheet_work s)
          ≡ record {
            fate = 3;
            work = record { eqs = set (map (replaced p x k t) rows) at (scale p (2 ^ (p - k)) t); others = without x (constraints_of next) };
          }
      unfolding try_layer2
      bound_spare b f = try_more p x _ h.work hx below (rw layer_is b) ∙ rw (layer_is, f)
