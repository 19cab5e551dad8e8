-- Rows put into the basis: Howell's property holds of the places and they have the solutions of the rows; where some rest
-- is a constant other than 0, the rows have no solution.
use mathlib.Core.Path.{◌≡◌, refl, ap, sym, ◌∙◌}
use mathlib.Core.Logic.{◌↔◌}
use mathlib.Core.Bool.{Bool, true, false, ◌&&◌, and-true, false≢true}
use mathlib.Core.List.{List, [], ◌∷◌, ◌++◌}
use Prim.Native.Nat.{ℕ, zero, suc, ◌+◌, ◌*◌, ◌%◌, ◌^◌, ◌<◌}
use native.Mathlib.Omega.{arith}
use native.Mathlib.Nat.{mod-eq_of_lt, suc_inj}
use lib.Dec.{eqb}
use lib.Pow.{pow_pos}
use lib.ListN.{length, get_or, replicate}
use borrow.Author.Tests.{eqb-true, eq-eqb}
use Rattle.meaning.specs.Lists.{Each, each_nil, each_cons}
use Rattle.meaning.specs.Row.{Row, IsRow, most_words, coefficient, constant, zero_row, dot, value}
use Rattle.meaning.specs.Sheet.{Values}
use Rattle.meaning.specs.Tidy.{turn, Put, put, Basis, put_all, empty_basis}
use Rattle.meaning.proofs.Congruence.{poly}
use Rattle.meaning.proofs.Value.{coefficient_zero, zero_row_lem, sum_zero}
use Rattle.meaning.proofs.Working.{IsZero, sum_is_zero}
use Rattle.meaning.proofs.Basis.{empty, Place, Howell, howell_nil, howell_cons}
use Rattle.meaning.proofs.Turn.{Later, turned}

-- ---- the value of a row that lacks words

dot_constant : (r a : List ℕ) → length r ≡ suc (length a) → ((i : ℕ) → i < length a → get_or r i 0 ≡ 0)
    → dot r (a ++ (1 ∷ [])) ≡ get_or r (length a) 0
dot_constant [] [] e h = absurd (let n : ⊥ = omega arith in n)
dot_constant [] (v ∷ a) e h = absurd (let n : ⊥ = omega arith in n)
dot_constant (c ∷ []) [] e h = omega arith
dot_constant (c ∷ d ∷ r) [] e h = absurd (let n : ⊥ = omega arith in n)
dot_constant (c ∷ r) (v ∷ a) e h =
    omega (arith, ap (λ (d : ℕ). d * v) (h 0 (omega arith)), dot_constant r a (suc_inj e) (λ i l. h (suc i) (omega arith)))

pub value_constant : {p : ℕ} {r : Row} {a : List ℕ} → Later p most_words r → Values p a → value p r a ≡ constant r
unfolding value
value_constant {p} {r} {a} h v =
    let n : length a ≡ 16 = v.sixteen in
    let c = dot_constant r a (h.row.long ∙ ap suc (sym n)) (λ i l. h.lacks i (omega arith)) in
    ap (λ (x : ℕ). x % 2 ^ p) (c ∙ ap (λ (i : ℕ). get_or r i 0) n) ∙ mod-eq_of_lt (h.row.small most_words)

-- ---- a row put into the places from word x on

-- the places without Howell's property, which they lose where some rest is a constant other than 0
data Shapes (p : ℕ) : ℕ → List Row → Type 0 where
  shapes_nil : Shapes p most_words []
  shapes_cons : {x : ℕ} {s : Row} {ss : List Row} → x < most_words → Place p x s → Shapes p (suc x) ss → Shapes p x (s ∷ ss)

howell_shapes : {p x : ℕ} {ss : List Row} → Howell p x ss → Shapes p x ss
howell_shapes howell_nil = shapes_nil
howell_shapes (howell_cons l h e hs) = shapes_cons l h (howell_shapes hs)

module _ {p : ℕ} where
  put_shapes : {x : ℕ} {ss : List Row} {r : Row} → Shapes p x ss → Later p x r → Shapes p x (put p x ss r).places
  unfolding put
  put_shapes shapes_nil h = shapes_nil
  put_shapes (shapes_cons l hs hss) h = let t = turned l hs h in shapes_cons l t.place (put_shapes hss t.pending)

  put_rest : {x : ℕ} {ss : List Row} {r : Row} → Shapes p x ss → Later p x r → Later p most_words (put p x ss r).rest
  unfolding put
  put_rest shapes_nil h = h
  put_rest (shapes_cons l hs hss) h = put_rest hss (turned l hs h).pending

  put_to : {x : ℕ} {ss : List Row} {r : Row} {a : List ℕ} → Shapes p x ss → Later p x r
      → Each (IsZero p a) ss → IsZero p a r → Each (IsZero p a) (put p x ss r).places × IsZero p a (put p x ss r).rest
  unfolding put
  put_to shapes_nil h each_nil zr = (each_nil, zr)
  put_to (shapes_cons l hs hss) h (each_cons zs zss) zr =
      let t = turned l hs h in
      let zt = t.zeros.0 (zs, zr) in
      let zb = put_to hss t.pending zss zt.1 in
      (each_cons zt.0 zb.0, zb.1)

  put_from : {x : ℕ} {ss : List Row} {r : Row} {a : List ℕ} → Shapes p x ss → Later p x r
      → Each (IsZero p a) (put p x ss r).places → IsZero p a (put p x ss r).rest → Each (IsZero p a) ss × IsZero p a r
  unfolding put
  put_from shapes_nil h each_nil zr = (each_nil, zr)
  put_from (shapes_cons l hs hss) h (each_cons zt zb) zr =
      let t = turned l hs h in
      let zss = put_from hss t.pending zb zr in
      let zs = t.zeros.1 (zt, zss.1) in
      (each_cons zs.0 zss.0, zs.1)

  put_howell : {x : ℕ} {ss : List Row} {r : Row} → Howell p x ss → Later p x r → constant (put p x ss r).rest ≡ 0
      → Howell p x (put p x ss r).places
  unfolding put
  put_howell howell_nil h c = howell_nil
  put_howell (howell_cons l hs e hss) h c =
      let t = turned l hs h in
      let shapes = howell_shapes hss in
      howell_cons
      l
      t.place
      (λ a v z.
      let zss = put_from shapes t.pending z (record { zero = value_constant (put_rest shapes t.pending) v ∙ c }) in
      t.extends v (e a v zss.0) zss.1)
      (put_howell hss t.pending c)

  -- a word that neither the places nor the row have
  put_absent : {x : ℕ} {ss : List Row} {r : Row} (i : ℕ) → i < most_words → Shapes p x ss → Later p x r
      → Each (λ s. coefficient s i ≡ 0) ss → coefficient r i ≡ 0 → Each (λ s. coefficient s i ≡ 0) (put p x ss r).places
  unfolding put
  put_absent i b shapes_nil h each_nil er = each_nil
  put_absent i b (shapes_cons l hs hss) h (each_cons es ess) er =
      let t = turned l hs h in
      let et = t.absent i (omega arith) es er in
      each_cons et.0 (put_absent i b hss t.pending ess et.1)

put_length : (p x : ℕ) (ss : List Row) (r : Row) → length (put p x ss r).places ≡ length ss
unfolding put
put_length p x [] r = refl
put_length p x (s ∷ ss) r = ap suc (put_length p (suc x) ss (turn p x s r).pending)

-- ---- all rows put in

later_row : {p : ℕ} {r : Row} → IsRow p r → Later p 0 r
later_row h = record { row = h; lacks = λ i l. absurd (let n : ⊥ = omega arith in n) }

-- the basis after one row
abbrev next : ℕ → Row → Basis → Basis
next p r b = let c : Put = put p 0 b.places r in record { places = c.places; solvable = b.solvable && eqb (constant c.rest) 0 }

and_both : (b c : Bool) → b && c ≡ true → (b ≡ true) × (c ≡ true)
and_both true c e = (refl, e)
and_both false c e = absurd (false≢true e)

solvable_before : (p : ℕ) (rs : List Row) (b : Basis) → (put_all p rs b).solvable ≡ true → b.solvable ≡ true
unfolding put_all
solvable_before p [] b e = e
solvable_before p (r ∷ rs) b e = (and_both b.solvable _ (solvable_before p rs (next p r b) e)).0

rest_before : (p : ℕ) (r : Row) (rs : List Row) (b : Basis) → (put_all p rs (next p r b)).solvable ≡ true
    → constant (put p 0 b.places r).rest ≡ 0
rest_before p r rs b e = eqb-true _ _ (and_both b.solvable _ (solvable_before p rs (next p r b) e)).1

module _ {p : ℕ} where
  all_howell : {rs : List Row} (b : Basis) → Each (IsRow p) rs → (put_all p rs b).solvable ≡ true
      → Howell p 0 b.places → Howell p 0 (put_all p rs b).places
  unfolding put_all
  all_howell b each_nil e h = h
  all_howell b (each_cons {x = r} {xs = rs} hr hrs) e h =
      all_howell (next p r b) hrs e (put_howell h (later_row hr) (rest_before p r rs b e))

  -- a solution of the places and the rows is one of the new places, and no rest told against it
  all_to : {rs : List Row} {a : List ℕ} (b : Basis) → Each (IsRow p) rs → Shapes p 0 b.places → Values p a
      → Each (IsZero p a) b.places → Each (IsZero p a) rs
      → Each (IsZero p a) (put_all p rs b).places × ((put_all p rs b).solvable ≡ b.solvable)
  unfolding put_all
  all_to b each_nil h v zb each_nil = (zb, refl)
  all_to b (each_cons {x = r} {xs = rs} hr hrs) h v zb (each_cons zr zrs) =
      let c = put_to h (later_row hr) zb zr in
      let d = all_to (next p r b) hrs (put_shapes h (later_row hr)) v c.0 zrs in
      let none : constant (put p 0 b.places r).rest ≡ 0 = sym (value_constant (put_rest h (later_row hr)) v) ∙ c.1.zero in
      (d.0, d.1 ∙ ap (λ (t : Bool). b.solvable && t) (eq-eqb _ _ none) ∙ and-true b.solvable)

  all_from : {rs : List Row} {a : List ℕ} (b : Basis) → Each (IsRow p) rs → Shapes p 0 b.places → Values p a
      → (put_all p rs b).solvable ≡ true → Each (IsZero p a) (put_all p rs b).places → Each (IsZero p a) b.places × Each (IsZero p a) rs
  unfolding put_all
  all_from b each_nil h v e z = (z, each_nil)
  all_from b (each_cons {x = r} {xs = rs} hr hrs) h v e z =
      let d = all_from (next p r b) hrs (put_shapes h (later_row hr)) v e z in
      let none = value_constant (put_rest h (later_row hr)) v ∙ rest_before p r rs b e in
      let c = put_from h (later_row hr) d.0 (record { zero = none }) in
      (c.0, each_cons c.1 d.1)

  all_absent : {rs : List Row} (i : ℕ) (b : Basis) → i < most_words → Each (IsRow p) rs → Shapes p 0 b.places
      → Each (λ s. coefficient s i ≡ 0) b.places → Each (λ r. coefficient r i ≡ 0) rs
      → Each (λ s. coefficient s i ≡ 0) (put_all p rs b).places
  unfolding put_all
  all_absent i b l each_nil h eb each_nil = eb
  all_absent i b l (each_cons {x = r} hr hrs) h eb (each_cons er ers) =
      all_absent i (next p r b) l hrs (put_shapes h (later_row hr)) (put_absent i l h (later_row hr) eb er) ers

all_length : (p : ℕ) (rs : List Row) (b : Basis) → length (put_all p rs b).places ≡ length b.places
unfolding put_all
all_length p [] b = refl
all_length p (r ∷ rs) b = all_length p rs (next p r b) ∙ put_length p 0 b.places r

-- ---- from the empty basis

each_replicate : {A : Type 0} {P : A → Type 0} (n : ℕ) (x : A) → P x → Each P (replicate n x)
each_replicate zero x h = each_nil
each_replicate (suc n) x h = each_cons h (each_replicate n x h)

zero_is_zero : {p : ℕ} {a : List ℕ} → IsZero p a zero_row
zero_is_zero {p} {a} = sum_is_zero (poly (sum_zero a))

empty_howell : (p n x : ℕ) → x + n ≡ most_words → Howell p x (replicate n zero_row)
empty_howell p zero x e = let end : x ≡ most_words = omega arith in rw end howell_nil
empty_howell p (suc n) x e =
    howell_cons {x = x}
    (omega arith)
    (record { row = zero_row_lem p; lacks = λ i l. coefficient_zero i; lead = empty refl })
    (λ a v z. record { value = 0; small = pow_pos p; zero = zero_is_zero })
    (empty_howell p n (suc x) (omega arith))

pub record BasisOf (p : ℕ) (rs : List Row) (b : Basis) : Type 0 where
  pub howell : b.solvable ≡ true → Howell p 0 b.places
  pub zeros : b.solvable ≡ true → {a : List ℕ} → Values p a → Each (IsZero p a) b.places ↔ Each (IsZero p a) rs
  pub none : b.solvable ≡ false → {a : List ℕ} → Values p a → Each (IsZero p a) rs → ⊥
  pub absent : (x : ℕ) → x < most_words → Each (λ r. coefficient r x ≡ 0) rs → Each (λ r. coefficient r x ≡ 0) b.places
  pub sixteen : length b.places ≡ most_words

pub basis_of : {p : ℕ} {rs : List Row} → Each (IsRow p) rs → BasisOf p rs (put_all p rs empty_basis)
basis_of {p} {rs} h =
    let first : Howell p 0 empty_basis.places = empty_howell p most_words 0 refl in
    let shapes : Shapes p 0 empty_basis.places = howell_shapes first in
    let zeros : (a : List ℕ) → Each (IsZero p a) empty_basis.places = λ a. each_replicate most_words zero_row zero_is_zero in
    record {
      howell = λ e. all_howell empty_basis h e first;
      zeros = λ e {a} v. (λ z. (all_from empty_basis h shapes v e z).1, λ z. (all_to empty_basis h shapes v (zeros a) z).0);
      none = λ e {a} v z. false≢true (sym e ∙ (all_to empty_basis h shapes v (zeros a) z).1);
      absent = λ x l e. all_absent x empty_basis l h shapes (each_replicate most_words zero_row (coefficient_zero x)) e;
      sixteen = all_length p rs empty_basis;
    }
