-- Trying a word x (document 01, "A walk", steps 1 to 4).
use Rattle.std.specs.Prelude.{ℕ, suc, ◌+◌, ◌-◌, ◌*◌, ◌/◌, ◌^◌, min, max, Bool, true, false, not, cond, ◌&&◌, List, [], ◌∷◌, map, leb, ltb, eqb, get_or, set}
use Rattle.meaning.specs.Lists.{any_of, same, kept_by}
use Rattle.meaning.specs.Number.{kappa}
use Rattle.meaning.specs.Row.{Row, coefficient, constant, zero_row, less, scale, unit, wordless, row_has}
use Rattle.meaning.specs.Sheet.{different, at_most, Constraint, Work, has, occurs}

-- ---- step 2, Layer1

-- "If equalities have x, take the one with least κ for x, the first of equals": its κ, which is p where none has x, and its place
pub record Chosen : Type 0 where
  pub power : ℕ
  pub at : ℕ

unfoldable pub chosen : ℕ → ℕ → List Row → Chosen
chosen p x [] = record { power = p; at = 0 }
chosen p x (r ∷ rs) =
    let c : Chosen = chosen p x rs in
    let k : ℕ = kappa p (coefficient r x) in
    cond (leb k c.power) (record { power = k; at = 0 }) (record { power = c.power; at = suc c.at })

-- "In every other constraint, in each side separately, replace 2^k × c × x by c × u where 2^k divides that side's
-- coefficient, c the whole quotient": t is the row 2^k × x − u, which is zero
unfoldable pub replaced : ℕ → ℕ → ℕ → Row → Row → Row
replaced p x k t r = cond (leb k (kappa p (coefficient r x))) (less p (coefficient r x / 2 ^ k) t r) r

abbrev pub replaced_in : ℕ → ℕ → ℕ → Row → Constraint → Constraint
replaced_in p x k t c = record { kind = c.kind; left = replaced p x k t c.left; right = replaced p x k t c.right }

-- what step 2 comes to: k, or p where no equality has x; the others as it left them; and the equalities once x is
-- hidden, the chosen one replaced "by 2^(p−k) × u = 0", which is 2^(p−k) × t = 0 since 2^p × x is 0. No other equality
-- has x then: none has a lesser κ for it
pub record Layer1 : Type 0 where
  pub power : ℕ
  pub eqs : List Row
  pub others : List Constraint

unfoldable pub layer1_by : Bool → ℕ → ℕ → Chosen → Work → Layer1
layer1_by true p x c w =
    let t : Row = unit p x (get_or w.eqs c.at zero_row) in
    record {
      power = c.power;
      eqs = set (map (replaced p x c.power t) w.eqs) c.at (scale p (2 ^ (p - c.power)) t);
      others = map (replaced_in p x c.power t) w.others;
    }
layer1_by false p x c w = record { power = p; eqs = w.eqs; others = w.others }

unfoldable pub layer1 : ℕ → ℕ → Work → Layer1
layer1 p x w = let c : Chosen = chosen p x w.eqs in layer1_by (ltb c.power p) p x c w

-- ---- step 3, Layer2

-- "every inequality with x", "all disequalities with x"
abbrev pub inequality_with : ℕ → Constraint → Bool
inequality_with x c = ltb different c.kind && has x c

abbrev pub disequality_with : ℕ → Constraint → Bool
disequality_with x c = eqb c.kind different && has x c

-- an inequality with x as a bound on the side that has x, the left one if it has
pub record Bound : Type 0 where
  pub term : Row
  pub other : Row
  pub above : Bool
  pub strict : Bool

abbrev pub bound_by : Bool → Constraint → Bound
bound_by true c = record { term = c.left; other = c.right; above = true; strict = ltb at_most c.kind }
bound_by false c = record { term = c.right; other = c.left; above = false; strict = ltb at_most c.kind }

abbrev pub bound_of : ℕ → Constraint → Bound
bound_of x c = bound_by (row_has x c.left) c

-- what a bound counts by, an estimate of its other side: its greatest value in a lower bound; in an upper one its least, and one
-- more, as `past` below is v + 1. "A constant bound c counts as c." "A bound that is not constant makes δ = 0": it counts by 2^p,
-- or by −1, and no value lies between that and the other end
unfoldable pub greatest : ℕ → Row → ℕ
greatest p r = cond (wordless r) (constant r) (2 ^ p)

unfoldable pub past_least : ℕ → Row → ℕ
past_least p r = cond (wordless r) (constant r + 1) 0

abbrev pub estimate : ℕ → Bool → Row → ℕ
estimate p above r = cond above (past_least p r) (greatest p r)

-- "Group them by that side's term s, all its numbers equal." `low` is u, the greatest lower bound; `past` is v + 1, v the
-- least upper bound: "so v may be −1"
pub record Group : Type 0 where
  pub power : ℕ
  pub term : Row
  pub low : ℕ
  pub past : ℕ

-- "starting from 0 and 2^p − 1"
abbrev pub fresh : ℕ → ℕ → Row → Group
fresh p k s = record { power = k; term = s; low = 0; past = 2 ^ p }

-- the two ends after a bound that counts by c, "or as c + 1 below and c − 1 above when strict"
abbrev pub low_after : Bool → Bool → ℕ → ℕ → ℕ
low_after above strict c low = cond above low (max low (cond strict (c + 1) c))

abbrev pub past_after : Bool → Bool → ℕ → ℕ → ℕ
past_after above strict c past = cond above (min past (cond strict (c - 1) c)) past

unfoldable pub tightened : ℕ → Bound → Group → Group
tightened p b g =
    let c : ℕ = estimate p b.above b.other in
    record {
      power = g.power;
      term = g.term;
      low = low_after b.above b.strict c g.low;
      past = past_after b.above b.strict c g.past;
    }

-- "δ = max(0, v − u + 1)"
abbrev pub delta : Group → ℕ
delta g = g.past - g.low

-- "The groups are kept as a row of records, greatest power first", and whether each group's κ differs from every other's
pub record Groups : Type 0 where
  pub row : List Group
  pub apart : Bool

-- a bound of power k taken into the row: its group's power is k, or it comes first, or it goes behind g
unfoldable pub grouped_by : Bool → Bool → ℕ → ℕ → Bound → Group → List Group → Groups → Groups
grouped_by true later p k b g gs behind = record { row = tightened p b g ∷ gs; apart = same b.term g.term }
grouped_by false true p k b g gs behind = record { row = tightened p b (fresh p k b.term) ∷ g ∷ gs; apart = true }
grouped_by false false p k b g gs behind = record { row = g ∷ behind.row; apart = behind.apart }

unfoldable pub grouped : ℕ → ℕ → Bound → List Group → Groups
grouped p k b [] = record { row = tightened p b (fresh p k b.term) ∷ []; apart = true }
grouped p k b (g ∷ gs) = grouped_by (eqb k g.power) (ltb g.power k) p k b g gs (grouped p k b gs)

-- the groups with a constraint taken in, where it is an inequality with x. "Every inequality with x must have it on one side
-- only."
unfoldable pub with_bound_by : Bool → ℕ → ℕ → Constraint → Groups → Groups
with_bound_by true p x c g =
    let b : Bound = bound_of x c in
    let h : Groups = grouped p (kappa p (coefficient b.term x)) b g.row in
    record { row = h.row; apart = not (row_has x c.left && row_has x c.right) && (h.apart && g.apart) }
with_bound_by false p x c g = g

abbrev pub with_bound : ℕ → ℕ → Constraint → Groups → Groups
with_bound p x c g = with_bound_by (inequality_with x c) p x c g

unfoldable pub gathered : ℕ → ℕ → List Constraint → Groups
gathered p x [] = record { row = []; apart = true }
gathered p x (c ∷ cs) = with_bound p x c (gathered p x cs)

-- ---- the count. On bench sheet B2, z = 4x + y, 6x + y ≤ 4 and x ≠ z at p = 3, with x to hide:
--   tidied         4x + y + 7z = 0, 2y + 6z = 0, 6x + y ≤ 4, x + 7z ≠ 0
--   chosen         the first equality, which alone has x: k is κ of 4, which is 2
--   after step 2   the others as they were, since 4 divides neither 6 nor 1
--   one group      the term 6x + y, κ of 6 is 1; u = 0 and v = 4, so δ = 5
--   the product    the whole part of 5 / 2^(3 − 2 + 1) is 1, and 2^1 × 1 = 2
--   the loss       κ of 1 is 0: x + 7z ≠ 0 takes 2^0 = 1 away
--   the surplus    2 − 1 = 1, so x is hidden; what stays is 2^(3 − 2) × (4x + y + 7z) = 2y + 6z = 0

-- "2^kr times the product over i of the whole part of δi / 2^(p − k(i−1) + ki)", from the power k before the row on
unfoldable pub ways : ℕ → ℕ → List Group → ℕ
ways p k [] = 2 ^ k
ways p k (g ∷ gs) = delta g / 2 ^ (p - k + g.power) * ways p g.power gs

-- "the sum of 2^κ over all disequalities with x"
abbrev pub lost_to : ℕ → ℕ → Constraint → ℕ
lost_to p x c = cond (disequality_with x c) (2 ^ kappa p (coefficient c.left x)) 0

unfoldable pub lost : ℕ → ℕ → List Constraint → ℕ
lost p x [] = 0
lost p x (c ∷ cs) = lost_to p x c + lost p x cs

-- the groups are as they must be, and the surplus is 1 or more
unfoldable pub spare : ℕ → ℕ → ℕ → List Constraint → Bool
spare p x k cs = let g : Groups = gathered p x cs in g.apart && ltb (lost p x cs) (ways p k g.row)

-- "drop every disequality and inequality with x"
abbrev pub lacks : ℕ → List Constraint → Constraint → Bool
lacks x before c = not (has x c)

unfoldable pub without : ℕ → List Constraint → List Constraint
without x cs = kept_by (lacks x) [] cs

-- ---- the try

-- "0 left, 1 absent, 2 Layer1, 3 Layer2", and the sheet then
pub record Tried : Type 0 where
  pub fate : ℕ
  pub work : Work

-- whether the surplus is 1 or more; "otherwise x is left and the sheet is as before the try"
unfoldable pub try_layer2 : Bool → ℕ → Layer1 → Work → Tried
try_layer2 true x l w = record { fate = 3; work = record { eqs = l.eqs; others = without x l.others } }
try_layer2 false x l w = record { fate = 0; work = w }

-- whether "x is left only in the chosen equality"
unfoldable pub try_layer1 : Bool → ℕ → ℕ → Layer1 → Work → Tried
try_layer1 true p x l w = record { fate = 2; work = record { eqs = l.eqs; others = l.others } }
try_layer1 false p x l w = try_layer2 (spare p x l.power l.others) x l w

-- whether a constraint has x
unfoldable pub try_by : Bool → ℕ → ℕ → Work → Tried
try_by true p x w = let l : Layer1 = layer1 p x w in try_layer1 (ltb l.power p && not (any_of (has x) l.others)) p x l w
try_by false p x w = record { fate = 1; work = w }

unfoldable pub try : ℕ → ℕ → Work → Tried
try p x w = try_by (occurs x w) p x w
