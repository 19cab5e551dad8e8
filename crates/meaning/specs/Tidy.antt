-- Tidying (document 01, "Tidy form"). The reduced Howell form is made by putting one row after the other into a basis
-- that has a place for each word: a row that leads with that word, or zeros where none does.
use Rattle.std.specs.Prelude.{ℕ, zero, suc, ◌-◌, ◌/◌, ◌^◌, Bool, true, false, not, cond, ◌&&◌, List, [], ◌∷◌, leb, ltb, eqb, replicate}
use Rattle.meaning.specs.Lists.{any_of, kept_by}
use Rattle.meaning.specs.Number.{kappa}
use Rattle.meaning.specs.Row.{Row, most_words, coefficient, constant, zero_row, one_row, less, unit, wordless}
use Rattle.meaning.specs.Sheet.{equal, different, Constraint, Sheet, Work}

-- ---- "Write each equality as term = 0 and each disequality as term ≠ 0, right side zero; the term is the left side
-- less the right. Inequalities keep both sides: nothing is moved across."

abbrev pub difference : ℕ → Constraint → Row
difference p c = less p 1 c.right c.left

unfoldable pub equalities : ℕ → List Constraint → List Row
equalities p [] = []
equalities p (c ∷ cs) = let rs : List Row = equalities p cs in cond (eqb c.kind equal) (difference p c ∷ rs) rs

abbrev pub against_zero : ℕ → Constraint → Constraint
against_zero p c = cond (eqb c.kind different) (record { kind = different; left = difference p c; right = zero_row }) c

unfoldable pub others : ℕ → List Constraint → List Constraint
others p [] = []
others p (c ∷ cs) = let os : List Constraint = others p cs in cond (eqb c.kind equal) os (against_zero p c ∷ os)

unfoldable pub working : Sheet → Work
working s = record { eqs = equalities s.width s.constraints; others = others s.width s.constraints }

-- ---- putting a row into the basis

-- the row that the place has then, and the row that is put into the places of the later words
pub record Turn : Type 0 where
  pub place : Row
  pub pending : Row

-- the turn of word x, s in its place and r pending: the one that 2 divides less often stays and clears the other. So a
-- new row of power k goes on to the later words as its multiple by 2 ^ (p − k), which lacks x but may have them
unfoldable pub turn_by : Bool → ℕ → ℕ → Row → Row → Turn
turn_by true p x s r = record { place = s; pending = less p (coefficient r x / 2 ^ kappa p (coefficient s x)) s r }
turn_by false p x s r =
    let t : Row = unit p x r in
    record { place = t; pending = less p (2 ^ (kappa p (coefficient s x) - kappa p (coefficient r x))) t s }

unfoldable pub turn : ℕ → ℕ → Row → Row → Turn
turn p x s r = turn_by (leb (kappa p (coefficient s x)) (kappa p (coefficient r x))) p x s r

-- the places from word x on with a row put in, and what is left of the row, which lacks words
pub record Put : Type 0 where
  pub places : List Row
  pub rest : Row

unfoldable pub put : ℕ → ℕ → List Row → Row → Put
put p x [] r = record { places = []; rest = r }
put p x (s ∷ ss) r =
    let t : Turn = turn p x s r in
    let b : Put = put p (suc x) ss t.pending in
    record { places = t.place ∷ b.places; rest = b.rest }

-- all rows put in, and whether each rest was 0 = 0
pub record Basis : Type 0 where
  pub places : List Row
  pub solvable : Bool

unfoldable pub put_all : ℕ → List Row → Basis → Basis
put_all p [] b = b
put_all p (r ∷ rs) b =
    let c : Put = put p 0 b.places r in
    put_all p rs (record { places = c.places; solvable = b.solvable && eqb (constant c.rest) 0 })

abbrev pub empty_basis : Basis
empty_basis = record { places = replicate most_words zero_row; solvable = true }

-- ---- "in every earlier row the coefficient of that word is below 2^k"

-- the row less what the places from word x on take off it
unfoldable pub lowered : ℕ → ℕ → List Row → Row → Row
lowered p x [] r = r
lowered p x (s ∷ ss) r = lowered p (suc x) ss (less p (coefficient r x / 2 ^ kappa p (coefficient s x)) s r)

unfoldable pub reduced : ℕ → ℕ → List Row → List Row
reduced p x [] = []
reduced p x (s ∷ ss) = let ts : List Row = reduced p (suc x) ss in lowered p (suc x) ts s ∷ ts

-- "no row lacks words": the places that have a row
unfoldable pub filled : List Row → List Row
filled [] = []
filled (r ∷ rs) = let fs : List Row = filled rs in cond (wordless r) fs (r ∷ fs)

-- ---- "A constraint with no word in it is decided: a true one goes."

abbrev pub decided : Constraint → Bool
decided c = wordless c.left && wordless c.right

abbrev pub comparedb : ℕ → ℕ → ℕ → Bool
comparedb zero x y = eqb x y
comparedb (suc zero) x y = not (eqb x y)
comparedb (suc (suc zero)) x y = leb x y
comparedb (suc (suc (suc k))) x y = ltb x y

abbrev pub refuted : Constraint → Bool
refuted c = decided c && not (comparedb c.kind (constant c.left) (constant c.right))

-- whether one stays, behind those kept before it: a decided one goes, and whether it is false is asked before that
abbrev pub stays : List Constraint → Constraint → Bool
stays before c = not (decided c)

-- what tidying keeps of the others
unfoldable pub kept : List Constraint → List Constraint
kept os = kept_by stays [] os

-- ---- "If one is false, or the equalities have no solution, the whole sheet becomes the single equality 1 = 0."

abbrev pub false_sheet : Work
false_sheet = record { eqs = one_row ∷ []; others = [] }

unfoldable pub tidy_by : Bool → ℕ → List Row → List Constraint → Work
tidy_by true p places os = record { eqs = filled (reduced p 0 places); others = kept os }
tidy_by false p places os = false_sheet

unfoldable pub tidy : ℕ → Work → Work
tidy p w =
    let b : Basis = put_all p w.eqs empty_basis in
    tidy_by (b.solvable && not (any_of refuted w.others)) p b.places w.others
