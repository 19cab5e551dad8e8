-- The working sheet that code's rows and constraints stand for.
use Rattle.std.specs.Prelude.{ℕ, Bool, cond, List, [], map, replicate}
use Rattle.meaning.specs.Sheet.{Constraint, Work}
use Rattle.meaning.specs.Row.{Row, one_row}
use Rattle.meaning.specs.Tidy.{false_sheet}
use Rattle.row.specs.Block.{put_row, rows_from}
use Rattle.sheet.specs.Kind.{kind_number}
use Rattle.sheet.specs.declared.constraint.Constraint.{Constraint as Held}
use Rattle.sheet.specs.declared.Equalities.{Equalities}
use Rattle.sheet.specs.declared.Sheet.{Sheet}
use Rattle.sheet.specs.Others.{others_of, no_others}

-- a constraint that code holds
abbrev pub constraint_of : Held → Constraint
constraint_of c = record { kind = kind_number c.kind; left = c.left.w; right = c.right.w }

abbrev pub constraints_of : List Held → List Constraint
constraints_of cs = map constraint_of cs

-- the equalities: the first rows of their block
abbrev pub equalities_of : Equalities → List Row
equalities_of e = rows_from e.rows 0 e.count

abbrev pub sheet_work : Sheet → Work
sheet_work s = record { eqs = equalities_of s.equalities; others = constraints_of (others_of s.others) }

-- no constraint, or the false sheet
abbrev pub new_work : Bool → Work
new_work holds = cond holds (record { eqs = []; others = [] }) false_sheet

-- the same in a block, which is zeros elsewhere
abbrev pub new_sheet : ℕ → ℕ → Bool → Sheet
new_sheet width words holds = record {
  width = width;
  words = words;
  equalities = record { rows = cond holds (replicate 544 0) (put_row (replicate 544 0) 0 one_row); count = cond holds 0 1 };
  others = no_others;
}
