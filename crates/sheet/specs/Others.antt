-- The others that code holds, as a list.
use Rattle.std.specs.Prelude.{◌≡◌, Bool, List, take, replicate}
use Rattle.std.specs.Borrow.{Bor}
use Rattle.std.specs.Fn.{FnReturnsAt}
use denote.Param.Members.{Shared}
use Rattle.meaning.specs.Row.{zero_row}
use Rattle.sheet.specs.declared.kind.Kind.TheVariants.{Equal}
use Rattle.sheet.specs.declared.constraint.Constraint.{Constraint as Held}
use Rattle.sheet.specs.declared.others.Others.{Others}

-- the constraint 0 = 0, which a place behind the last is read as
abbrev pub blank : Held
blank = record { kind = Equal; left = record { w = zero_row }; right = record { w = zero_row } }

-- the first places
abbrev pub others_of : Others → List Held
others_of o = take o.count o.places

abbrev pub no_others : Others
no_others = record { places = replicate 32 blank; count = 0 }

-- whatever a closure answers at a constraint is what the test t says of it
abbrev pub Says : {F : Type 0} → Shared F (Bor Held × Unit {0}) Bool → F → (Held → Bool) → Type 0
Says g f t = (c : Held) (b : Bool) → FnReturnsAt g f c b → b ≡ t c
