-- The kinds of a constraint, by their numbers.
use Rattle.std.specs.Prelude.{ℕ, ◌≡◌, ◌<◌, ◌≤◌, Result, MatchResult}
use Rattle.meaning.specs.Sheet.{equal, different, at_most, below}
use Rattle.sheet.specs.declared.kind.Kind.{Kind}
use Rattle.sheet.specs.declared.kind.Kind.TheVariants.{Equal, Different, AtMost, Below, Unknown}
use Rattle.sheet.specs.declared.kind.UnknownKind.{UnknownKind}

-- "0 equal, 1 different, 2 at most, 3 below"
abbrev pub kind_number : Kind → ℕ
kind_number Equal = equal
kind_number Different = different
kind_number AtMost = at_most
kind_number Below = below
kind_number (Unknown u) = u.byte

-- a byte gives the kind whose number it is, one of the four; one above 3 gives none, and is what the error has
abbrev pub KindRead : ℕ → Result Kind UnknownKind → Type 0
KindRead byte r = MatchResult r (λ kind. (byte ≡ kind_number kind) × (byte ≤ below)) (λ u. (below < byte) × (u.byte ≡ byte))
