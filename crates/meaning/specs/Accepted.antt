-- What an accepted call meets: the limits, "stated once", and what the tests leave of the bytes.
use Rattle.std.specs.Prelude.{ℕ, ◌-◌, ◌≤◌, ◌<◌, ◌≡◌, false, List, length}
use Rattle.meaning.specs.Lists.{Each}
use Rattle.meaning.specs.Row.{most_words}
use Rattle.meaning.specs.Sheet.{below, Constraint, Sheet, IsConstraint, most_width, most_each, most_read, most_written}
use Rattle.meaning.specs.Bytes.{size_of, count_in, version_in, width_in, words_in, constraints_in, sheet_in}
use Rattle.meaning.specs.Refusal.{Call, equal_count, twice}

-- "p 1 to 32, n 1 to 16, m at most 64"
pub record Limits (p n m : ℕ) : Type 0 where
  pub wide : 1 ≤ p
  pub narrow : p ≤ most_width
  pub some : 1 ≤ n
  pub few : n ≤ most_words
  pub short : m ≤ most_read

-- what rows 1 to 5 leave of the bytes: count, version and size are right, and the head is within the limits
pub record Headed (b : List ℕ) : Type 0 where
  pub long : 8 ≤ length b
  pub counted : count_in b ≡ length b - 4
  pub version : version_in b ≡ 1
  pub limits : Limits (width_in b) (words_in b) (constraints_in b)
  pub sized : length b ≡ size_of (words_in b) (constraints_in b)

-- what rows 6 to 8 leave of a sheet: a kind is at most 3, the terms are terms of its width and words, and there are "at most 32
-- equalities and at most 32 others"
pub record Bodied (s : Sheet) : Type 0 where
  pub kinds : Each (λ (c : Constraint). c.kind ≤ below) s.constraints
  pub terms : Each (IsConstraint s.width s.words) s.constraints
  pub equalities : equal_count s.constraints ≤ most_each
  pub others : length s.constraints - equal_count s.constraints ≤ most_each

-- a sheet within the limits
pub record Within (s : Sheet) : Type 0 where
  pub limits : Limits s.width s.words (length s.constraints)
  pub body : Bodied s

-- what rows 1 to 8 leave of the bytes
pub record Readable (b : List ℕ) : Type 0 where
  pub head : Headed b
  pub body : Bodied (sheet_in b)

-- what all the rows leave of the call
pub record Accepted (c : Call) : Type 0 where
  pub sheet : Readable c.sheet
  pub listed : Each (λ x. x < words_in c.sheet) c.list
  pub once : twice c.list ≡ false
  pub room : size_of (words_in c.sheet) most_written ≤ length c.out
  pub places : length c.list ≤ length c.fates
