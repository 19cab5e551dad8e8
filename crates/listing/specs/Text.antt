-- Text that is written into a lent buffer, and the place after it.
use Rattle.std.specs.Prelude.{ℕ, ◌+◌, ◌≤◌, ◌≡◌, Bool, cond, ◌&&◌, List, Option, Some, None, leb, eqb, length}
use Rattle.meaning.specs.Row.{most_words}
use Rattle.meaning.specs.Bytes.{size_of, words_in, constraints_in}
use Rattle.meaning.specs.Sheet.{most_read}
use Rattle.meaning.specs.Outcome.{over}
use Rattle.sheet.specs.Bytes.{written}

-- the buffer held old, it holds new, and past is the place after the text that was written from `at` on
pub record Wrote (old : List ℕ) (at : ℕ) (text new : List ℕ) (past : ℕ) : Type 0 where
  pub bytes : new ≡ written old at text
  pub place : past ≡ at + length text

-- ---- an answer to list

-- the bytes b are of the size that the formula says, for at most 16 words and at most 64 constraints, and each of the listed words,
-- at most 16, has a fate
pub record Fits (b xs fs : List ℕ) : Type 0 where
  pub few_words : words_in b ≤ most_words
  pub few_constraints : constraints_in b ≤ most_read
  pub sized : length b ≡ size_of (words_in b) (constraints_in b)
  pub few_listed : length xs ≤ most_words
  pub fated : length xs ≤ length fs

-- the same as a test
unfoldable pub listable : List ℕ → List ℕ → List ℕ → Bool
listable b xs fs =
    leb (words_in b) most_words
    && (leb (constraints_in b) most_read
    && (eqb (length b) (size_of (words_in b) (constraints_in b)) && (leb (length xs) most_words && leb (length xs) (length fs))))

-- ---- what the functions for callers promise

-- where there is a text, and a buffer of 32,768 bytes or more: the whole text at the front, "bytes beyond these stay", and its
-- length; else nothing
pub record Delivered (is : Bool) (text old new : List ℕ) (size : Option ℕ) : Type 0 where
  pub bytes : new ≡ cond (is && leb 32768 (length old)) (over text old) old
  pub place : size ≡ cond (is && leb 32768 (length old)) (Some (length text)) None
