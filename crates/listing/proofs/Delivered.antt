-- What the functions for callers promise: an answer to list, and the text at the front of a buffer.
use mathlib.Core.Path.{◌≡◌, sym, ap, ◌∙◌}
use mathlib.Core.Bool.{Bool, true, false, cond, ◌&&◌, and-false, true≢false}
use native.Mathlib.Omega.{arith}
use mathlib.Core.List.{List}
use Prim.Native.Nat.{ℕ, ◌≤◌, ◌<◌}
use lib.Dec.{leb, eqb}
use lib.ListN.{length, length-append}
use borrow.Author.Tests.{leb-true, le-leb, lt-leb, eqb-true, eq-eqb}
use Rattle.meaning.specs.Bytes.{size_of, words_in, constraints_in}
use Rattle.meaning.specs.Outcome.{over}
use Rattle.meaning.proofs.Tests.{both_true}
use Rattle.std.specs.Prelude.{Option, Some, None, unwrap_or, is_some}
use Rattle.listing.specs.Text.{Fits, listable, Delivered}

-- ---- an answer to list

module _ (b xs fs : List ℕ) where
  pub listable_fits : listable b xs fs ≡ true → Fits b xs fs
  unfolding listable
  listable_fits e =
      let n = both_true (leb (words_in b) 16) _ e in
      let m = both_true (leb (constraints_in b) 64) _ n.1 in
      let s = both_true (eqb (length b) (size_of (words_in b) (constraints_in b))) _ m.1 in
      let l = both_true (leb (length xs) 16) _ s.1 in
      record {
        few_words = leb-true _ _ n.0;
        few_constraints = leb-true _ _ m.0;
        sized = eqb-true _ _ s.0;
        few_listed = leb-true _ _ l.0;
        fated = leb-true _ _ l.1;
      }

  -- the last test, where the others hold
  pub listable_last
      : words_in b ≤ 16 → constraints_in b ≤ 64 → length b ≡ size_of (words_in b) (constraints_in b) → length xs ≤ 16
      → leb (length xs) (length fs) ≡ listable b xs fs
  unfolding listable
  listable_last n m s l = rw (le-leb (words_in b) 16 n, le-leb (constraints_in b) 64 m, eq-eqb _ _ s, le-leb (length xs) 16 l)

  pub fits_listable : Fits b xs fs → listable b xs fs ≡ true
  fits_listable f = sym (listable_last f.few_words f.few_constraints f.sized f.few_listed) ∙ le-leb _ _ f.fated

-- ---- at the front of a buffer that is long enough, and nothing where it is not or there is nothing to list

pub delivered_not : (text : List ℕ) {old : List ℕ} {is : Bool} → is ≡ false → Delivered is text old old None
delivered_not text e = record { bytes = rw e; place = rw e }

pub delivered_short : (is : Bool) (text : List ℕ) {old : List ℕ} → length old < 32768 → Delivered is text old old None
delivered_short is text {old} h =
    let t = lt-leb 32768 (length old) h in
    record { bytes = rw (t, and-false is); place = rw (t, and-false is) }

pub delivered_all
    : {is : Bool} {text put old new : List ℕ} {r : ℕ} → is ≡ true → 32768 ≤ length old → put ≡ text → new ≡ over put old → r ≡ length put
    → Delivered is text old new (Some r)
delivered_all {is} {text} {put} {old} e h p b s =
    let t = le-leb 32768 (length old) h in
    record { bytes = rw (e, t, ← p) b; place = rw (e, t, ← p, s) }

-- ---- for a caller's proof

-- the text is in the buffer
pub delivered_size : {is : Bool} {text old new : List ℕ} {r : ℕ} → Delivered is text old new (Some r) → r ≤ length new
delivered_size {is} {text} {old} {new} {r} w = go (is && leb 32768 (length old)) w.bytes w.place
  where
    go : (t : Bool) → new ≡ cond t (over text old) old → Some r ≡ cond t (Some (length text)) None → r ≤ length new
    go true e p = omega (arith, rw length-append at (ap length e), ap (λ (o : Option ℕ). unwrap_or o 0) p)
    go false e p = absurd (true≢false (ap (λ (o : Option ℕ). is_some o) p))

-- any two outcomes that the promise permits are the same
pub one_listing
    : {is : Bool} {text old new new' : List ℕ} {r r' : Option ℕ}
    → Delivered is text old new r → Delivered is text old new' r' → (new ≡ new') × (r ≡ r')
one_listing w v = (w.bytes ∙ sym v.bytes, w.place ∙ sym v.place)
