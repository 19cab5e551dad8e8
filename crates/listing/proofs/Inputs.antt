-- The program's input: where it is cut, and what the call on its two parts comes to as text.
use mathlib.Core.Path.{◌≡◌, sym, ap, ◌∙◌}
use mathlib.Core.Bool.{true}
use mathlib.Core.List.{List}
use Prim.Native.Nat.{ℕ, suc, pred, ◌+◌, ◌≤◌, ◌<◌, min}
use native.Mathlib.Nat.{min-eq_left, min-eq_right}
use native.Mathlib.Decide.{dec_le}
use native.Mathlib.Omega.{arith}
use lib.ListN.{length, take, drop, replicate, length-replicate, drop_of_length-le}
use lib.Seq.{take_all, take-length, drop-length}
use borrow.Author.Tests.{lt-ltb, le-ltb}
use Rattle.meaning.specs.Bytes.{count_in, sheet_in}
use Rattle.meaning.specs.Refusal.{Call}
use Rattle.meaning.specs.Accepted.{Readable}
use Rattle.meaning.specs.Outcome.{Outcome, outcome}
use Rattle.meaning.specs.Demands.{Demand2}
use Rattle.meaning.specs.Listing.{sheet_part, list_part, listing, refused_text, outcome_text, printed}
use Rattle.meaning.proofs.Refusals.{first_accepts, sheet_numbered, sheet_passes}
use Rattle.meaning.proofs.Calls.{outcome_refused, accepted, list_few}
use Rattle.sheet.specs.Bytes.{number_of}
use Rattle.sheet.specs.declared.refusal.Refusal.{Refusal}
use Rattle.sheet.proofs.Judged.{number_within}
use Rattle.hide.specs.Answer.{outcome_with}
use Rattle.std.specs.Prelude.{Ok, Err}
use Rattle.hide.proofs.Demands.{demand2}
use Rattle.listing.specs.Text.{listable}
use Rattle.listing.proofs.Delivered.{fits_listable}

-- ---- the cut: no more are taken than there are, and what is left is the list

take_least : (k : ℕ) (b : List ℕ) → take (min k (length b)) b ≡ take k b
take_least k b = go (dec_le k (length b))
  where
    go : Dec (k ≤ length b) → take (min k (length b)) b ≡ take k b
    go (yes h) = rw (min-eq_left h)
    go (no h) = let l : length b ≤ k = omega arith in rw (min-eq_right l, take_all k b l, take-length b)

drop_least : (k : ℕ) (b : List ℕ) → drop (min k (length b)) b ≡ drop k b
drop_least k b = go (dec_le k (length b))
  where
    go : Dec (k ≤ length b) → drop (min k (length b)) b ≡ drop k b
    go (yes h) = rw (min-eq_left h)
    go (no h) = let l : length b ≤ k = omega arith in rw (min-eq_right l, drop_of_length-le b l, drop-length b)

-- ---- the call on the two parts of the input b, cut at k

abbrev pub call_with : List ℕ → List ℕ → Call
call_with sheet list = record { sheet = sheet; list = list; out = replicate 6584 0; fates = replicate 16 0 }

abbrev pub call_on : List ℕ → ℕ → Call
call_on b k = call_with (take k b) (drop k b)

pub cut : (b : List ℕ) (k : ℕ) {sheet list : List ℕ} {o : Outcome}
    → sheet ≡ take k b → list ≡ drop k b → o ≡ outcome (call_with sheet list) → o ≡ outcome (call_on b k)
cut b k s l e = rw (s, l) at e

-- where it is accepted, the answer can be listed
module _ (b : List ℕ) (k : ℕ) {size walks : ℕ} {out fates : List ℕ} (is : outcome_with (Ok (record { length = size; walks = walks })) out fates ≡ outcome (call_on b k)) where
  met : Demand2 (call_on b k) (outcome_with (Ok (record { length = size; walks = walks })) out fates)
  met = demand2 (call_on b k) (record { length = size; walks = walks }) out fates is

  few : length (drop k b) ≤ 16
  few = list_few (call_on b k) (sym (outcome_refused (call_on b k)) ∙ sym (ap (λ (o : Outcome). o.refused) is))

  pub answer_size : size ≤ 6584
  unfolding sheet_in
  answer_size =
      let a = accepted (call_on b k) (sym (outcome_refused (call_on b k)) ∙ sym (ap (λ (o : Outcome). o.refused) is)) in
      omega (arith, met.fits, a.room, length-replicate {A = ℕ} 6584 0)

  pub answer_listable : length fates ≡ 16 → listable (take size out) (drop k b) fates ≡ true
  answer_listable l =
      let r : Readable (take size out) = (sheet_passes (take size out)).0 ((first_accepts (sheet_numbered _)).1 met.readable) in
      fits_listable (take size out) (drop k b) fates
      (record {
        few_words = r.head.limits.few;
        few_constraints = r.head.limits.short;
        sized = r.head.sized;
        few_listed = few;
        fated = omega (arith, few);
      })

-- ---- what is printed

pub printed_long : (b : List ℕ) → 16384 < length b → printed b ≡ refused_text 1
unfolding printed
printed_long b h = rw (printed, lt-ltb 16384 (length b) h)

module _ (b : List ℕ) {k : ℕ} (h : length b ≤ 16384) (e : k ≡ min (4 + count_in b) (length b)) where
  printed_outcome : {o : Outcome} → o ≡ outcome (call_on b k) → printed b ≡ outcome_text o (drop k b)
  unfolding printed
  printed_outcome f =
      let l : drop k b ≡ list_part b = rw e (drop_least (4 + count_in b) b) in
      let s : take k b ≡ sheet_part b = rw e (take_least (4 + count_in b) b) in
      rw (printed, le-ltb 16384 (length b) h, f, l, s)

  pub printed_refused : (why : Refusal) {out fates : List ℕ} → outcome_with (Err why) out fates ≡ outcome (call_on b k)
      → printed b ≡ refused_text (number_of why)
  unfolding outcome_text
  printed_refused why f =
      let n : number_of why ≡ suc (pred (number_of why)) = omega (arith, number_within why) in
      printed_outcome f ∙ rw n

  pub printed_accepted : {size walks : ℕ} {out fates : List ℕ} → outcome_with (Ok (record { length = size; walks = walks })) out fates ≡ outcome (call_on b k)
      → printed b ≡ listing (sheet_in (take size out)) (drop k b) fates
  unfolding outcome_text
  printed_accepted f = printed_outcome f
