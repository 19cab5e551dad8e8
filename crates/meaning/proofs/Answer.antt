-- The answer as a sheet: it is within the limits, so what is written of it passes tests 1 to 8, fits the buffer that test 10
-- asks for, and is read back.
use mathlib.Core.Path.{◌≡◌, refl, ap, ◌∙◌}
use mathlib.Core.List.{List, [], ◌∷◌, ◌++◌, map}
use Prim.Native.Nat.{ℕ, zero-le, ◌+◌, ◌≤◌, ◌<◌}
use native.Mathlib.Omega.{arith}
use lib.ListN.{length, get_or, length-append, length-map}
use borrow.Author.Tests.{ne_eqb}
use Rattle.meaning.specs.Lists.{Each, each_nil, each_cons}
use Rattle.meaning.specs.Row.{Row, IsRow, most_words, zero_row}
use Rattle.meaning.specs.Sheet.{Constraint, Sheet, Work, IsTerm, IsConstraint, IsSheet, IsOther, IsWork, most_each, most_written, equal_zero, constraints_of}
use Rattle.meaning.specs.Tidy.{tidy, working}
use Rattle.meaning.specs.Layers.{try}
use Rattle.meaning.specs.Walk.{Order, State, Ends}
use Rattle.meaning.specs.Refusal.{equal_count}
use Rattle.meaning.specs.Outcome.{answer_of}
use Rattle.meaning.proofs.Members.{each_get, each_to, each_append, each_map, each_unmap, each_head, each_tail, part_length, part_each, part_map}
use Rattle.meaning.proofs.Value.{zero_row_lem, coefficient_zero}
use Rattle.meaning.proofs.Absent.{Lacking, LackingIn, Absent, occurs_absent}
use Rattle.meaning.proofs.Kept.{kept_part}
use Rattle.meaning.proofs.Tidying.{Tidied, tidied_false, tidied_rows_lem, tidied, tidy_work, tidy_few}
use Rattle.meaning.proofs.Try.{kinds, Fewer, try_work, try_few}
use Rattle.meaning.proofs.Start.{Sorted, none, equal, different, ordered, sorted, working_work, others_count}
use Rattle.meaning.proofs.Walks.{ends_keep}
use Rattle.meaning.proofs.Demand2.{answer_count}
use Rattle.meaning.specs.Accepted.{Within}

-- ---- what stays true of the working sheet: few rows and others, and their kinds

record Limited (p : ℕ) (w : Work) : Type 0 where
  work : IsWork p w
  rows : length w.eqs ≤ 16
  many : length w.others ≤ most_each
  known : Each (λ k. k ≤ 3) (kinds w.others)

limited_tidy : {p : ℕ} {w : Work} → 1 ≤ p → IsWork p w → length w.others ≤ most_each → Each (λ k. k ≤ 3) (kinds w.others)
    → Limited p (tidy p w)
limited_tidy {p} {w} wide hw m ks = record { work = tidy_work wide hw; rows = tidy_few hw; many = (go (tidied hw)).0; known = (go (tidied hw)).1 }
  where
    go : {v : Work} → Tidied p w v → (length v.others ≤ most_each) × Each (λ k. k ≤ 3) (kinds v.others)
    go (tidied_false n) = (omega arith, each_nil)
    go (tidied_rows_lem h r z l f) = (omega (arith, part_length (kept_part w.others)), part_each (part_map (λ c. c.kind) (kept_part w.others)) ks)

sorted_kinds : {p : ℕ} {cs os : List Constraint} {rs : List Row} → Sorted p cs rs os → Each (λ (c : Constraint). c.kind ≤ 3) cs
    → Each (λ k. k ≤ 3) (kinds os)
sorted_kinds none ks = each_nil
sorted_kinds (equal e r) (each_cons k ks) = sorted_kinds r ks
sorted_kinds (different e r) (each_cons k ks) = each_cons {x = 1} (omega arith) (sorted_kinds r ks)
sorted_kinds (ordered l r) (each_cons k ks) = each_cons k (sorted_kinds r ks)

module _ {o : Order} {s : Sheet} {xs : List ℕ} {t : State} (ends : Ends o xs s t)
    (h : IsSheet s) (w : Within s) (bs : Each (λ x. x < most_words) xs) where
  limited : Limited s.width t.work
  unfolding working
  limited =
      ends_keep ends (λ v fs. Limited s.width v)
      (λ v i f g q.
      let b : get_or xs i 0 < most_words = each_get i 0 g.inside bs in
      let n : Fewer (try s.width (get_or xs i 0) v.work).work v.work = try_few q.work b in
      limited_tidy h.wide (try_work q.work b) (omega (arith, n.others, q.many)) (part_each n.stay q.known))
      (limited_tidy h.wide (working_work h) (omega (arith, others_count s, w.body.others)) (sorted_kinds (sorted s.width s.constraints) w.body.kinds))

-- ---- counting what is listed

equal_rows : (rs : List Row) (os : List Constraint) → equal_count (map equal_zero rs ++ os) ≡ length rs + equal_count os
equal_rows [] os = omega arith
equal_rows (r ∷ rs) os = omega (arith, equal_rows rs os)

no_equal : {p : ℕ} {os : List Constraint} → Each (IsOther p) os → equal_count os ≡ 0
no_equal each_nil = refl
no_equal (each_cons {x = c} o os) = rw (ne_eqb c.kind 0 (λ e. omega (arith, o.other))) (omega (arith, no_equal os))

constraints_length : (w : Work) → length (constraints_of w) ≡ length w.eqs + length w.others
constraints_length w = length-append (map equal_zero w.eqs) w.others ∙ ap (λ (n : ℕ). n + length w.others) (length-map w.eqs equal_zero)

-- ---- the answer is within the limits

zero_term : (p n : ℕ) → IsTerm p n zero_row
zero_term p n = record { row = zero_row_lem p; absent = λ x l m. coefficient_zero x }

module _ {o : Order} {s : Sheet} {xs : List ℕ} {t : State} (ends : Ends o xs s t)
    (h : IsSheet s) (w : Within s) (bs : Each (λ x. x < most_words) xs) where
  lacked : (x : ℕ) → s.words ≤ x → x < most_words → Absent x t.work
  lacked x l m = occurs_absent t.work (answer_count ends h bs x l m)

  -- every row, then every other, lacks the words from n on
  row_terms : {rs : List Row} → Each (IsRow s.width) rs → ((x : ℕ) → s.words ≤ x → x < most_words → Each (Lacking x) rs)
      → Each (IsTerm s.width s.words) rs
  row_terms each_nil l = each_nil
  row_terms (each_cons r rs) l =
      each_cons (record { row = r; absent = λ x k m. (each_head (l x k m)).lacks }) (row_terms rs (λ x k m. each_tail (l x k m)))

  other_terms : {os : List Constraint} → Each (IsOther s.width) os → ((x : ℕ) → s.words ≤ x → x < most_words → Each (LackingIn x) os)
      → Each (IsConstraint s.width s.words) os
  other_terms each_nil l = each_nil
  other_terms (each_cons o os) l =
      each_cons (record {
        left = record { row = o.left; absent = λ x k m. (each_head (l x k m)).left.lacks };
        right = record { row = o.right; absent = λ x k m. (each_head (l x k m)).right.lacks };
      }) (other_terms os (λ x k m. each_tail (l x k m)))

  pub answer_within : Within (answer_of s t.work)
  unfolding answer_of
  answer_within =
      let v : Work = t.work in
      let q : Limited s.width v = limited ends h w bs in
      let n : length (constraints_of v) ≡ length v.eqs + length v.others = constraints_length v in
      let e : equal_count (constraints_of v) ≡ length v.eqs + 0 = equal_rows v.eqs v.others ∙ ap (λ (m : ℕ). length v.eqs + m) (no_equal q.work.sides) in
      record {
        limits = record {
          wide = w.limits.wide;
          narrow = w.limits.narrow;
          some = w.limits.some;
          few = w.limits.few;
          short = omega (arith, q.rows, q.many);
        };
        body = record {
          kinds = each_append (each_map equal_zero (each_to (λ r i. zero-le) q.work.rows)) (each_unmap (λ c. c.kind) v.others q.known);
          terms = each_append
              (each_map equal_zero (each_to (λ r t. record { left = t; right = zero_term s.width s.words })
              (row_terms q.work.rows (λ x l m. (lacked x l m).rows))))
              (other_terms q.work.sides (λ x l m. (lacked x l m).sides));
          equalities = omega (arith, q.rows);
          others = omega (arith, q.many);
        };
      }

  pub answer_few : length (constraints_of t.work) ≤ most_written
  answer_few = let q : Limited s.width t.work = limited ends h w bs in omega (arith, constraints_length t.work, q.rows, q.many)
