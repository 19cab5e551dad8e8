-- What a call that is not refused meets, and what its steps come to.
use Rattle.std.proofs.Common.{◌≡◌, refl, sym, ap, ◌∙◌, List, [], ◌∷◌, ◌++◌, ℕ, zero, suc, ◌+◌, ◌≤◌, ◌<◌, Ok, Err, arith, append_assoc, length, get_or, set}
use Rattle.std.proofs.Common.{take, drop, replicate, length-take-le}
use Rattle.std.proofs.lemmas.List.{length-map, length_push, map_more, drop_more, set_at}
use Rattle.meaning.specs.Lists.{Each}
use Rattle.meaning.specs.Sheet.{IsSheet}
use Rattle.meaning.specs.Bytes.{width_in, words_in, sheet_in, sheet_bytes}
use Rattle.meaning.specs.Tidy.{tidy, working}
use Rattle.meaning.specs.Walk.{list_order, State, walks_from, hidden_in, hidden}
use Rattle.meaning.specs.Refusal.{Call, refusal}
use Rattle.meaning.specs.Accepted.{Accepted}
use Rattle.meaning.specs.Outcome.{Outcome, over, answer_of, outcome_by, outcome}
use Rattle.meaning.proofs.Start.{working_work}
use Rattle.meaning.proofs.Calls as calls
use Rattle.sheet.specs.Work.{sheet_work}
use Rattle.sheet.specs.Working.{IsWidth, IsWorking}
use Rattle.sheet.specs.Bytes.{number_of, sheet_of}
use Rattle.sheet.specs.declared.refusal.Refusal.{Refusal}
use Rattle.sheet.specs.declared.Sheet.{Sheet}
use Rattle.hide.specs.Answer.{outcome_with}
use Rattle.hide.specs.Fate.{fate_number, fate_numbers}
use Rattle.hide.specs.Steps.{Follows, walked, state}
use Rattle.hide.specs.declared.fate.Fate.{Fate}
use Rattle.hide.specs.declared.fate.Fate.TheVariants.{Left}
use Rattle.sheet.proofs.Judged.{number_some}

-- ---- the fates of n words, and those of the first i of them put into a buffer

pub all_left : (n m : ℕ) → n ≤ m → fate_numbers (take n (replicate m Left)) ≡ replicate n 0
all_left zero m l = refl
all_left (suc n) zero l = absurd (let z : ⊥ = omega arith in z)
all_left (suc n) (suc m) l = ap (λ (r : List ℕ). 0 ∷ r) (all_left n m (omega arith))

pub put_next : (fs : List Fate) (old : List ℕ) (i : ℕ) → i < length fs → length fs ≤ length old
    → set (over (fate_numbers (take i fs)) old) i (fate_number (get_or fs i Left)) ≡ over (fate_numbers (take (i + 1) fs)) old
put_next fs old i b l =
    let xs : List ℕ = fate_numbers (take i fs) in
    let y : ℕ = fate_number (get_or fs i Left) in
    let n : length xs ≡ i = length-map (take i fs) fate_number ∙ length-take-le i fs (omega arith) in
    let here : over xs old ≡ xs ++ (get_or old i 0 ∷ drop (i + 1) old) =
    ap (λ (k : ℕ). xs ++ drop k old) n ∙ ap (λ (r : List ℕ). xs ++ r) (drop_more old i 0 (omega arith)) in
    let more : over (xs ++ (y ∷ [])) old ≡ xs ++ (y ∷ drop (i + 1) old) =
    ap (λ (k : ℕ). (xs ++ (y ∷ [])) ++ drop k old) (length_push xs y ∙ ap (λ (k : ℕ). k + 1) n) ∙ append_assoc xs (y ∷ []) (drop (i + 1) old) in
    ap (λ (r : List ℕ). set r i y) here ∙ set_at xs (get_or old i 0) (drop (i + 1) old) y i n ∙ sym more
    ∙ ap (λ (ys : List ℕ). over ys old) (sym (map_more fate_number fs i Left b))

-- ---- a call that is not refused

pub record Meets (c : Call) : Type 0 where
  pub accepted : Accepted c
  pub sheet : IsSheet (sheet_in c.sheet)
  pub width : IsWidth (width_in c.sheet)
  pub few : length c.list ≤ 16
  pub below : Each (λ x. x < 16) c.list

pub meets : (c : Call) → refusal c ≡ 0 → Meets c
meets c e =
    let a : Accepted c = calls.accepted c e in
    record {
      accepted = a;
      sheet = calls.input_sheet c e;
      width = record { some = a.sheet.head.limits.wide; most = a.sheet.head.limits.narrow };
      few = calls.list_few c e;
      below = calls.list_below c e;
    }

-- what it comes to: read, tidied, walked over and written
abbrev comes : Call → State → Outcome
comes c t =
    let a : List ℕ = sheet_bytes (answer_of (sheet_in c.sheet) t.work) in
    record { refused = 0; size = length a; walks = t.walks; out = over a c.out; fates = over t.fates c.fates }

module _ (c : Call) (e : refusal c ≡ 0) (s : Sheet) (ep : s.width ≡ width_in c.sheet) (es : sheet_work s ≡ working (sheet_in c.sheet)) where
  -- the sheet that is read can be worked on
  pub read_working : s.equalities.count ≤ 32 → s.others.count ≤ 32 → IsWorking s
  unfolding sheet_in
  read_working few_eqs few_others =
      let m : Meets c = meets c e in
      record {
        width = rw ep m.width;
        few_eqs = few_eqs;
        few_others = few_others;
        work = rw (ep, es) (working_work m.sheet);
      }

  pub accepted_outcome : (t u : Sheet) (old fs : List Fate) {out fates : List ℕ} {size walks : ℕ}
      → s.words ≡ words_in c.sheet → t.width ≡ s.width → t.words ≡ s.words → sheet_work t ≡ tidy s.width (sheet_work s)
      → Follows t u
      → fate_numbers old ≡ replicate (length c.list) 0
      → state u fs walks ≡ walks_from list_order (length c.list) t.width c.list (walked t old)
      → size ≡ length (sheet_bytes (sheet_of u.width u.words (sheet_work u)))
      → out ≡ over (sheet_bytes (sheet_of u.width u.words (sheet_work u))) c.out
      → fates ≡ over (fate_numbers fs) c.fates
      → outcome_with (Ok (record { length = size; walks = walks })) out fates ≡ outcome c
  unfolding outcome outcome_by answer_of hidden_in sheet_in
  accepted_outcome t u old fs {out = out} {fates = fates} {size = size} {walks = walks} en tp tn et f ez ew el eo ef =
      let tp' : t.width ≡ width_in c.sheet = tp ∙ ep in
      let up : u.width ≡ width_in c.sheet = f.width ∙ tp' in
      let un : u.words ≡ words_in c.sheet = f.words ∙ (tn ∙ en) in
      let is : state u fs walks ≡ hidden c.list (sheet_in c.sheet) = rw (ez, tp', et, ep, es) at ew in
      let came : outcome_with (Ok (record { length = size; walks = walks })) out fates ≡ comes c (state u fs walks) =
      rw (el, eo, ef, up, un) in
      came ∙ ap (comes c) is ∙ sym (ap (λ (k : ℕ). outcome_by k c) e)

-- ---- a refused call

pub refused_outcome : (c : Call) (r : Refusal) → number_of r ≡ refusal c → outcome_with (Err r) c.out c.fates ≡ outcome c
unfolding outcome outcome_by
refused_outcome c r e = go (refusal c) e
  where
    go : (k : ℕ) → number_of r ≡ k → outcome_with (Err r) c.out c.fates ≡ outcome_by k c
    go zero f = absurd (number_some r f)
    go (suc k) f = ap (λ (j : ℕ). record { refused = j; size = 0; walks = 0; out = c.out; fates = c.fates }) f
