-- Texts that are written part after part: each whole from its parts.
use mathlib.Core.Path.{◌≡◌, refl, sym}
use mathlib.Core.List.{List, [], ◌∷◌, ◌++◌, append_assoc, append-nil}
use Prim.Native.Nat.{ℕ, zero, suc, ◌+◌, ◌-◌, ◌*◌, ◌≤◌, ◌<◌}
use native.Mathlib.Nat.{zero-add}
use native.Mathlib.Numerals.{add-one}
use native.Mathlib.Omega.{arith}
use lib.ListN.{length, get_or, set, take, replicate, length-append, length-replicate}
use lib.Seq.{take_at, set_split}
use Rattle.meaning.specs.Sheet.{Constraint}
use Rattle.meaning.specs.Bytes.{stride, number_at, numbers_at, term_at, constraint_at, constraints_at, sheet_in, width_in, words_in, constraints_in}
use Rattle.meaning.specs.Listing.{decimal, numbers_text, line, kind_name, term_numbers, constraint_line, constraint_lines, head_line}
use Rattle.meaning.specs.Listing.{first_line, fate_name, fate_line, fate_lines, listing, refused_text}
use Rattle.meaning.specs.Outcome.{over}
use Rattle.meaning.proofs.Bytes.{numbers_at_snoc, constraints_at_snoc, length_numbers_at, length_constraints_at, get_or_behind}
use Rattle.sheet.proofs.Writing.{written_none, IsWritten-then}
use Rattle.listing.specs.Text.{Wrote}

-- ---- parts

pub wrote_none : (old : List ℕ) (at : ℕ) → Wrote old at [] old at
wrote_none old at = record { bytes = sym (written_none old at); place = omega arith }

pub wrote_one : (old : List ℕ) (at v : ℕ) → at < length old → Wrote old at (v ∷ []) (set old at v) (at + 1)
wrote_one old at v h = record { bytes = rw add-one (set_split old at v h); place = refl }

-- one part and the next
pub Wrote-then
    : {old a l b m : List ℕ} {at j k : ℕ} → at ≤ length old → Wrote old at a l j → Wrote l j b m k → Wrote old at (a ++ b) m k
Wrote-then {old} {a} {l} {b} {m} {at} {j} {k} h f g =
    record {
      bytes = IsWritten-then old at a j b h f.place f.bytes g.bytes;
      place = rw length-append (omega arith);
    }

regrouped : (a b c d e : List ℕ) → (((a ++ b) ++ c) ++ d) ++ e ≡ (a ++ (b ++ (c ++ d))) ++ e
regrouped a b c d e = simp append_assoc

-- a line of four parts
wrote_line
    : {old a b c d la lb lc ld le : List ℕ} {at ja jb jc jd je : ℕ} → at ≤ length old → Wrote old at a la ja → Wrote la ja b lb jb
    → Wrote lb jb c lc jc → Wrote lc jc d ld jd → Wrote ld jd (10 ∷ []) le je → Wrote old at (line (a ++ (b ++ (c ++ d)))) le je
wrote_line {a} {b} {c} {d} h wa wb wc wd we =
    rw (← regrouped a b c d (10 ∷ [])) (Wrote-then h (Wrote-then h (Wrote-then h (Wrote-then h wa wb) wc) wd) we)

-- ---- numbers

pub number_wrote
    : {old l m : List ℕ} {at j k : ℕ} (x : ℕ) → at ≤ length old → Wrote old at (32 ∷ []) l j → Wrote l j (decimal x) m k
    → Wrote old at (numbers_text (x ∷ [])) m k
unfolding numbers_text
number_wrote x h f g = rw append-nil (Wrote-then h f g)

numbers_append : (xs ys : List ℕ) → numbers_text (xs ++ ys) ≡ numbers_text xs ++ numbers_text ys
unfolding numbers_text
numbers_append [] ys = refl
numbers_append (x ∷ xs) ys = rw (numbers_append xs ys, append_assoc (32 ∷ decimal x))

-- one number more
pub numbers_more
    : {old l m : List ℕ} {at q r : ℕ} (b : List ℕ) (i j : ℕ) → at ≤ length old → Wrote old at (numbers_text (numbers_at b i j)) l q
    → Wrote l q (numbers_text (number_at b (i + 4 * j) ∷ [])) m r → Wrote old at (numbers_text (numbers_at b i (j + 1))) m r
numbers_more b i j h f g =
    rw (add-one, numbers_at_snoc b i j, numbers_append (numbers_at b i j) (number_at b (i + 4 * j) ∷ [])) (Wrote-then h f g)

-- ---- constraints

-- the numbers of a term that is read are those that stand there
term_numbers_lem : (b : List ℕ) (n i : ℕ) → n ≤ 16 → term_numbers n (term_at b n i) ≡ numbers_at b i (n + 1)
unfolding term_at
term_numbers_lem b n i h =
    let l = length_numbers_at b i n in
    let z = length-replicate {A = ℕ} (16 - n) 0 in
    let last : List ℕ = number_at b (i + 4 * n) ∷ [] in
    rw (
      take_at (numbers_at b i n) (replicate (16 - n) 0 ++ last) n l,
      get_or_behind (numbers_at b i n) (replicate (16 - n) 0 ++ last) 16 (16 - n) (omega arith),
      get_or_behind (replicate (16 - n) 0) last (16 - n) 0 (omega arith),
      add-one,
    ) (sym (numbers_at_snoc b i n))

constraint_text
    : (b : List ℕ) (n i : ℕ) → n ≤ 16
    → constraint_line n (constraint_at b n i)
    ≡ line
    (kind_name (get_or b i 0)
    ++ (numbers_text (numbers_at b (i + 1) (n + 1)) ++ ((32 ∷ 124 ∷ []) ++ numbers_text (numbers_at b (i + 1 + 4 * (n + 1)) (n + 1)))))
unfolding constraint_line constraint_at
constraint_text b n i h = rw (term_numbers_lem b n (i + 1) h, term_numbers_lem b n (i + 1 + 4 * (n + 1)) h)

pub constraint_wrote
    : {old k l m r e : List ℕ} {at jk jl jm jr je : ℕ} (b : List ℕ) (n i : ℕ) → n ≤ 16 → at ≤ length old
    → Wrote old at (kind_name (get_or b i 0)) k jk
    → Wrote k jk (numbers_text (numbers_at b (i + 1) (n + 1))) l jl → Wrote l jl (32 ∷ 124 ∷ []) m jm
    → Wrote m jm (numbers_text (numbers_at b (i + 1 + 4 * (n + 1)) (n + 1))) r jr → Wrote r jr (10 ∷ []) e je
    → Wrote old at (constraint_line n (constraint_at b n i)) e je
constraint_wrote b n i hn h wk wl wm wr we =
    rw (constraint_text b n i hn) (wrote_line h wk wl wm wr we)

lines_snoc
    : (n : ℕ) (cs : List Constraint) (c : Constraint)
    → constraint_lines n (cs ++ (c ∷ [])) ≡ constraint_lines n cs ++ constraint_line n c
unfolding constraint_lines
lines_snoc n [] c = append-nil (constraint_line n c)
lines_snoc n (d ∷ cs) c = rw (lines_snoc n cs c, append_assoc (constraint_line n d))

-- one line more
pub constraints_more
    : {old l e : List ℕ} {at q r : ℕ} (b : List ℕ) (n i m : ℕ) → at ≤ length old → Wrote old at (constraint_lines n (constraints_at b n i m)) l q
    → Wrote l q (constraint_line n (constraint_at b n (i + m * stride n))) e r
    → Wrote old at (constraint_lines n (constraints_at b n i (m + 1))) e r
constraints_more b n i m h f g =
    rw (add-one, constraints_at_snoc b n i m, lines_snoc n (constraints_at b n i m) (constraint_at b n (i + m * stride n))) (Wrote-then h f g)

-- ---- fates

pub fate_wrote
    : {old k l m r e : List ℕ} {at jk jl jm jr je : ℕ} (x f : ℕ) → at ≤ length old → Wrote old at (102 ∷ 97 ∷ 116 ∷ 101 ∷ []) k jk
    → Wrote k jk (numbers_text (x ∷ [])) l jl → Wrote l jl (32 ∷ []) m jm → Wrote m jm (fate_name f) r jr → Wrote r jr (10 ∷ []) e je
    → Wrote old at (fate_line x f) e je
unfolding fate_line
fate_wrote x f h wk wl wm wr we = wrote_line h wk wl wm wr we

fates_snoc
    : (xs fs : List ℕ) (i : ℕ) → i < length xs → i < length fs
    → fate_lines (take (suc i) xs) fs ≡ fate_lines (take i xs) fs ++ fate_line (get_or xs i 0) (get_or fs i 0)
unfolding fate_lines
fates_snoc [] fs i h g = absurd (let z : ⊥ = omega arith in z)
fates_snoc (x ∷ xs) [] i h g = absurd (let z : ⊥ = omega arith in z)
fates_snoc (x ∷ xs) (f ∷ fs) zero h g = append-nil (fate_line x f)
fates_snoc (x ∷ xs) (f ∷ fs) (suc i) h g =
    rw (fates_snoc xs fs i (omega arith) (omega arith), append_assoc (fate_line x f))

-- one line more
pub fates_more
    : {old l m : List ℕ} {at q r : ℕ} (xs fs : List ℕ) (i : ℕ) → at ≤ length old → i < length xs → i < length fs
    → Wrote old at (fate_lines (take i xs) fs) l q → Wrote l q (fate_line (get_or xs i 0) (get_or fs i 0)) m r
    → Wrote old at (fate_lines (take (i + 1) xs) fs) m r
fates_more xs fs i h bx bf w v = rw (add-one, fates_snoc xs fs i bx bf) (Wrote-then h w v)

-- ---- the whole

pub head_wrote
    : {old a b c d e : List ℕ} {ja jb jc jd je : ℕ} (p n m : ℕ) → Wrote old 0 (115 ∷ 104 ∷ 101 ∷ 101 ∷ 116 ∷ []) a ja
    → Wrote a ja (numbers_text (p ∷ [])) b jb → Wrote b jb (numbers_text (n ∷ [])) c jc → Wrote c jc (numbers_text (m ∷ [])) d jd
    → Wrote d jd (10 ∷ []) e je → Wrote old 0 (head_line p n m) e je
head_wrote {old} p n m wa wb wc wd we =
    rw (numbers_append (p ∷ []) (n ∷ m ∷ []), numbers_append (n ∷ []) (m ∷ [])) (wrote_line (omega arith) wa wb wc wd we)

pub answer_wrote
    : {old a b new : List ℕ} {ja jb r : ℕ} (bytes xs fs : List ℕ)
    → Wrote old 0 (head_line (width_in bytes) (words_in bytes) (constraints_in bytes)) a ja
    → Wrote a ja (constraint_lines (words_in bytes) (constraints_at bytes (words_in bytes) 8 (constraints_in bytes))) b jb
    → Wrote b jb (fate_lines xs fs) new r → Wrote old 0 (listing (sheet_in bytes) xs fs) new r
unfolding listing first_line sheet_in
answer_wrote {old} bytes xs fs wa wb wf =
    let h : 0 ≤ length old = omega arith in
    let l = length_constraints_at bytes (words_in bytes) 8 (constraints_in bytes) in
    rw l (rw append_assoc at (Wrote-then h (Wrote-then h wa wb) wf))

pub refusal_wrote
    : {old a b c : List ℕ} {ja jb jc : ℕ} (k : ℕ) → Wrote old 0 (114 ∷ 101 ∷ 102 ∷ 117 ∷ 115 ∷ 101 ∷ 100 ∷ []) a ja
    → Wrote a ja (numbers_text (k ∷ [])) b jb → Wrote b jb (10 ∷ []) c jc → Wrote old 0 (refused_text k) c jc
unfolding refused_text
refusal_wrote {old} k wa wb wc = let h : 0 ≤ length old = omega arith in Wrote-then h (Wrote-then h wa wb) wc

-- written at the front, the text lies over what stood there
pub wrote_front : {old text new : List ℕ} {r : ℕ} → Wrote old 0 text new r → (new ≡ over text old) × (r ≡ length text)
wrote_front w = (rw zero-add at w.bytes, rw zero-add at w.place)

-- ---- names

-- a number that is none of the four
pub name_none : {A : Type 0} (a b c d e : A) (k : ℕ) → 3 < k → get_or (a ∷ b ∷ c ∷ d ∷ []) k e ≡ e
name_none a b c d e zero h = absurd (let z : ⊥ = omega arith in z)
name_none a b c d e (suc zero) h = absurd (let z : ⊥ = omega arith in z)
name_none a b c d e (suc (suc zero)) h = absurd (let z : ⊥ = omega arith in z)
name_none a b c d e (suc (suc (suc zero))) h = absurd (let z : ⊥ = omega arith in z)
name_none a b c d e (suc (suc (suc (suc k)))) h = refl

pub kind_none : (k : ℕ) → 3 < k → [] ≡ kind_name k
unfolding kind_name
kind_none k h = sym (name_none _ _ _ _ [] k h)

pub fate_none : (f : ℕ) → 3 < f → [] ≡ fate_name f
unfolding fate_name
fate_none f h = sym (name_none _ _ _ _ [] f h)
