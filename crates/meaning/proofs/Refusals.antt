-- The laws of the refusals: of any table the number is that of the first row that applies; what an accepted call meets; and that a
-- written sheet within the limits is never refused for its bytes.
use Prim.Native.Nat.{ℕ, zero, suc, ◌+◌, ◌-◌, ◌*◌, ◌^◌, ◌≤◌, ◌<◌}
use mathlib.Core.Path.{◌≡◌, refl, sym, ap, ◌∙◌}
use mathlib.Core.Logic.{◌↔◌, ◌≢◌}
use mathlib.Core.Bool.{Bool, true, false, not, ◌||◌, true≢false}
use mathlib.Core.List.{List, [], ◌∷◌, ◌++◌}
use native.Mathlib.Nat.{mul-le-mul, mul-le-mul_right}
use native.Mathlib.Omega.{arith}
use borrow.Author.Tests.{ltb-false, le-ltb, leb-false, lt-leb, eqb-true, eqb-false, eq-eqb, ne_eqb, not-false}
use lib.Dec.{leb, ltb, eqb}
use lib.ListN.{length}
use lib.Pow.{pow_pos}
use Rattle.meaning.specs.Lists.{Each, each_nil, each_cons, any_of}
use Rattle.meaning.specs.Sheet.{Constraint, Sheet, IsTerm, IsConstraint, IsSheet, most_width, most_each, most_read, most_written}
use Rattle.meaning.specs.Bytes.{stride, size_of, count_in, version_in, width_in, words_in, constraints_in}
use Rattle.meaning.specs.Bytes.{term_at, constraint_at, constraints_at, sheet_in, number_bytes, constraints_bytes, sheet_bytes}
use Rattle.meaning.specs.Refusal.{Test, row, first_in, Refuses, here, later, Accepts, equal_count, twice, too_large}
use Rattle.meaning.specs.Refusal.{bad_count, bad_version, bad_width, bad_words, bad_size, bad_kind, bad_number, too_many}
use Rattle.meaning.specs.Refusal.{bad_list, short_sheet_buffer, short_fate_buffer}
use Rattle.meaning.specs.Refusal.{head_rows, body_rows, sheet_rows, Call, call_rows, table, refusal}
use Rattle.meaning.specs.Accepted.{Limits, Headed, Bodied, Within, Readable, Accepted}
use Rattle.meaning.proofs.Members.{each_to, each_append, each_get_or, each_at}
use Rattle.meaning.proofs.Bytes.{length_term_at, term_at_absent, length_constraints_at}
use Rattle.meaning.proofs.Bytes.{Writable, Bytewise, length_sheet_bytes, number_back, sheet_back}

-- ---- the first row that applies

module _ (t : Test) (ts : List Test) where
  pub first_here : t.applies ≡ true → first_in (t ∷ ts) ≡ t.number
  unfolding first_in
  first_here e = rw (e, first_in)

  pub first_later : t.applies ≡ false → first_in (t ∷ ts) ≡ first_in ts
  unfolding first_in
  first_later e = rw (e, first_in)

-- the rows of a table have numbers, so that 0 is none of them
abbrev pub Numbered : List Test → Type 0
Numbered ts = Each (λ (t : Test). 0 < t.number) ts

pub numbered : (k : ℕ) (b : Bool) {ts : List Test} → Numbered ts → Numbered (row (suc k) b ∷ ts)
numbered k b ns = each_cons {x = row (suc k) b} (omega arith) ns

-- the number is that of the first row that applies
pub first_refuses : {ts : List Test} → Numbered ts → (k : ℕ) → (first_in ts ≡ suc k) ↔ Refuses (suc k) ts
unfolding first_in
first_refuses each_nil k = (λ e. absurd (let n : ⊥ = omega arith in n), elim [ ])
first_refuses (each_cons {x = t} {xs = ts} n ns) k = (to t.applies refl (first_refuses ns k).0, from (first_refuses ns k).1)
  where
    to : (b : Bool) → t.applies ≡ b → (first_in ts ≡ suc k → Refuses (suc k) ts) → first_in (t ∷ ts) ≡ suc k → Refuses (suc k) (t ∷ ts)
    to true a r e = here (sym (first_here t ts a) ∙ e) a
    to false a r e = later a (r (sym (first_later t ts a) ∙ e))

    from : (Refuses (suc k) ts → first_in ts ≡ suc k) → Refuses (suc k) (t ∷ ts) → first_in (t ∷ ts) ≡ suc k
    from r (here e a) = first_here t ts a ∙ e
    from r (later a s) = first_later t ts a ∙ r s

-- it is 0 where none does
pub first_accepts : {ts : List Test} → Numbered ts → (first_in ts ≡ 0) ↔ Accepts ts
unfolding first_in
first_accepts each_nil = (λ e. record { none = each_nil }, λ a. refl)
first_accepts (each_cons {x = t} {xs = ts} n ns) = (to t.applies refl (first_accepts ns).0, λ a. from (first_accepts ns).1 a.none)
  where
    to : (b : Bool) → t.applies ≡ b → (first_in ts ≡ 0 → Accepts ts) → first_in (t ∷ ts) ≡ 0 → Accepts (t ∷ ts)
    to true a r e = absurd (let z : ⊥ = omega (arith, first_here t ts a) in z)
    to false a r e = record { none = each_cons a (r (sym (first_later t ts a) ∙ e)).none }

    from : (Accepts ts → first_in ts ≡ 0) → Each (λ (t : Test). t.applies ≡ false) (t ∷ ts) → first_in (t ∷ ts) ≡ 0
    from r (each_cons a rest) = first_later t ts a ∙ r (record { none = rest })

-- of one table before another: the first one's number, or the second one's where no row of the first applies
module _ (us : List Test) where
  pub first_before : {ts : List Test} → Numbered ts → first_in ts ≢ 0 → first_in (ts ++ us) ≡ first_in ts
  unfolding first_in
  first_before each_nil h = absurd (h refl)
  first_before (each_cons {x = t} {xs = ts} n ns) h = go t.applies refl (first_before ns)
    where
      go : (b : Bool) → t.applies ≡ b → (first_in ts ≢ 0 → first_in (ts ++ us) ≡ first_in ts) → first_in (t ∷ (ts ++ us)) ≡ first_in (t ∷ ts)
      go true a r = first_here t (ts ++ us) a ∙ sym (first_here t ts a)
      go false a r = first_later t (ts ++ us) a ∙ r (λ z. h (first_later t ts a ∙ z)) ∙ sym (first_later t ts a)

  passed_before : {ts : List Test} → Each (λ (t : Test). t.applies ≡ false) ts → first_in (ts ++ us) ≡ first_in us
  passed_before each_nil = refl
  passed_before (each_cons {x = t} a rest) = first_later t _ a ∙ passed_before rest

  pub first_behind : {ts : List Test} → Numbered ts → first_in ts ≡ 0 → first_in (ts ++ us) ≡ first_in us
  first_behind ns e = passed_before ((first_accepts ns).0 e).none

-- ---- the tables

pub head_numbered : (b : List ℕ) → Numbered (head_rows b)
unfolding head_rows
head_numbered b = numbered 0 _ (numbered 1 _ (numbered 2 _ (numbered 3 _ (numbered 4 _ each_nil))))

pub body_numbered : (s : Sheet) → Numbered (body_rows s)
unfolding body_rows
body_numbered s = numbered 5 _ (numbered 6 _ (numbered 7 _ each_nil))

pub sheet_numbered : (b : List ℕ) → Numbered (sheet_rows b)
sheet_numbered b = each_append (head_numbered b) (body_numbered (sheet_in b))

pub call_numbered : (n : ℕ) (list out fates : List ℕ) → Numbered (call_rows n list out fates)
unfolding call_rows
call_numbered n list out fates = numbered 8 _ (numbered 9 _ (numbered 10 _ each_nil))

pub table_numbered : (c : Call) → Numbered (table c)
table_numbered c = each_append (sheet_numbered c.sheet) (call_numbered _ c.list c.out c.fates)

-- ---- what a test leaves when it is false

neither : {A B : Type 0} (a b : Bool) → (a ≡ false) ↔ A → (b ≡ false) ↔ B → ((a || b) ≡ false) ↔ (A × B)
neither true b f g = (λ e. absurd (true≢false e), λ h. absurd (true≢false (f.1 h.0)))
neither false b f g = (λ e. (f.0 refl, g.0 e), λ h. g.1 h.1)

not_below : (a b : ℕ) → (ltb a b ≡ false) ↔ (b ≤ a)
not_below a b = (ltb-false a b, le-ltb a b)

not_up_to : (a b : ℕ) → (leb a b ≡ false) ↔ (b < a)
not_up_to a b = (leb-false a b, lt-leb a b)

not_zero : (a : ℕ) → (eqb a 0 ≡ false) ↔ (1 ≤ a)
not_zero a = (λ e. let h : ¬ (a ≡ 0) = eqb-false a 0 e in omega arith, λ h. ne_eqb a 0 (omega arith))

not_different : (a b : ℕ) → (not (eqb a b) ≡ false) ↔ (a ≡ b)
not_different a b = (λ e. eqb-true a b (not-false (eqb a b) e), λ h. ap not (eq-eqb a b h))

apart : {A : Type 0} {P : A → Type 0} {x : A} {xs : List A} → Each P (x ∷ xs) → P x × Each P xs
apart (each_cons p ps) = (p, ps)

none_of_cons
    : {A : Type 0} {P : A → Type 0} (f : A → Bool) (x : A) (xs : List A)
    → (f x ≡ false) ↔ P x → (any_of f xs ≡ false) ↔ Each P xs → (any_of f (x ∷ xs) ≡ false) ↔ Each P (x ∷ xs)
none_of_cons {A} {P} f x xs g h =
    let both : ((f x || any_of f xs) ≡ false) ↔ (P x × Each P xs) = neither (f x) (any_of f xs) g h in
    (λ e. (let k = both.0 e in each_cons k.0 k.1), λ k. both.1 (apart k))

none_of
    : {A : Type 0} {P : A → Type 0} (f : A → Bool) → ((x : A) → (f x ≡ false) ↔ P x) → (xs : List A) → (any_of f xs ≡ false) ↔ Each P xs
none_of f g [] = (λ e. each_nil, λ h. refl)
none_of f g (x ∷ xs) = none_of_cons f x xs (g x) (none_of f g xs)

-- ---- the rows one by one

count_row : (b : List ℕ) → (bad_count b ≡ false) ↔ ((8 ≤ length b) × (count_in b ≡ length b - 4))
unfolding bad_count
count_row b = neither _ _ (not_below _ _) (not_different _ _)

version_row : (v : ℕ) → (bad_version v ≡ false) ↔ (v ≡ 1)
unfolding bad_version
version_row v = not_different v 1

width_row : (p : ℕ) → (bad_width p ≡ false) ↔ ((1 ≤ p) × (p ≤ most_width))
unfolding bad_width
width_row p = neither _ _ (not_zero _) (not_below _ _)

words_row : (n : ℕ) → (bad_words n ≡ false) ↔ ((1 ≤ n) × (n ≤ 16))
unfolding bad_words
words_row n = neither _ _ (not_zero _) (not_below _ _)

size_row : (n m size : ℕ) → (bad_size n m size ≡ false) ↔ ((m ≤ most_read) × (size ≡ size_of n m))
unfolding bad_size
size_row n m size = neither _ _ (not_below _ _) (not_different _ _)

kind_row : (cs : List Constraint) → (bad_kind cs ≡ false) ↔ Each (λ (c : Constraint). c.kind ≤ 3) cs
unfolding bad_kind
kind_row cs = none_of _ (λ c. not_below 3 c.kind) cs

many_row : (cs : List Constraint) → (too_many cs ≡ false) ↔ ((equal_count cs ≤ most_each) × (length cs - equal_count cs ≤ most_each))
unfolding too_many
many_row cs = neither _ _ (not_below _ _) (not_below _ _)

list_row : (n : ℕ) (xs : List ℕ) → (bad_list n xs ≡ false) ↔ (Each (λ x. x < n) xs × (twice xs ≡ false))
unfolding bad_list
list_row n xs = neither _ _ (none_of _ (not_up_to n) xs) (λ e. e, λ e. e)

-- row 7 of terms that were read: seventeen numbers, the absent words zero, whatever the bytes
module _ (p n : ℕ) (h : n ≤ 16) (b : List ℕ) where
  term_row : (i : ℕ) → (any_of (leb (2 ^ p)) (term_at b n i) ≡ false) ↔ IsTerm p n (term_at b n i)
  term_row i = (to, λ t. below.1 (each_get_or (term_at b n i) 0 t.row.small))
    where
      below : (any_of (leb (2 ^ p)) (term_at b n i) ≡ false) ↔ Each (λ x. x < 2 ^ p) (term_at b n i)
      below = none_of (leb (2 ^ p)) (not_up_to (2 ^ p)) (term_at b n i)

      to : any_of (leb (2 ^ p)) (term_at b n i) ≡ false → IsTerm p n (term_at b n i)
      to e =
          record {
            row = record { long = length_term_at b n i h; small = each_at (below.0 e) (pow_pos p) };
            absent = term_at_absent b n i;
          }

  constraint_row : (i : ℕ) → (too_large p (constraint_at b n i) ≡ false) ↔ IsConstraint p n (constraint_at b n i)
  unfolding constraint_at
  constraint_row i = (λ e. (let k = both.0 e in record { left = k.0; right = k.1 }), λ t. both.1 (t.left, t.right))
    where
      both : (too_large p (constraint_at b n i) ≡ false) ↔ (IsTerm p n (term_at b n (i + 1)) × IsTerm p n (term_at b n (i + 1 + 4 * (n + 1))))
      both = neither _ _ (term_row (i + 1)) (term_row (i + 1 + 4 * (n + 1)))

  constraints_row
      : (i m : ℕ) → (any_of (too_large p) (constraints_at b n i m) ≡ false) ↔ Each (IsConstraint p n) (constraints_at b n i m)
  unfolding constraints_at
  constraints_row i zero = (λ e. each_nil, λ t. refl)
  constraints_row i (suc m) = none_of_cons (too_large p) (constraint_at b n i) _ (constraint_row i) (constraints_row (i + stride n) m)

number_row : (b : List ℕ) → words_in b ≤ 16
    → (bad_number (width_in b) (sheet_in b).constraints ≡ false) ↔ Each (IsConstraint (width_in b) (words_in b)) (sheet_in b).constraints
unfolding bad_number sheet_in
number_row b h = constraints_row (width_in b) (words_in b) h b 8 (constraints_in b)

-- ---- the rows together

-- rows 1 to 5 do not apply exactly when the head is right
pub head_passes : (b : List ℕ) → (first_in (head_rows b) ≡ 0) ↔ Headed b
unfolding head_rows
head_passes b = (λ e. to ((first_accepts (head_numbered b)).0 e).none, λ h. (first_accepts (head_numbered b)).1 (record { none = from h }))
  where
    to : Each (λ (t : Test). t.applies ≡ false) (head_rows b) → Headed b
    to (each_cons one (each_cons two (each_cons three (each_cons four (each_cons five each_nil))))) =
        let (long, counted) = (count_row b).0 one in
        let (wide, narrow) = (width_row (width_in b)).0 three in
        let (some, few) = (words_row (words_in b)).0 four in
        let (short, sized) = (size_row (words_in b) (constraints_in b) (length b)).0 five in
        record {
          long = long;
          counted = counted;
          version = (version_row (version_in b)).0 two;
          limits = record { wide = wide; narrow = narrow; some = some; few = few; short = short };
          sized = sized;
        }

    from : Headed b → Each (λ (t : Test). t.applies ≡ false) (head_rows b)
    from h =
        let l : Limits (width_in b) (words_in b) (constraints_in b) = h.limits in
        each_cons ((count_row b).1 (h.long, h.counted))
        (each_cons ((version_row (version_in b)).1 h.version)
        (each_cons ((width_row (width_in b)).1 (l.wide, l.narrow))
        (each_cons ((words_row (words_in b)).1 (l.some, l.few))
        (each_cons ((size_row (words_in b) (constraints_in b) (length b)).1 (l.short, h.sized)) each_nil))))

-- rows 6 to 8 of a sheet that was read do not apply exactly when its constraints are within the limits
pub body_passes : (b : List ℕ) → words_in b ≤ 16 → (first_in (body_rows (sheet_in b)) ≡ 0) ↔ Bodied (sheet_in b)
unfolding body_rows sheet_in
body_passes b few = (
  λ e. to ((first_accepts (body_numbered (sheet_in b))).0 e).none,
  λ h. (first_accepts (body_numbered (sheet_in b))).1 (record { none = from h }),
)
  where
    cs : List Constraint
    cs = (sheet_in b).constraints

    to : Each (λ (t : Test). t.applies ≡ false) (body_rows (sheet_in b)) → Bodied (sheet_in b)
    to (each_cons six (each_cons seven (each_cons eight each_nil))) =
        let (equalities, others) = (many_row cs).0 eight in
        record { kinds = (kind_row cs).0 six; terms = (number_row b few).0 seven; equalities = equalities; others = others }

    from : Bodied (sheet_in b) → Each (λ (t : Test). t.applies ≡ false) (body_rows (sheet_in b))
    from h =
        each_cons ((kind_row cs).1 h.kinds)
        (each_cons ((number_row b few).1 h.terms) (each_cons ((many_row cs).1 (h.equalities, h.others)) each_nil))

-- rows 1 to 8 do not apply exactly when the bytes are readable
pub sheet_passes : (b : List ℕ) → (first_in (sheet_rows b) ≡ 0) ↔ Readable b
sheet_passes b = (λ e. to e _ refl, from)
  where
    to : first_in (sheet_rows b) ≡ 0 → (k : ℕ) → first_in (head_rows b) ≡ k → Readable b
    to e zero h =
        let head : Headed b = (head_passes b).0 h in
        record { head = head; body = (body_passes b head.limits.few).0 (sym (first_behind _ (head_numbered b) h) ∙ e) }
    to e (suc k) h =
        let n : first_in (head_rows b) ≢ 0 = λ z. omega arith in
        absurd (n (sym (first_before _ (head_numbered b) n) ∙ e))

    from : Readable b → first_in (sheet_rows b) ≡ 0
    from r = first_behind _ (head_numbered b) ((head_passes b).1 r.head) ∙ (body_passes b r.head.limits.few).1 r.body

-- a call is accepted exactly when its sheet is readable, its list names words of it, each once, and the buffers have room
pub refusal_accepted : (c : Call) → (refusal c ≡ 0) ↔ Accepted c
unfolding refusal call_rows short_sheet_buffer short_fate_buffer
refusal_accepted c = (λ e. to e _ refl, from)
  where
    n : ℕ
    n = words_in c.sheet

    met : Readable c.sheet → Each (λ (t : Test). t.applies ≡ false) (call_rows (words_in c.sheet) c.list c.out c.fates) → Accepted c
    met r (each_cons nine (each_cons ten (each_cons eleven each_nil))) =
        let (listed, once) = (list_row n c.list).0 nine in
        record { sheet = r; listed = listed; once = once; room = (not_below _ _).0 ten; places = (not_below _ _).0 eleven }

    to : refusal c ≡ 0 → (k : ℕ) → first_in (sheet_rows c.sheet) ≡ k → Accepted c
    to e zero h =
        met ((sheet_passes c.sheet).0 h) ((first_accepts (call_numbered _ c.list c.out c.fates)).0 (sym (first_behind _ (sheet_numbered c.sheet) h) ∙ e)).none
    to e (suc k) h =
        let z : first_in (sheet_rows c.sheet) ≢ 0 = λ y. omega arith in
        absurd (z (sym (first_before _ (sheet_numbered c.sheet) z) ∙ e))

    from : Accepted c → refusal c ≡ 0
    from a =
        first_behind _ (sheet_numbered c.sheet) ((sheet_passes c.sheet).1 a.sheet)
        ∙ (first_accepts (call_numbered _ c.list c.out c.fates)).1 (record {
          none = each_cons ((list_row n c.list).1 (a.listed, a.once))
              (each_cons ((not_below _ _).1 a.room) (each_cons ((not_below _ _).1 a.places) each_nil));
        })

-- ---- what is read is a sheet within the limits

pub readable_within : {b : List ℕ} → Readable b → Within (sheet_in b)
unfolding sheet_in
readable_within {b} r =
    let l : Limits (width_in b) (words_in b) (constraints_in b) = r.head.limits in
    let m : length (sheet_in b).constraints ≡ constraints_in b = length_constraints_at b (words_in b) 8 (constraints_in b) in
    record {
      limits = record { wide = l.wide; narrow = l.narrow; some = l.some; few = l.few; short = rw m l.short };
      body = r.body;
    }

-- its terms are of its width and words, and it has a width
pub readable_sheet : {b : List ℕ} → Readable b → IsSheet (sheet_in b)
readable_sheet r = let w = readable_within r in record { wide = w.limits.wide; all = w.body.terms }

-- ---- what is written is readable

pub within_writable : {s : Sheet} → Within s → Writable s
within_writable w = record { narrow = w.limits.narrow; few = w.limits.few; terms = w.body.terms }

pub within_bytewise : {s : Sheet} → Within s → Bytewise s
within_bytewise w =
    record {
      width = omega (arith, w.limits.narrow);
      words = omega (arith, w.limits.few);
      constraints = omega (arith, w.limits.short);
      kinds = each_to (λ c k. omega arith) w.body.kinds;
    }

-- a sheet within the limits is written as bytes that rows 1 to 8 leave
pub written_readable : {s : Sheet} → Within s → Readable (sheet_bytes s)
unfolding sheet_bytes number_bytes
written_readable {s} w =
    let n : ℕ = s.words in
    let m : ℕ = length s.constraints in
    let l : Limits s.width n m = w.limits in
    let size : length (sheet_bytes s) ≡ size_of n m = length_sheet_bytes (within_writable w) in
    let few : m * n ≤ 64 * 16 = mul-le-mul l.short l.few in
    let rest : List ℕ = 1 ∷ s.width ∷ n ∷ m ∷ constraints_bytes n s.constraints in
    let counted : count_in (sheet_bytes s) ≡ size_of n m - 4 = number_back (size_of n m - 4) rest (omega arith) in
    record {
      head = record { long = omega arith; counted = rw size counted; version = refl; limits = l; sized = size };
      body = rw (sheet_back (within_writable w)) w.body;
    }

-- an answer of at most 48 constraints fits into the room that row 10 asks for
pub written_fits
    : {s : Sheet} → Writable s → length s.constraints ≤ most_written → length (sheet_bytes s) ≤ size_of s.words most_written
written_fits {s} w h =
    let n : ℕ = s.words in
    omega (arith, length_sheet_bytes w, mul-le-mul_right n h)
