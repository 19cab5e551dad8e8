-- Any two outcomes that the promise of a function permits are the same.
use Rattle.std.proofs.Common.{ℕ, ◌≡◌, ◌+◌, ◌*◌, ◌<◌, ◌≤◌, zero, suc, inl, inr, refl, sym, subst, ap, ap₂, ◌∙◌, Bool, List, [], ◌∷◌, ◌++◌, map, length, get_or, drop, set, slice_set, slice_index_or, drop-cons, drop_of_length-le, length-append, arith}
use Rattle.std.proofs.lemmas.Bool.{cases_lt}
use Rattle.std.proofs.lemmas.List.{map-set, get_or-map}
use Rattle.std.proofs.Math.Bridge.{le_prop}
use Rattle.meaning.specs.Lists.{Each, each_nil, each_cons}
use Rattle.meaning.specs.Sheet.{Constraint, Work}
use Rattle.meaning.specs.Bytes.{sheet_bytes}
use Rattle.meaning.specs.Outcome.{over}
use Rattle.meaning.proofs.Members.{each_get}
use Rattle.row.specs.Block.{row_of, put_row}
use Rattle.row.proofs.Blocks.{length_row, length_put, row_first, row_behind, put_first, put_behind}
use Rattle.sheet.specs.Bytes.{sheet_of}
use Rattle.sheet.specs.Kind.{kind_number}
use Rattle.sheet.specs.Others.{blank}
use Rattle.sheet.specs.Work.{constraint_of, constraints_of, new_sheet}
use Rattle.sheet.specs.declared.kind.Kind.{Kind}
use Rattle.sheet.specs.declared.kind.Kind.TheVariants.{Equal, Different, AtMost, Below, Unknown}
use Rattle.sheet.specs.declared.kind.UnknownKind.{UnknownKind}
use Rattle.sheet.specs.declared.constraint.Constraint.{Constraint as Held}
use Rattle.sheet.specs.declared.Sheet.{Sheet}

pub new_once : (width words : ℕ) (holds : Bool) {s t : Sheet} → s ≡ new_sheet width words holds → t ≡ new_sheet width words holds → s ≡ t
new_once width words holds e f = e ∙ sym f

-- the others once other `from` stands in the place of other `to`
pub record OtherMoved (others : List Held) (from to : ℕ) (others' : List Held) : Type 0 where
  pub all : others' ≡ slice_set others to (slice_index_or others from blank)

pub other_moved_once : {others others' others'' : List Held} {from to : ℕ}
    → OtherMoved others from to others' → OtherMoved others from to others'' → others' ≡ others''
other_moved_once m n = m.all ∙ sym n.all

-- constraints that stand for the same ones are the same
-- a number above 3 has one proof that it is
numbered : (b : ℕ) → 3 < b → UnknownKind
numbered b h = record { byte = b; above = h }

numbered_once : {b c : ℕ} → b ≡ c → (h : 3 < b) (k : 3 < c) → numbered b h ≡ numbered c k
unfolding numbered
numbered_once {b} {c} e h k = subst (λ (m : ℕ). (l : 3 < m) → numbered b h ≡ numbered m l) e (λ l i. numbered b (le_prop h l i)) k

unknown_once : (u v : UnknownKind) → u.byte ≡ v.byte → u ≡ v
unfolding numbered
unknown_once u v e = numbered_once e u.above v.above

-- the kind of a number up to 3, and any other for one above
back : ℕ → Kind → Kind
back zero k = Equal
back (suc zero) k = Different
back (suc (suc zero)) k = AtMost
back (suc (suc (suc zero))) k = Below
back (suc (suc (suc (suc n)))) k = k

known_back : (k l : Kind) → kind_number k ≤ 3 → back (kind_number k) l ≡ k
unfolding back
known_back Equal l h = refl
known_back Different l h = refl
known_back AtMost l h = refl
known_back Below l h = refl
known_back (Unknown u) l h = absurd (let z : ⊥ = omega (arith, u.above, h) in z)

unknown_back : (k l : Kind) → 3 < kind_number k → kind_number k ≡ kind_number l → k ≡ l
unknown_back (Unknown u) (Unknown v) h e = ap Unknown (unknown_once u v e)
unknown_back (Unknown u) Equal h e = absurd (let z : ⊥ = omega (arith, h, e) in z)
unknown_back (Unknown u) Different h e = absurd (let z : ⊥ = omega (arith, h, e) in z)
unknown_back (Unknown u) AtMost h e = absurd (let z : ⊥ = omega (arith, h, e) in z)
unknown_back (Unknown u) Below h e = absurd (let z : ⊥ = omega (arith, h, e) in z)
unknown_back Equal l h e = absurd (let z : ⊥ = omega (arith, h) in z)
unknown_back Different l h e = absurd (let z : ⊥ = omega (arith, h) in z)
unknown_back AtMost l h e = absurd (let z : ⊥ = omega (arith, h) in z)
unknown_back Below l h e = absurd (let z : ⊥ = omega (arith, h) in z)

kind_once : (k l : Kind) → kind_number k ≡ kind_number l → k ≡ l
kind_once k l e =
    elim (cases_lt 3 (kind_number k)) [
      | inl h ↦ unknown_back k l h e
      | inr h ↦ sym (known_back k l h) ∙ ap (λ (n : ℕ). back n l) e ∙ known_back l l (omega (arith, h, e))
    ]

abbrev made : Kind → List ℕ → List ℕ → Held
made k l r = record { kind = k; left = record { w = l }; right = record { w = r } }

constraint_once : (c d : Held) → constraint_of c ≡ constraint_of d → c ≡ d
constraint_once c d e =
    let k = kind_once c.kind d.kind (ap (λ (x : Constraint). x.kind) e) in
    let l = ap (λ (x : Constraint). x.left) e in
    let r = ap (λ (x : Constraint). x.right) e in
    ap₂ (λ (l r : List ℕ). made c.kind l r) l r ∙ ap (λ (k : Kind). made k d.left.w d.right.w) k

pub constraints_once : (cs ds : List Held) → constraints_of cs ≡ constraints_of ds → cs ≡ ds
constraints_once [] [] e = refl
constraints_once [] (d ∷ ds) e = absurd (let z : ⊥ = omega (arith, ap length e) in z)
constraints_once (c ∷ cs) [] e = absurd (let z : ⊥ = omega (arith, ap length e) in z)
constraints_once (c ∷ cs) (d ∷ ds) e =
    let head = constraint_once c d (ap (λ (l : List Constraint). get_or l 0 (constraint_of c)) e) in
    let tail = constraints_once cs ds (ap (λ (l : List Constraint). drop 1 l) e) in
    ap₂ (λ (x : Held) (xs : List Held). x ∷ xs) head tail

-- ---- the same of others in blocks: their kinds, and their sides in rows 2 i and 2 i + 1

pub record Moved (kinds sides : List ℕ) (from to : ℕ) (kinds' sides' : List ℕ) : Type 0 where
  pub kind : kinds' ≡ set kinds to (get_or kinds from 0)
  pub both : sides' ≡ put_row (put_row sides (2 * to) (row_of sides (2 * from))) (2 * to + 1) (row_of sides (2 * from + 1))

pub move_other_once : {kinds sides kinds' sides' kinds'' sides'' : List ℕ} {from to : ℕ}
    → Moved kinds sides from to kinds' sides' → Moved kinds sides from to kinds'' sides'' → (kinds' ≡ kinds'') × (sides' ≡ sides'')
move_other_once m n = (m.kind ∙ sym n.kind, m.both ∙ sym n.both)

-- the blocks once other i stands at the place n: the sides once the left one is there, and once both are
abbrev pub moved_kinds : List ℕ → ℕ → ℕ → List ℕ
moved_kinds kinds i n = set kinds n (get_or kinds i 0)

abbrev pub left_moved : List ℕ → ℕ → ℕ → List ℕ
left_moved sides i n = put_row sides (2 * n) (row_of sides (2 * i))

abbrev pub moved_sides : List ℕ → ℕ → ℕ → List ℕ
moved_sides sides i n = put_row (left_moved sides i n) (2 * n + 1) (row_of sides (2 * i + 1))

module _ (kinds sides : List ℕ) (i n : ℕ) (lk : length kinds ≡ 32) (ls : length sides ≡ 1088) (bi : i < 32) (bn : n < 32) where
  left_long : length (row_of sides (2 * i)) ≡ 17
  left_long = length_row sides (2 * i) (omega arith)

  right_long : length (row_of sides (2 * i + 1)) ≡ 17
  right_long = length_row sides (2 * i + 1) (omega arith)

  left_fits : (2 * n + 1) * 17 ≤ length sides
  left_fits = omega arith

  -- the block of the sides keeps its length once the left one is moved
  left_moved_lem : length (left_moved sides i n) ≡ 1088
  left_moved_lem = length_put sides (2 * n) (row_of sides (2 * i)) left_fits left_long ∙ ls

  right_fits : (2 * n + 1 + 1) * 17 ≤ length (left_moved sides i n)
  right_fits = omega (arith, left_moved_lem)

  -- and once both are
  pub length_moved : length (moved_sides sides i n) ≡ 1088
  length_moved = length_put (left_moved sides i n) (2 * n + 1) (row_of sides (2 * i + 1)) right_fits right_long ∙ left_moved_lem

-- ---- the blocks that a list of others stands in

abbrev kind_at : Held → ℕ
kind_at c = kind_number c.kind

abbrev pub kinds_of : List Held → List ℕ
kinds_of cs = map kind_at cs

abbrev pub sides_of : List Held → List ℕ
sides_of [] = []
sides_of (c ∷ cs) = c.left.w ++ (c.right.w ++ sides_of cs)

-- its rows are all of 17 numbers
pub record Sided (c : Held) : Type 0 where
  pub left : length c.left.w ≡ 17
  pub right : length c.right.w ≡ 17

-- so 32 others fill 32 numbers and 1088
pub length_sides : {cs : List Held} → Each Sided cs → length (sides_of cs) ≡ length cs * 34
length_sides each_nil = refl
length_sides (each_cons s ss) = simp length-append (omega (arith, s.left, s.right, length_sides ss))

-- the sides of other i are rows 2 i and 2 i + 1 there
left_at : {cs : List Held} (i : ℕ) → Each Sided cs → i < length cs → row_of (sides_of cs) (2 * i) ≡ (get_or cs i blank).left.w
left_at i each_nil h = absurd (let z : ⊥ = omega arith in z)
left_at zero (each_cons {x = c} {xs = cs} s ss) h = row_first c.left.w (c.right.w ++ sides_of cs) s.left
left_at (suc i) (each_cons {x = c} {xs = cs} s ss) h =
    let e : 2 * suc i ≡ suc (suc (2 * i)) = omega arith in
    rw (e, row_behind c.left.w (c.right.w ++ sides_of cs) s.left (suc (2 * i)), row_behind c.right.w (sides_of cs) s.right (2 * i))
    (left_at i ss (omega arith))

right_at : {cs : List Held} (i : ℕ) → Each Sided cs → i < length cs → row_of (sides_of cs) (2 * i + 1) ≡ (get_or cs i blank).right.w
right_at i each_nil h = absurd (let z : ⊥ = omega arith in z)
right_at zero (each_cons {x = c} {xs = cs} s ss) h =
    row_behind c.left.w (c.right.w ++ sides_of cs) s.left 0 ∙ row_first c.right.w (sides_of cs) s.right
right_at (suc i) (each_cons {x = c} {xs = cs} s ss) h =
    let e : 2 * suc i + 1 ≡ suc (suc (2 * i + 1)) = omega arith in
    rw (e, row_behind c.left.w (c.right.w ++ sides_of cs) s.left (suc (2 * i + 1)), row_behind c.right.w (sides_of cs) s.right (2 * i + 1))
    (right_at i ss (omega arith))

-- and those of another in the place n are put there
sides_put : {cs : List Held} (n : ℕ) (c : Held) → Sided c → Each Sided cs → n < length cs
    → sides_of (set cs n c) ≡ put_row (put_row (sides_of cs) (2 * n) c.left.w) (2 * n + 1) c.right.w
sides_put n c p each_nil h = absurd (let z : ⊥ = omega arith in z)
sides_put zero c p (each_cons {x = d} {xs = cs} s ss) h =
    rw (
      put_first d.left.w (d.right.w ++ sides_of cs) s.left c.left.w p.left,
      put_behind c.left.w (d.right.w ++ sides_of cs) p.left 0 c.right.w,
      put_first d.right.w (sides_of cs) s.right c.right.w p.right,
    )
sides_put (suc n) c p (each_cons {x = d} {xs = cs} s ss) h =
    let e : 2 * suc n ≡ suc (suc (2 * n)) = omega arith in
    let f : suc (suc (2 * n)) + 1 ≡ suc (suc (2 * n + 1)) = omega arith in
    let one : List ℕ = put_row (sides_of cs) (2 * n) c.left.w in
    rw (
      e,
      f,
      put_behind d.left.w (d.right.w ++ sides_of cs) s.left (suc (2 * n)) c.left.w,
      put_behind d.right.w (sides_of cs) s.right (2 * n) c.left.w,
      put_behind d.left.w (d.right.w ++ one) s.left (suc (2 * n + 1)) c.right.w,
      put_behind d.right.w one s.right (2 * n + 1) c.right.w,
      sides_put n c p ss (omega arith),
    )

-- so the blocks stand for the same constraints: other i, and others i, i + 1, .., i + n − 1
abbrev pub other_at : List ℕ → List ℕ → ℕ → Constraint
other_at kinds sides i = record { kind = get_or kinds i 0; left = row_of sides (2 * i); right = row_of sides (2 * i + 1) }

abbrev pub others_from : List ℕ → List ℕ → ℕ → ℕ → List Constraint
others_from kinds sides i zero = []
others_from kinds sides i (suc n) = other_at kinds sides i ∷ others_from kinds sides (suc i) n

other_in_blocks : {cs : List Held} (i : ℕ) → Each Sided cs → i < length cs
    → other_at (kinds_of cs) (sides_of cs) i ≡ constraint_of (get_or cs i blank)
other_in_blocks {cs} i s h = rw (get_or-map kind_at cs i blank 0 h, left_at i s h, right_at i s h)

behind_in_blocks : {cs : List Held} (i n : ℕ) → Each Sided cs → i + n ≡ length cs
    → others_from (kinds_of cs) (sides_of cs) i n ≡ constraints_of (drop i cs)
behind_in_blocks {cs} i zero s e = rw (drop_of_length-le cs {i = i} (omega arith))
behind_in_blocks {cs} i (suc n) s e =
    rw (drop-cons cs i blank (omega arith))
    (ap₂ (λ (o : Constraint) (os : List Constraint). o ∷ os) (other_in_blocks i s (omega arith)) (behind_in_blocks (suc i) n s (omega arith)))

pub others_in_blocks : {cs : List Held} → Each Sided cs → others_from (kinds_of cs) (sides_of cs) 0 (length cs) ≡ constraints_of cs
others_in_blocks {cs} s = behind_in_blocks 0 (length cs) s (omega arith)

-- what `move_other` does to others is done to their blocks
pub moved_in_blocks : {others others' : List Held} {from to : ℕ} → Each Sided others → from < length others → to < length others
    → OtherMoved others from to others' → Moved (kinds_of others) (sides_of others) from to (kinds_of others') (sides_of others')
moved_in_blocks {others} {others'} {from} {to} s bf bt m =
    let c : Held = get_or others from blank in
    record {
      kind = rw (m.all, map-set kind_at others to c, get_or-map kind_at others from blank 0 bf);
      both =
          rw (m.all, left_at from s bf, right_at from s bf)
          (sides_put to c (each_get from blank bf s) s bt);
    }

-- the answer of `Sheet::write` and the buffer then, of a sheet of width p and n words that is the working sheet w
pub record WrittenOut (p n : ℕ) (w : Work) (old : List ℕ) (size : ℕ) (new : List ℕ) : Type 0 where
  pub long : size ≡ length (sheet_bytes (sheet_of p n w))
  pub bytes : new ≡ over (sheet_bytes (sheet_of p n w)) old

pub write_out_once : {p n : ℕ} {w : Work} {old : List ℕ} {size size' : ℕ} {new new' : List ℕ}
    → WrittenOut p n w old size new → WrittenOut p n w old size' new' → (size ≡ size') × (new ≡ new')
write_out_once m n = (m.long ∙ sym n.long, m.bytes ∙ sym n.bytes)
