-- `hide::walk::try_bound` meets its contract: each way out is one of the definition's, by the laws of the equality to go by.
use Rattle.std.proofs.Common.{◌≡◌, ◌≤◌, refl, sym, ◌∙◌, ℕ, arith, true, true≢false}
use Rattle.meaning.specs.Layers.{spare}
use Rattle.meaning.specs.Sheet.{Constraint, IsOther}
use Rattle.meaning.proofs.Members.{each_to}
use Rattle.layers.specs.Sides.{IsSides}
use Rattle.sheet.specs.Others.{others_of}
use Rattle.sheet.specs.Work.{constraints_of}
use Rattle.sheet.proofs.Made.{others_few}
use Rattle.hide.proofs.Trying.{tried_fewer, bound_inside, bound_lead, bound_row, next_sides, next_few, bound_left, bound_alone, bound_spare}
use Rattle.hide.proofs.walk.try_bound.Goals.{else-left-via-then-left+else-not-has_spare, else-left-via-else-left}
use Rattle.hide.proofs.walk.try_bound.Goals as goal

pub unit-requires : goal.unit-requires
unit-requires c =
    let q = c.requires in
    let inside = bound_inside q.sheet.0 q.sheet.1 q.below q.chosen in
    (omega (arith, inside, q.sheet.0.few_eqs), q.sheet.0.width.most, q.sheet.1, bound_lead q.sheet.0 q.sheet.1 q.below q.chosen)

pub invariant_of-known-clause-is_row : goal.invariant_of-known-clause-is_row
invariant_of-known-clause-is_row c =
    let q = c.requires in bound_row q.sheet.0 q.sheet.1 q.below q.chosen c.unit.ensures

-- both sides of an other are rows
other_sides : {p : ℕ} {o : Constraint} → IsOther p o → IsSides p o
other_sides h = record { left = h.left; right = h.right }

pub replace_sides-requires : goal.replace_sides-requires
replace_sides-requires c =
    let q = c.requires in
    rw c.as_slice.ensures (omega (arith, others_few c.args.s.now.others, q.sheet.0.few_others), each_to (λ _ o. other_sides o) q.sheet.0.work.sides)

pub has_spare-requires : goal.has_spare-requires
has_spare-requires c =
    let q = c.requires in
    let e = rw c.as_slice.ensures at c.replace_sides.ensures.others in
    rw c.as_slice-then-left.ensures (
      q.sheet.0.width,
      q.sheet.1,
      omega arith,
      next_few q.sheet.0 q.sheet.1 q.below q.chosen c.unit.ensures _ e,
      next_sides q.sheet.0 q.sheet.1 q.below q.chosen c.unit.ensures _ e,
    )

pub returns-then-not-has_spare : goal.returns-then-not-has_spare
returns-then-not-has_spare c =
    let q = c.requires in
    let e = rw c.as_slice.ensures at c.replace_sides.ensures.others in
    let has = rw c.as_slice-2.ensures at (sym c.sides_have-left.ensures ∙ c.if-left.true) in
    let none = rw c.as_slice-then-left.ensures at (sym c.has_spare.ensures ∙ c.if-not-has_spare.true) in
    tried_fewer q.sheet.0 q.sheet.1 _ _ refl refl refl (omega arith) (bound_left q.sheet.0 q.sheet.1 q.below q.chosen c.unit.ensures _ e has none)

pub replace_rows-requires : goal.replace_rows-requires
replace_rows-requires c =
    let q = c.requires in (q.sheet.0.few_eqs, bound_inside q.sheet.0 q.sheet.1 q.below q.chosen, q.sheet.0.work.rows)

pub returns-then-left-2 : goal.returns-then-left-2
returns-then-left-2 c =
    let q = c.requires in
    let e = rw c.as_slice.ensures at c.replace_sides.ensures.others in
    let has = rw c.as_slice-2.ensures at (sym c.sides_have-left.ensures ∙ c.if-left-2.true) in
    let same = c.replace.ensures.others ∙ c.as_slice-3.ensures in
    let some : spare c.args.s.now.width c.args.x c.args.c.power (constraints_of (others_of c.replace_sides.new.next)) ≡ true =
    elim c.else-left.branch [
      | else-left-via-then-left+else-not-has_spare w ↦
          rw w.as_slice-then-left.ensures at (sym w.has_spare.ensures ∙ w.if-not-has_spare.false)
      | else-left-via-else-left w ↦ absurd (true≢false (sym c.if-left-2.true ∙ w.if-left.false))
    ] in
    let after = rw (← c.as_slice-3.ensures) at (others_few c.replace_sides.new.next) in
    let before = rw (← c.as_slice.ensures) at (others_few c.args.s.now.others) in
    let fewer : c.drop_with.new.others.count ≤ c.args.s.now.others.count = omega (arith, c.drop_with.ensures.fewer, c.replace.ensures.count, after, c.replace_sides.ensures.count, before) in
    tried_fewer q.sheet.0 q.sheet.1 _ _ refl refl c.replace_rows.ensures.count fewer
    (rw (c.replace_rows.ensures.rows, c.drop_with.ensures.without, same) (bound_spare q.sheet.0 q.sheet.1 q.below q.chosen c.unit.ensures _ e has some))

pub returns-else-left-2 : goal.returns-else-left-2
returns-else-left-2 c =
    let q = c.requires in
    let e = rw c.as_slice.ensures at c.replace_sides.ensures.others in
    let none = rw c.as_slice-2.ensures at (sym c.sides_have-left.ensures ∙ c.if-left-2.false) in
    let same = c.replace.ensures.others ∙ c.as_slice-3.ensures in
    let after = rw (← c.as_slice-3.ensures) at (others_few c.replace_sides.new.next) in
    let before = rw (← c.as_slice.ensures) at (others_few c.args.s.now.others) in
    let fewer : c.replace.new.self.count ≤ c.args.s.now.others.count = omega (arith, c.replace.ensures.count, after, c.replace_sides.ensures.count, before) in
    tried_fewer q.sheet.0 q.sheet.1 _ _ refl refl c.replace_rows.ensures.count fewer
    (rw (c.replace_rows.ensures.rows, same) (bound_alone q.sheet.0 q.sheet.1 q.below q.chosen c.unit.ensures _ e none))
