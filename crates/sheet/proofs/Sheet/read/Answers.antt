-- Each constraint stands where the one before it ended, and adds one to the equalities or to the others.
use Rattle.std.proofs.Common.{ℕ, ◌+◌, ◌≡◌, ◌≢◌, length, length-append, sym, ap, ◌∙◌, rules, arith}
use Rattle.sheet.proofs.Reading.{Front, counts_fit, reached_none, reached_all, place_inside, constraint_read}
use Rattle.sheet.proofs.Reading.{equal_counted, other_counted, equal_read, other_read}
use Rattle.sheet.specs.Kind.{kind_number}
use Rattle.sheet.specs.Others.{others_of}
use Rattle.sheet.proofs.Sheet.read.Goals as goal
use Rattle.sheet.proofs.Sheet.read.Goals.{then-eq, else-eq}

pub loop-init : goal.loop-init
loop-init c =
    let f : Front c.args.b.now c.byte-p.result c.byte-n.result c.byte-m.result =
    record { width = search rules; words = search rules; many = search rules } in
    let s = c.new-sheet.ensures in
    (f, search rules, search rules, search rules, rw s (reached_none _ c.requires (search rules)), rw s (search rules))

pub constraint-c-requires : goal.constraint-c-requires
constraint-c-requires c =
    let h = c.loop.invariant in
    let inside = place_inside h.0 h.4 c.loop-test.true in
    record { few = inside.0; room = rw h.1 inside.1 }

pub push-requires : goal.push-requires
push-requires c =
    let h = c.loop.invariant in
    let d = c.constraint-c.result in
    let read = constraint_read h.0 h.4 d (rw h.1 at c.constraint-c.ensures.value) in
    let equal : kind_number d.kind ≡ 0 = search rules in
    omega (arith, counts_fit (equal_counted h.4.counted (rw h.0.many at c.loop-test.true) read equal))

pub push-requires-else-eq : goal.push-requires-else-eq
push-requires-else-eq c =
    let h = c.loop.invariant in
    let d = c.constraint-c.result in
    let read = constraint_read h.0 h.4 d (rw h.1 at c.constraint-c.ensures.value) in
    let other : kind_number d.kind ≢ 0 = search rules in
    let now = counts_fit (other_counted h.4.counted (rw h.0.many at c.loop-test.true) read other) in
    omega (arith, now, h.5)

pub loop-preserved : goal.loop-preserved
loop-preserved c =
    let h = c.loop.invariant in
    let d = c.constraint-c.result in
    let read = constraint_read h.0 h.4 d (rw h.1 at c.constraint-c.ensures.value) in
    let some = rw h.0.many at c.loop-test.true in
    let past = rw h.0.words at c.constraint-c.ensures.past in
    elim c.if-eq.branch [
      | then-eq w ↦
          let equal : kind_number d.kind ≡ 0 = search rules in
          let e = w.push.ensures in
          let now = equal_read d h.4 some read past equal w.push.new.self e.rows e.count (rw h.0.width at w.less.ensures) in
          rw w.sheet-is (h.0, search rules, h.2, h.3, now, h.5)
      | else-eq w ↦
          let other : kind_number d.kind ≢ 0 = search rules in
          let e = w.push-else-eq.ensures in
          let zeroed = rw h.0.width at w.against_zero.ensures in
          let now = other_read d h.4 some read past other (others_of w.push-else-eq.new.self) w.against_zero.result e.others zeroed in
          let long = ap length e.others ∙ length-append _ _ ∙ ap (λ (k : ℕ). k + 1) h.5 ∙ sym e.count in
          rw w.sheet-is (h.0, search rules, h.2, h.3, now, long)
    ]

pub returns-clause-work : goal.returns-clause-work
returns-clause-work c =
    let h = c.loop.invariant in
    reached_all h.4 (rw h.0.many at c.loop-test.false)
