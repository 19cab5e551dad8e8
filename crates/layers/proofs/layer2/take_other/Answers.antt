-- `layers::layer2::take_other` meets its contract: by its kind and the sides that have x it is no bound, one of two, or leaves no
-- surplus.
use Rattle.std.proofs.Common.{◌≡◌, ◌<◌, ◌≤◌, sym, ap, ◌∙◌, rules, arith, ltb}
use mathlib.Core.Logic.{inl, inr}
use Rattle.meaning.specs.Layers.{grouped, with_bound}
use Rattle.sheet.specs.Kind.{kind_number}
use Rattle.sheet.specs.Work.{constraint_of}
use Rattle.layers.specs.Groups.{bound_of, groups_below, groups_of, sound}
use Rattle.layers.proofs.Groups.{sound_table, kappa_lt, with_kind, with_none, with_both_unsound, with_left, with_right}
use Rattle.layers.proofs.layer2.take_other.Goals.{in-AtMost, in-Below, in-true-false, in-false-true}
use Rattle.layers.proofs.layer2.take_other.Goals as goal

pub returns-in-Equal : goal.returns-in-Equal
returns-in-Equal c =
    let a = c.args in
    let l : kind_number a.c.now.kind ≤ 1 = elim c.in-Equal.is [ inl h ↦ rw h (omega arith) | inr h ↦ rw h (omega arith) ] in
    let e = with_kind a.p a.x (constraint_of a.c.now) (groups_of a.groups.now) l in
    record { sound = sym (ap sound e ∙ sound_table c.requires.3); held = λ h. e; table = c.requires.3 }

pub returns-in-false-false : goal.returns-in-false-false
returns-in-false-false c =
    let a = c.args in
    let n = c.in-false-false in
    let e = with_none a.p a.x (constraint_of a.c.now) (groups_of a.groups.now) n.is-0 n.is-1 in
    record { sound = sym (ap sound e ∙ sound_table c.requires.3); held = λ h. e; table = c.requires.3 }

pub returns-in-true-true-clause-sound : goal.returns-in-true-true-clause-sound
returns-in-true-true-clause-sound c =
    let a = c.args in
    let l : 1 < kind_number a.c.now.kind = elim c.match-c.branch [ in-AtMost w ↦ search rules | in-Below w ↦ search rules ] in
    sym (with_both_unsound a.p a.x (constraint_of a.c.now) _ l c.in-true-true.is-0 c.in-true-true.is-1)

pub take_bound-requires : goal.take_bound-requires
take_bound-requires c =
    let a = c.args in
    let l : c.kappa.result < a.p =
    elim c.if-c-x-ne0.branch [
      | in-true-false w ↦ kappa_lt a.x c.requires.2.left (rw w.bound-is at c.kappa.ensures) w.in-true-false.is-0
      | in-false-true w ↦ kappa_lt a.x c.requires.2.right (rw w.bound-is at c.kappa.ensures) w.in-false-true.is-1
    ] in
    (c.requires.0.most, l, c.requires.3)

pub returns : goal.returns
returns c =
    let a = c.args in
    let r = constraint_of a.c.now in
    let gs = groups_below a.groups.now 32 in
    let t = c.take_bound.ensures in
    let k : (1 < r.kind) × (c.match-c.strict ≡ ltb 2 r.kind) =
    elim c.match-c.branch [ in-AtMost w ↦ search rules | in-Below w ↦ search rules ] in
    let e : with_bound a.p a.x r (groups_of a.groups.now) ≡ grouped a.p c.kappa.result (bound_of c.if-c-x-ne0.bound) gs =
    elim c.if-c-x-ne0.branch [
      | in-true-false w ↦
          let n = w.in-true-false in
          rw (c.kappa.ensures, w.bound-is, k.1) (with_left a.p a.x r gs k.0 n.is-0 n.is-1)
      | in-false-true w ↦
          let n = w.in-false-true in
          rw (c.kappa.ensures, w.bound-is, k.1) (with_right a.p a.x r gs k.0 n.is-0 n.is-1)
    ] in
    record { sound = rw e t.sound; held = λ h. e ∙ t.held h; table = t.table }
