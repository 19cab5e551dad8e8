-- `layers::layer2::gather` meets its contract: a constraint more is taken in, or leaves no surplus whatever is taken in later.
use Rattle.std.proofs.Common.{sym, ◌∙◌, ap}
use Rattle.layers.proofs.Groups.{sound_table, behind_none, behind_other, behind_next, behind_unsound, behind_all}
use Rattle.layers.specs.Groups.{sound}
use Rattle.layers.proofs.layer2.gather.Goals as goal

pub loop-c-init : goal.loop-c-init
loop-c-init c =
    let a = c.args in
    rw (c.into_iter-c-iterator.ensures.into_iter_gives, c.rev-c-items.ensures.source, c.iter.ensures.rest, c.requires.4)
    (behind_none a.p a.x a.others.now)

pub take_other-requires : goal.take_other-requires
take_other-requires c =
    let b = c.loop-c.invariant in
    (c.requires.0, c.requires.1, behind_other _ _ b c.in-Some.ensures.steps c.requires.3, b.is)

pub returns-then-not-take_other-clause-sound : goal.returns-then-not-take_other-clause-sound
returns-then-not-take_other-clause-sound c =
    sym (behind_unsound _ _ c.loop-c.invariant c.in-Some.ensures.steps (sym c.if-not-take_other.true ∙ c.take_other.ensures.sound))

pub loop-c-preserved : goal.loop-c-preserved
loop-c-preserved c =
    let t = c.take_other.ensures in
    behind_next _ _ c.loop-c.invariant c.in-Some.ensures.steps (t.held c.if-not-take_other.false) t.table

pub returns : goal.returns
returns c =
    let b = c.loop-c.invariant in
    let g = rw (← behind_all b c.in-None.ensures.steps.0) at b.held in
    record { sound = sym (ap sound g ∙ sound_table b.is); held = λ _. g; table = b.is }
