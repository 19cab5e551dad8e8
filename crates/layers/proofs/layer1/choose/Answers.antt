-- `layers::layer1::choose` meets its contract. The invariant: the choice is that among the equalities from i on.
use Rattle.std.proofs.Common.{rules, ap, ◌∙◌, ◌≤◌, ◌<◌, ◌⊎◌, inl, inr, MatchOption}
use Rattle.std.specs.Bool.{⊤}
use Rattle.meaning.specs.Number.{kappa}
use Rattle.layers.proofs.Replacing.{choose_none, choose_here, choose_behind, choose_all, choose_below}
use Rattle.layers.proofs.layer1.choose.Goals as goal
use Rattle.layers.proofs.layer1.choose.Goals.{else-power-p-via-then-power-p+else-is_none_or, else-power-p-via-else-power-p}

pub loop-i-init : goal.loop-i-init
loop-i-init c = choose_none

pub loop-i-preserved-then-is_none_or : goal.loop-i-preserved-then-is_none_or
loop-i-preserved-then-is_none_or c =
    let e = c.kappa-power.ensures ∙ ap (kappa c.args.p) c.at.ensures in
    let m : MatchOption c.loop-i.choice ⊤ (λ d. c.kappa-power.result ≤ d.power) = search rules in
    choose_here c.loop-i.choice c.loop-i.invariant c.loop-i-test.true e c.if-power-p.true m

pub loop-i-preserved : goal.loop-i-preserved
loop-i-preserved c =
    let e = c.kappa-power.ensures ∙ ap (kappa c.args.p) c.at.ensures in
    let m : (c.args.p ≤ c.kappa-power.result) ⊎ MatchOption c.loop-i.choice ⊥ (λ d. d.power < c.kappa-power.result) =
    elim c.else-power-p.branch [
      | else-power-p-via-then-power-p+else-is_none_or w ↦ inr (search rules)
      | else-power-p-via-else-power-p w ↦ inl w.if-power-p.false
    ] in
    choose_behind c.loop-i.choice c.loop-i.invariant c.loop-i-test.true e m

pub returns-clause-choice : goal.returns-clause-choice
returns-clause-choice c = choose_all c.loop-i.choice c.loop-i-test.false c.loop-i.invariant

pub returns-clause-below : goal.returns-clause-below
returns-clause-below c = choose_below c.loop-i.choice c.loop-i.invariant
