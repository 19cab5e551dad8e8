-- `layers::layer1::Known::replaced` meets its contract. Of a row without x nothing would be taken off.
use Rattle.std.proofs.Common.{sym, ap, ◌∙◌}
use Rattle.meaning.specs.Row.{less}
use Rattle.layers.proofs.Replacing.{replaced_absent, replaced_not, replaced_some}
use Rattle.layers.proofs.layer1.Known.replaced.Goals as goal
use Rattle.layers.proofs.layer1.Known.replaced.Goals.{else-c-ne0-via-then-c-ne0+else-self-kappa, else-c-ne0-via-else-c-ne0}

pub returns-then-self-kappa : goal.returns-then-self-kappa
returns-then-self-kappa c =
    let a = c.args in
    let k = a.self.now in
    c.less.ensures ∙ ap (λ q. less k.width q k.row.w a.r.w) c.shifted.ensures
    ∙ sym (replaced_some k.width k.word k.power k.row.w a.r.w (rw c.kappa.ensures at c.if-self-kappa.true))

pub returns : goal.returns
returns c =
    let a = c.args in
    let k = a.self.now in
    elim c.else-c-ne0.branch [
      | else-c-ne0-via-then-c-ne0+else-self-kappa w ↦ sym (replaced_not k.width k.word k.power k.row.w a.r.w (rw w.kappa.ensures at w.if-self-kappa.false))
      | else-c-ne0-via-else-c-ne0 w ↦ sym (replaced_absent k.width k.word k.power k.row.w a.r.w k.is_row c.requires w.if-c-ne0.false)
    ]
