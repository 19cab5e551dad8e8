-- The member that is gone through goes behind those that stand at the front, or stays where it is.
use Rattle.std.proofs.Common.{◌≡◌, get_or, sym, ap, ◌∙◌, rules, arith}
use Rattle.std.proofs.lemmas.List.{get_or_default}
use Rattle.sheet.specs.Others.{blank}
use Rattle.sheet.proofs.Lists.{kept_one, kept_none}
use Rattle.sheet.proofs.others.keep_in_front.Goals as goal
use Rattle.sheet.proofs.others.keep_in_front.Goals.{then-stays, else-stays}

pub loop-i-preserved : goal.loop-i-preserved
loop-i-preserved g c =
    let h = c.loop-i.invariant in (
      h.0,
      elim c.if-stays.branch [ then-stays w ↦ omega (arith, h.1, w.n-is) | else-stays w ↦ omega (arith, h.1, w.n-is) ],
      λ t says.
          let k = h.2 t says in
          let same : get_or c.loop-i.members c.loop-i.i blank ≡ c.index-members-i.result =
          get_or_default c.loop-i.members c.loop-i.i blank _ (search rules) ∙ sym c.index-members-i.is in
          let told : c.stays.result ≡ t c.index-members-i.result = says _ _ (search rules) in
          let tells : t (get_or c.loop-i.members c.loop-i.i blank) ≡ c.stays.result = ap t same ∙ sym told in
          elim c.if-stays.branch [
            | then-stays w ↦ rw (w.members-is, w.n-is, w.move_other.ensures) (kept_one k c.loop-i-test.true blank (tells ∙ w.if-stays.true))
            | else-stays w ↦ rw (w.members-is, w.n-is) (kept_none k c.loop-i-test.true blank (tells ∙ w.if-stays.false))
          ],
    )
