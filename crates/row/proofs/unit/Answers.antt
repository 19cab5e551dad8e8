-- `row::unit` meets its contract.
-- what is left of the coefficient without its power of two
use Rattle.std.proofs.Common.{◌≡◌, ℕ, ◌/◌, ◌%◌, ◌^◌, ap, ap₂, ◌∙◌, arith, rules}
use Rattle.meaning.specs.Number.{kappa, inverse}
use Rattle.meaning.specs.Row.{coefficient, scale, unit}
use Rattle.meaning.proofs.Kappa.{kappa_le, kappa_split}
use Rattle.row.specs.Block.{row_of}
use Rattle.row.proofs.unit.Goals as goal

odd_of : (p x : ℕ) {y k o : ℕ} → y ≡ x → k ≡ kappa p y → o ≡ y / 2 ^ k → o ≡ x / 2 ^ kappa p x
odd_of p x ey ek eo = rw (← ey, ← ek) eo

pub shifted-odd-requires : goal.shifted-odd-requires
shifted-odd-requires c = omega (arith, kappa_le c.args.p c.at-c.result)

pub inverse-requires : goal.inverse-requires
inverse-requires c =
    let a = c.args in
    let x = coefficient (row_of a.rows.now a.i) a.x in
    let e = odd_of a.p x c.at-c.ensures c.kappa.ensures c.shifted-odd.ensures in
    (ap (λ (n : ℕ). n % 2) e ∙ (kappa_split a.p x c.requires.3).odd.bit, search rules, search rules)

pub returns : goal.returns
unfolding unit
returns c =
    let a = c.args in
    let r = row_of a.rows.now a.i in
    let e = odd_of a.p (coefficient r a.x) c.at-c.ensures c.kappa.ensures c.shifted-odd.ensures in
    c.scale.ensures ∙ ap₂ (scale a.p) (c.inverse.ensures ∙ ap (inverse a.p) e) c.row_of.ensures
