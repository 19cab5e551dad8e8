-- A coefficient or a quotient of 0 takes nothing off the row.
use Rattle.std.proofs.Common.{ap, ◌∙◌, ℕ, ◌<◌, ◌/◌, ◌^◌, arith, rules}
use native.Mathlib.Nat.{zero-div}
use Rattle.meaning.proofs.Kappa.{kappa_le}
use Rattle.meaning.proofs.Value.{less_row}
use Rattle.tidy.proofs.Places.{places_of, has_rows_put}
use Rattle.tidy.proofs.Lowering.{lowered_by, lowered_none}
use Rattle.tidy.proofs.Basis.lower_by.Goals as goal

pub shifted-q-requires : goal.shifted-q-requires
shifted-q-requires c = omega (arith, kappa_le c.args.self.now.width c.at.result)

pub invariant_of-self-clause-rows : goal.invariant_of-self-clause-rows
invariant_of-self-clause-rows c =
    let a = c.args in
    let b : a.x < 16 = search rules in
    has_rows_put a.self.now.places a.x b a.self.now.rows (less_row c.shifted-q.result (a.self.now.rows a.y c.requires.1) (a.self.now.rows a.x b)) (cc)

pub returns-then-q-ne0-clause-place : goal.returns-then-q-ne0-clause-place
returns-then-q-ne0-clause-place c =
    let a = c.args in
    lowered_by a.x a.y (search rules) c.requires.1 (places_of a.self.now.rows) c.at-c.ensures c.at.ensures
    (c.shifted-q.ensures ∙ ap (λ (n : ℕ). c.at-c.result / 2 ^ n) c.kappa.ensures) c.row_of-s.ensures c.less_in.ensures

pub returns-else-q-ne0-clause-place : goal.returns-else-q-ne0-clause-place
returns-else-q-ne0-clause-place c =
    let a = c.args in
    let q = c.shifted-q.ensures ∙ ap (λ (n : ℕ). c.at-c.result / 2 ^ n) c.kappa.ensures in
    lowered_none a.x a.y (search rules) c.requires.1 (places_of a.self.now.rows) (rw (← c.at.ensures, ← c.at-c.ensures, ← q) c.if-q-ne0.false)

pub returns-else-c-ne0-clause-place : goal.returns-else-c-ne0-clause-place
returns-else-c-ne0-clause-place c =
    let a = c.args in
    lowered_none a.x a.y (search rules) c.requires.1 (places_of a.self.now.rows) (rw (← c.at-c.ensures, c.if-c-ne0.false) (zero-div _))
