-- The pending row has no x, or it is cleared by the place's row, or it takes the place.
use Rattle.std.proofs.Common.{sym, ap, ◌∙◌, arith, rules}
use Rattle.tidy.proofs.Places.{Turned, kappa_most, stays, clears, even_less, takes}
use Rattle.tidy.proofs.Basis.turn.Goals as goal
use Rattle.tidy.proofs.Basis.turn.Goals.{then-j-k, else-j-k}

pub shifted-q-requires : goal.shifted-q-requires
shifted-q-requires c = omega (arith, kappa_most _ c.kappa-k.ensures)

pub trade-requires-clause-even : goal.trade-requires-clause-even
trade-requires-clause-even c =
    let a = c.args in
    even_less a.self.now.places a.rows.now a.self.now.width a.x a.i c.at.ensures c.at-c.ensures c.kappa-k.ensures c.kappa-j.ensures c.if-j-k.true

pub power-q-requires : goal.power-q-requires
power-q-requires c = omega (arith, kappa_most _ c.kappa-k.ensures)

turned : (c : goal.After-less_in)
    → Turned c.args.self.now.places c.args.rows.now c.args.self.now.width c.args.x c.args.i c.if-j-k.self.places c.less_in.new.rows
turned c =
    let a = c.args in
    let l = a.self.now.places in
    let m = a.rows.now in
    let p = a.self.now.width in
    let es = c.row_of.ensures in
    let et = c.less_in.ensures in
    elim c.if-j-k.branch [
      | then-j-k w ↦
          takes l m p a.x a.i c.at.ensures c.at-c.ensures c.kappa-k.ensures c.kappa-j.ensures w.if-j-k.true a.self.now.limits.most (search rules) (search rules)
          c.requires.2 (w.q-is ∙ w.power-q.ensures) (ap (λ b. b.places) w.self-is ∙ w.trade.ensures.place) (w.rows-is ∙ w.trade.ensures.pending) es et
      | else-j-k w ↦
          clears l m p a.x a.i c.at.ensures c.at-c.ensures c.kappa-k.ensures c.kappa-j.ensures w.if-j-k.false (w.q-is ∙ w.shifted-q.ensures)
          (ap (λ b. b.places) w.self-is) w.rows-is es et
    ]

pub returns-after-j-k-clause-place : goal.returns-after-j-k-clause-place
returns-after-j-k-clause-place c = (turned c).0

pub returns-after-j-k-clause-pending : goal.returns-after-j-k-clause-pending
returns-after-j-k-clause-pending c = (turned c).1

unturned : (c : goal.Else-c-ne0)
    → Turned c.args.self.now.places c.args.rows.now c.args.self.now.width c.args.x c.args.i c.args.self.now.places c.args.rows.now
unturned c =
    let a = c.args in
    stays a.self.now.places a.rows.now a.self.now.width a.x a.i (a.self.now.rows a.x c.requires.0) c.requires.2 (sym c.at-c.ensures ∙ c.if-c-ne0.false)

pub returns-else-c-ne0-clause-place : goal.returns-else-c-ne0-clause-place
returns-else-c-ne0-clause-place c = (unturned c).0

pub returns-else-c-ne0-clause-pending : goal.returns-else-c-ne0-clause-pending
returns-else-c-ne0-clause-pending c = (unturned c).1
