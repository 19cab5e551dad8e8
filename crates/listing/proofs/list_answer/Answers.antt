-- `listing::list_answer` meets its contract: the listing where there is room and an answer to list, and nothing elsewhere.
use Rattle.std.proofs.Common.{refl, sym, ◌∙◌, rules}
use Rattle.listing.proofs.Delivered.{listable_fits, delivered_not, delivered_short, delivered_all}
use Rattle.listing.proofs.Texts.{wrote_front}
use Rattle.listing.proofs.list_answer.Goals as goal

pub returns-then-out-lt-ROOM : goal.returns-then-out-lt-ROOM
returns-then-out-lt-ROOM c = delivered_short _ _ (search rules)

pub put_answer-requires : goal.put_answer-requires
put_answer-requires c = (listable_fits _ _ _ (sym c.listable.ensures ∙ c.if-listable.true), search rules)

pub returns-then-listable : goal.returns-then-listable
returns-then-listable c =
    let put = wrote_front c.put_answer.ensures in
    delivered_all (sym c.listable.ensures ∙ c.if-listable.true) c.if-out-lt-ROOM.false refl put.0 put.1

pub returns : goal.returns
returns c = delivered_not _ (sym c.listable.ensures ∙ c.if-listable.false)
