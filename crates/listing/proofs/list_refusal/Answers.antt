-- `listing::list_refusal` meets its contract.
use Rattle.std.proofs.Common.{refl, rules}
use Rattle.listing.proofs.Delivered.{delivered_short, delivered_all}
use Rattle.listing.proofs.Texts.{wrote_front}
use Rattle.listing.proofs.list_refusal.Goals as goal

pub returns-then-out-lt-ROOM : goal.returns-then-out-lt-ROOM
returns-then-out-lt-ROOM c = delivered_short _ _ (search rules)

pub returns : goal.returns
returns c =
    let put = wrote_front c.put_refusal.ensures in
    delivered_all refl c.if-out-lt-ROOM.false refl put.0 put.1
