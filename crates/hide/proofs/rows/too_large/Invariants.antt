-- `hide::rows::too_large` meets its contract. The invariant: one was found exactly when one of those gone through is too large.
use Rattle.std.proofs.Common.{◌≡◌, ◌^◌, ◌+◌, leb, take}
use Rattle.meaning.specs.Lists.{any_of}
use Rattle.hide.proofs.rows.too_large.Given as goal

abbrev pub invariant-loop-x : goal.invariant-loop-x
invariant-loop-x l = (l.top + 1 ≡ 2 ^ l.p) × (l.found ≡ any_of (leb (2 ^ l.p)) (take l.x-index l.numbers))
