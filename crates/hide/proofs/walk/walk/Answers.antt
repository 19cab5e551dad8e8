-- `hide::walk::walk` meets its contract. The invariant: the walk over the unhidden words from i on, from the fates and the sheet
-- now, is the whole walk.
use Rattle.std.proofs.Common.{◌≡◌, refl, ◌∙◌, ◌<◌, length, get_or}
use Rattle.std.proofs.lemmas.List.{length-map, map-set}
use Rattle.std.proofs.Math.ListN.{get_or-map}
use Rattle.meaning.proofs.Members.{each_get}
use Rattle.hide.specs.Fate.{fate_number, fate_numbers}
use Rattle.hide.specs.declared.fate.Fate.TheVariants.{Left}
use Rattle.hide.proofs.Walking.{same_fate, follows_own, follows_then, walk_none, walk_next, walk_all}
use Rattle.hide.proofs.walk.walk.Goals as goal

pub loop-i-init : goal.loop-i-init
loop-i-init c =
    let q = c.requires in
    record {
      follows = follows_own q.sheet.0;
      few = q.sheet.1;
      walking = walk_none _ (length-map c.args.fates.now fate_number ∙ q.each);
    }

pub step-after-requires : goal.step-after-requires
step-after-requires c =
    let h = c.loop-i.invariant in
    record { sheet = (h.follows.working, h.few); word = each_get c.loop-i.i 0 c.loop-i-test.true c.requires.words }

pub loop-i-preserved : goal.loop-i-preserved
loop-i-preserved c =
    let h = c.loop-i.invariant in
    let q = c.step-after.ensures in
    let i = c.loop-i.i in
    let fs = c.loop-i.fates in
    let g = c.step-after.result in
    let b : i < length c.args.list.now = c.loop-i-test.true in
    let f : get_or (fate_numbers fs) i 0 ≡ fate_number (get_or fs i Left) = get_or-map fate_number fs i Left in
    let e = rw (← f, h.follows.width) at (q.walk c.args.list.now (fate_numbers fs) i refl f) in
    record {
      follows = follows_then h.follows q.follows;
      few = q.few;
      walking =
          rw (map-set fate_number fs i g, c.ne-hid.ensures, c.eq-left.ensures, same_fate g (get_or fs i Left), same_fate g Left, ← f)
          (walk_next h.walking b (fate_number g) _ e);
    }

pub returns-then-hid-clause-walk : goal.returns-then-hid-clause-walk
returns-then-hid-clause-walk c = walk_all c.loop-i.invariant.walking c.loop-i-test.false

pub returns-else-hid-clause-walk : goal.returns-else-hid-clause-walk
returns-else-hid-clause-walk c = walk_all c.loop-i.invariant.walking c.loop-i-test.false
