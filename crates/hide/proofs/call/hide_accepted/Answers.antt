-- `hide::call::hide_accepted` meets its contract: its calls are the steps of the outcome.
use Rattle.std.proofs.Common.{sym, ◌∙◌, arith, length, replicate, length-take-le}
use Rattle.hide.specs.declared.fate.Fate.TheVariants.{Left}
use Rattle.hide.proofs.Called.{meets, read_working, all_left, accepted_outcome}
use Rattle.hide.proofs.call.hide_accepted.Goals as goal

pub read-s-requires : goal.read-s-requires
read-s-requires c = (meets _ c.requires).accepted.sheet

pub tidy_in-requires : goal.tidy_in-requires
tidy_in-requires c =
    let r = c.read-s.ensures in
    read_working _ c.requires _ r.width r.work r.few_eqs r.few_others

pub slice_bounds-found-end : goal.slice_bounds-found-end
slice_bounds-found-end c = (meets _ c.requires).few

pub slice_bounds-found-end-2 : goal.slice_bounds-found-end-2
slice_bounds-found-end-2 c = sym (length-take-le (length c.args.list.now) _ (meets _ c.requires).few)

pub walks-walks-requires : goal.walks-walks-requires
walks-walks-requires c =
    let m = meets _ c.requires in
    record {
      sheet = (c.tidy_in.ensures.working, c.tidy_in.ensures.few);
      words = m.below;
      left = all_left (length c.args.list.now) 16 m.few;
    }

pub write-length-requires : goal.write-length-requires
write-length-requires c =
    let m = meets _ c.requires in
    let f = c.walks-walks.ensures.follows in
    let words = f.words ∙ (c.tidy_in.ensures.words ∙ c.read-s.ensures.words) in
    record {
      width = f.working.width.most;
      words = rw words m.accepted.sheet.head.limits.few;
      few = omega (arith, c.walks-walks.ensures.few);
      room = rw words m.accepted.room;
    }

pub put_fates-requires : goal.put_fates-requires
put_fates-requires c =
    let m = meets _ c.requires in
    omega (arith, m.accepted.places, c.walks-walks.auto.fates, length-take-le (length c.args.list.now) (replicate 16 Left) m.few)

pub returns : goal.returns
returns c =
    let r = c.read-s.ensures in
    let t = c.tidy_in.ensures in
    let w = c.walks-walks.ensures in
    let left = all_left (length c.args.list.now) 16 (meets _ c.requires).few in
    accepted_outcome _ c.requires _ r.width r.work _ _ _ _ r.words t.width t.words t.work w.follows left w.walks
    c.write-length.ensures.size
    c.write-length.ensures.bytes
    c.put_fates.ensures
