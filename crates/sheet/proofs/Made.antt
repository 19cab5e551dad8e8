-- The sheet that the constructor makes: the working sheet with no constraint, or the false one.
use Rattle.std.proofs.Common.{ℕ, ◌≡◌, refl, Bool, true, false, replicate, length, ◌≤◌, lit≤}
use Rattle.std.proofs.Math.Nat.{min-le_left}
use Rattle.std.proofs.lemmas.List.{length-take}
use Rattle.meaning.specs.Row.{one_row}
use Rattle.sheet.specs.Others.{others_of}
use Rattle.sheet.specs.declared.others.Others.{Others}
use Rattle.row.proofs.Blocks.{put_same}
use Rattle.sheet.specs.Work.{sheet_work, new_work, new_sheet}

pub new_work_lem : (width words : ℕ) (holds : Bool) → sheet_work (new_sheet width words holds) ≡ new_work holds
new_work_lem width words true = refl
new_work_lem width words false = rw (put_same (replicate 544 0) 0 one_row (lit≤ tt) refl)

-- the others are no more than their count, whatever their places are
pub others_few : (o : Others) → length (others_of o) ≤ o.count
others_few o = rw (length-take o.count o.places) (min-le_left o.count (length o.places))
