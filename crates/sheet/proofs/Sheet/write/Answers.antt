-- The front, the equalities and the others are written one behind the other.
use Rattle.std.proofs.Common.{ℕ, ◌≡◌, ◌+◌, ◌∷◌, [], length, sym, ap, ◌∙◌, rules, arith}
use Rattle.sheet.specs.Bytes.{written}
use Rattle.sheet.specs.Others.{others_of}
use Rattle.sheet.proofs.Writing.{put_written, equalities_strides, put_strides, length_sheet, sheet_written}
use Rattle.sheet.proofs.Sheet.write.Goals as goal

pub returns-clause-size : goal.returns-clause-size
returns-clause-size c =
    let s = c.args.self.now in
    let long : length (others_of s.others) ≡ s.others.count = search rules in
    let block : length s.equalities.rows ≡ 544 = search rules in
    let e = equalities_strides s.equalities.rows s.words s.equalities.count c.requires.words (omega (arith, block)) in
    let o = rw long at (put_strides (others_of s.others) s.words (rw c.as_slice.ensures at c.put_others.ensures.size)) in
    c.place-size.ensures ∙ sym (length_sheet s.width s.words e o)

pub returns-clause-bytes : goal.returns-clause-bytes
returns-clause-bytes c =
    let s = c.args.self.now in
    let m : ℕ = s.equalities.count + s.others.count in
    let long : length (others_of s.others) ≡ s.others.count = search rules in
    let block : length s.equalities.rows ≡ 544 = search rules in
    let e = equalities_strides s.equalities.rows s.words s.equalities.count c.requires.words (omega (arith, block)) in
    let o = rw long at (put_strides (others_of s.others) s.words (rw c.as_slice.ensures at c.put_others.ensures.size)) in
    let a = c.put_number.new.out in
    let four : c.copy_from_slice.new.self ≡ 1 ∷ s.width ∷ s.words ∷ m ∷ [] = c.copy_from_slice.ensures.after in
    let front = put_written a 4 4 c.copy_from_slice.new.self (rw four (search rules)) ∙ ap (written a 4) four in
    sheet_written s.width s.words e o c.args.out.now (omega arith) c.place-size.ensures c.put_number.ensures
    front c.put_equalities.ensures.bytes (rw c.as_slice.ensures at c.put_others.ensures.bytes)
