-- What the disequalities take away: that it fits its word, and as a loop adds it up.
use Rattle.std.proofs.Common.{◌≡◌, ◌≢◌, ◌∙◌, ℕ, zero, suc, ◌+◌, ◌*◌, ◌%◌, ◌^◌, ◌≤◌, ◌<◌, List, [], ◌∷◌}
use Rattle.std.proofs.Common.{length, get_or, drop, arith, add-one, drop-cons, pow_mono}
use borrow.Author.Tests.{ne_eqb}
use lib.ListN.{drop_of_length-le}
use Rattle.meaning.specs.Lists.{Each, each_cons}
use Rattle.meaning.specs.Number.{kappa}
use Rattle.meaning.specs.Row.{coefficient}
use Rattle.meaning.specs.Sheet.{Constraint}
use Rattle.meaning.specs.Layers.{lost_to, lost}
use Rattle.meaning.proofs.Kappa.{kappa_le}
use Rattle.sheet.specs.declared.constraint.Constraint.{Constraint as HeldConstraint}
use Rattle.sheet.specs.Work.{constraint_of, constraints_of}
use Rattle.word.proofs.Laws.{one_shl}

pub lost_has : (p x : ℕ) (c : Constraint) {k : ℕ} → p ≤ 32 → c.kind ≡ 1 → coefficient c.left x ≢ 0 → k ≡ kappa p (coefficient c.left x)
    → ((1 * 2 ^ k) % 2 ^ 64 ≤ 2 ^ 32) × ((1 * 2 ^ k) % 2 ^ 64 ≡ lost_to p x c)
lost_has p x c {k} l e ne ek =
    let few : k ≤ 32 = omega (arith, kappa_le p (coefficient c.left x)) in
    (rw (one_shl k few) (pow_mono few), one_shl k few ∙ rw (e, ne_eqb (coefficient c.left x) 0 ne, ← ek))

pub lost_drop : (p x : ℕ) (cs : List HeldConstraint) (i : ℕ) (d : HeldConstraint) {r : ℕ} → i < length cs
    → r ≡ lost_to p x (constraint_of (get_or cs i d))
    → lost p x (constraints_of (drop i cs)) ≡ r + lost p x (constraints_of (drop (i + 1) cs))
unfolding lost
lost_drop p x cs i d l e = rw (add-one, drop-cons cs i d l, e)

pub lost_end : (p x : ℕ) (cs : List HeldConstraint) (i : ℕ) → length cs ≤ i → lost p x (constraints_of (drop i cs)) ≡ 0
unfolding lost
lost_end p x cs i l = rw (drop_of_length-le cs l)

pub other_get : {P : Constraint → Type 0} (cs : List HeldConstraint) (i : ℕ) (d : HeldConstraint) → i < length cs
    → Each P (constraints_of cs) → P (constraint_of (get_or cs i d))
other_get [] i d l h = absurd (let z : ⊥ = omega arith in z)
other_get (c ∷ cs) zero d l (each_cons h hs) = h
other_get (c ∷ cs) (suc i) d l (each_cons h hs) = other_get cs i d (omega arith) hs
