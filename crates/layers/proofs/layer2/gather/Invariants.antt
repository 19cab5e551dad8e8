-- The table holds the groups of the others behind the ones that are left.
use Rattle.std.specs.Iterator.Adapters.{rev_source}
use Rattle.std.specs.Slice.Iter.{iter_rest}
use Rattle.layers.proofs.Groups.{Behind}
use Rattle.layers.proofs.layer2.gather.Given as goal

abbrev pub invariant-loop-c : goal.invariant-loop-c
invariant-loop-c l = Behind l.p l.x l.others (iter_rest (rev_source l.c-iterator)) l.groups
