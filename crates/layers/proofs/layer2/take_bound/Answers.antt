-- `layers::layer2::take_bound` meets its contract: the table with the group put in at k holds the groups with the bound taken in.
use Rattle.std.proofs.Common.{◌∙◌, sym, ap, arith}
use Rattle.layers.specs.Groups.{sound}
use Rattle.layers.proofs.Groups.{sound_table, taken_shut, taken_apart, taken_put, taken_table}
use Rattle.layers.proofs.layer2.take_bound.Goals as goal

pub returns-in_default-clause-sound : goal.returns-in_default-clause-sound
returns-in_default-clause-sound c =
    let r = c.requires in
    sym (taken_apart c.args.b.now c.index-groups-k.result r.2 r.1 r.0 (sym c.opened.ensures ∙ c.in_default.is))

pub returns-then-delta-eq0-clause-sound : goal.returns-then-delta-eq0-clause-sound
returns-then-delta-eq0-clause-sound c =
    let r = c.requires in
    let e = sym c.in-Some.ensures in
    let t = c.tightened-group.ensures in
    sym (taken_shut c.args.b.now c.in-Some.before c.tightened-group.result c.index-groups-k.result r.2 r.1 r.0 e t.group
    (sym c.delta.ensures ∙ c.if-delta-eq0.true))

pub returns : goal.returns
returns c =
    let b = c.args.b.now in
    let r = c.requires in
    let e = sym c.in-Some.ensures in
    let t = c.tightened-group.ensures in
    let h = taken_put b c.in-Some.before c.tightened-group.result c.index-groups-k.result r.2 r.1 r.0 e t.group in
    let o = taken_table b c.in-Some.before c.tightened-group.result c.index-groups-k.result r.2 r.1 r.0 e t.group
    (record { between = omega arith; most = t.ends.1 }) in
    record { sound = sym (ap sound h ∙ sound_table o); held = λ _. h; table = o }
