use Rattle.proto_call.proofs.Lemmas.{◌∙◌, sym, map, length, arith, length-map, plain, spelled, places-read, own-counted}
use Rattle.std.proofs.Common.{◌+◌}
use Rattle.proto_call.proofs.class_make.members.places_from.Goals as goal

pub returns-clause-places : goal.returns-clause-places
returns-clause-places c = λ t.
    places-read (plain t c.args.world.now) c.args.class.0 (map (spelled t) c.args.names.now) c.member_count.result (length c.args.names.now) (c.member_count.ensures.count t) (length-map c.args.names.now (spelled t)) ∙ sym c.saturating_sub.ensures

pub returns-clause-offsets : goal.returns-clause-offsets
returns-clause-offsets c = λ i l.
    let t = c.readable.ensures.0 in
    let own = c.requires.own t c.readable.ensures.1 in
    let few = own-counted (plain t c.args.world.now).classes c.args.class.0 c.member_count.result (c.member_count.ensures.count t) in
    let from = c.saturating_sub.ensures in
    c.member_count.ensures.offsets (c.saturating_sub.result + i) (omega (arith, own, few, from, l))
