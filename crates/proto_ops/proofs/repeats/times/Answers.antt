use Rattle.proto_ops.proofs.Lemmas.{rules, w64, FitsSigned, to_z-of_z, times-asks}
use Rattle.proto_ops.proofs.repeats.times.Goals as goal

pub returns-in-Ok-clause-goes : goal.returns-in-Ok-clause-goes
returns-in-Ok-clause-goes c =
    let count = c.in-Ok.count in
    let f : FitsSigned w64 count = search rules in
    times-asks c.args.world.now c.args.a c.args.index c.number.result _ count (to_z-of_z w64 count f) c.number.ensures c.in-Ok.ensures.given
