use Rattle.proto_ops.proofs.Lemmas.{FitsSigned, given-caught, rules, to_z-of_z, w64}
use Rattle.proto_ops.proofs.native_repeats.by_name.given.Goals as goal

pub returns-clause-goes : goal.returns-clause-goes
returns-clause-goes c =
    let a = c.args in
    let e = c.in_ok-ended-in-Ok in
    let fits : FitsSigned w64 c.in-Ok.n = search rules in
    let ends = simp to_z-of_z at c.repeat_stood.ensures.ends in
    given-caught a.kept a.index a.world.now c.repeat_stood.new.world c.number.result c.in-Ok.n _ _ c.repeat_stood.result e.ended c.number.ensures c.in-Ok.ensures.given c.entry_of.ensures c.deref.ensures.value e.ensures ends
