use Rattle.proto_ops.proofs.Lemmas.{sym, ◌∙◌, two-hold}
use Rattle.proto_ops.proofs.int.begin_int.Goals as goal

pub sum-requires-clause-a : goal.sum-requires-clause-a
sum-requires-clause-a c =
    let e = rw c.deref.ensures.value at c.two_of.ensures in
    (two-hold c.args.world.now c.args.args.items c.in-Some.a c.in-Some.b c.requires.0 (sym e ∙ c.in-Some.is)).0

pub sum-requires-clause-b : goal.sum-requires-clause-b
sum-requires-clause-b c =
    let e = rw c.deref.ensures.value at c.two_of.ensures in
    (two-hold c.args.world.now c.args.args.items c.in-Some.a c.in-Some.b c.requires.0 (sym e ∙ c.in-Some.is)).1
