use Rattle.proto_call.proofs.Lemmas.{ref, of_binding, of_each, all-append, tell-goes}
use Rattle.proto_call.proofs.class_make.tell.tell.Goals as goal

pub returns-clause-goes : goal.returns-clause-goes
returns-clause-goes c =
    tell-goes (ref c.args.class.0) c.args.kw.items c.new.result.items c.in_ok-values.values.items c.new.ensures.items c.args.world.now c.bind_next.new.world c.bind_next.result c.in_ok-values.ensures.values c.bind_next.ensures.goes

pub bind_next-requires-clause-telling : goal.bind_next-requires-clause-telling
bind_next-requires-clause-telling c =
    (c.requires.class, all-append c.args.world.now (of_each of_binding c.args.kw.items) (of_each of_binding c.in_ok-values.values.items) c.requires.kw c.in_ok-values.ensures.holds)
