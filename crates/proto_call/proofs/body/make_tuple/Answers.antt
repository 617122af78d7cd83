use Rattle.proto_call.proofs.Lemmas.{place_of}
use Rattle.proto_call.proofs.body.make_tuple.Goals as goal

pub returns-clause-made : goal.returns-clause-made
unfolding place_of
returns-clause-made c = rw (c.built_in-class.ensures.place, c.in_ok-items.ensures) at c.make_node.ensures.made

pub returns-clause-number : goal.returns-clause-number
unfolding place_of
returns-clause-number c = rw c.built_in-class.ensures.place at c.make_node.ensures.number
