use Rattle.proto_ops.proofs.Lemmas.{Some, sym, ◌∙◌, rules, w128, FitsSigned, to_z-of_z, place_of, total, sum-made}
use Rattle.std.proofs.Common.{◌≡◌}
use Rattle.proto_ops.proofs.int.sum.Goals as goal

pub returns-in_ok-node-in-Some-clause-goes : goal.returns-in_ok-node-in-Some-clause-goes
unfolding place_of
returns-in_ok-node-in-Some-clause-goes c =
    let f : FitsSigned w128 c.in-Some-Some.x = search rules in
    let g : FitsSigned w128 c.in-Some-Some.y = search rules in
    let z : total c.in-Some-Some.x c.in-Some-Some.y ≡ Some c.in-Some.z = (simp to_z-of_z at (sym c.total.ensures)) ∙ c.in-Some.is in
    let e = c.in_ok-node-in-Some.ensures in
    let fits : FitsSigned w128 c.in-Some.z = search rules in
    let made = simp to_z-of_z at (rw c.built_in-class.ensures.place at e.made) in
    let number = rw c.built_in-class.ensures.place at e.number in
    sum-made c.args.world.now c.make_node.new.self c.args.a c.args.b c.in_ok-node-in-Some.node c.in-Some-Some.x c.in-Some-Some.y c.in-Some.z (λ t. c.number.ensures t ∙ c.in-Some-Some.is-0) (λ t. c.number-2.ensures t ∙ c.in-Some-Some.is-1) z made number e.reads
