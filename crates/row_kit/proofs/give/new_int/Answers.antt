use Rattle.row_kit.proofs.Lemmas.{rules, Ok, w128, FitsSigned, to_z-of_z, place_of, int-ends}
use Rattle.std.proofs.Common.{◌≡◌}
use Rattle.row_kit.proofs.give.new_int.Goals as goal

pub returns-clause-ends : goal.returns-clause-ends
unfolding place_of
returns-clause-ends c =
    let e = c.in_ok-node.ensures in
    let is : c.args.number ≡ Ok c.in_ok-z.z = search (rules, c.branch-z.ensures, c.in_ok-z.is) in
    let f : FitsSigned w128 c.in_ok-z.z = search rules in
    let made = simp to_z-of_z at (rw c.built_in-class.ensures.place at e.made) in
    let number = rw c.built_in-class.ensures.place at e.number in
    int-ends c.args.world.now c.make_node.new.self c.args.number c.in_ok-z.z c.in_ok-node.node is made number e.reads
