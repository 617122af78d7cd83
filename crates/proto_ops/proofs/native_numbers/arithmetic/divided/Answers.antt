use Rattle.proto_ops.proofs.Lemmas.{Ok, sym, rules, w128, FitsSigned, to_z-of_z, place_of, quotient, remainder, pair-ends}
use Rattle.std.proofs.Common.{◌≡◌}
use Rattle.proto_ops.proofs.native_numbers.arithmetic.divided.Goals as goal

pub returns-clause-ends : goal.returns-clause-ends
unfolding place_of
returns-clause-ends c =
    let x = c.args.x in
    let y = c.args.y in
    let q = c.in_ok-q.q in
    let r = c.in_ok-r.r in
    let f : FitsSigned w128 x = search rules in
    let g : FitsSigned w128 y = search rules in
    let h : FitsSigned w128 q = search rules in
    let k : FitsSigned w128 r = search rules in
    let left : quotient x y ≡ Ok q = simp to_z-of_z at (sym c.in_ok-q.ensures) in
    let rest : remainder x y ≡ Ok r = simp to_z-of_z at (sym c.in_ok-r.ensures) in
    let one = c.in_ok-first.ensures in
    let two = c.in_ok-second.ensures in
    let all = c.in_ok-node.ensures in
    let made1 = simp to_z-of_z at (rw c.built_in-class.ensures.place at one.made) in
    let number1 = rw c.built_in-class.ensures.place at one.number in
    let made2 = simp to_z-of_z at (rw c.built_in-class.ensures.place at two.made) in
    let number2 = rw c.built_in-class.ensures.place at two.number in
    let made3 = rw (c.built_in.ensures.place, c.in_ok-items.ensures.items) at all.made in
    let number3 = rw c.built_in.ensures.place at all.number in
    pair-ends c.args.world.now c.make_node.new.self c.make_node-2.new.self c.make_node-3.new.self x y q r c.in_ok-first.first c.in_ok-second.second c.in_ok-node.node left rest (λ t. (made1 t, number1 t, one.reads t)) (λ t. (made2 t, number2 t, two.reads t)) made3 number3 all.reads
