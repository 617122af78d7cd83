use Rattle.native_containers.proofs.Lemmas.{ℕ, ◌∙◌, ap, sym, subst, arith, Ok, w128, ints, place_of, Value, the_int, ANumber, with_node, plain, NewInt, int-new, int-none, int-same}
use Rattle.std.proofs.Common.{◌≡◌}
use mir.Val.{to_z, of_z}
use Rattle.native_containers.specs.NativeConversions.Rows.{Resumes}
use Rattle.native_containers.proofs.native_conversions.numbers.int_made.Goals as goal

pub returns-then-class-clause-goes : goal.returns-then-class-clause-goes
unfolding place_of
returns-then-class-clause-goes c =
    let is : c.args.class.0 ≡ the_int = c.if-class.true ∙ c.class.ensures in
    int-same c.args.class c.args.given c.args.world.now is

pub returns-in-None-clause-goes : goal.returns-in-None-clause-goes
unfolding place_of
returns-in-None-clause-goes c =
    let a = c.args in
    let w = a.world.now in
    let n : ℕ = the_int in
    let class : c.class.result.0 ≡ n = c.class.ensures in
    subst (λ step. Resumes (NewInt a.class) (Ok (Value a.given)) w w step) (sym c.raise.ensures) (int-none a.class a.given w (λ q. c.if-class.false (q ∙ sym class)) (λ t. c.number.ensures t ∙ c.in-None.is))

pub returns-in_ok-node-in-Some-clause-goes : goal.returns-in_ok-node-in-Some-clause-goes
unfolding place_of
returns-in_ok-node-in-Some-clause-goes c =
    let a = c.args in
    let w = a.world.now in
    let n : ℕ = the_int in
    let class : c.class.result.0 ≡ n = c.class.ensures in
    let z = c.in-Some.number in
    let e = c.in_ok-node-in-Some in
    let same : to_z w128 (of_z w128 z) ≡ z = omega (arith, ints) in
    int-new a.class a.given w c.make_node.new.self z e.node (λ q. c.if-class.false (q ∙ sym class)) (λ t. c.number.ensures t ∙ c.in-Some.is) e.ensures.reads (λ t. e.ensures.made t ∙ ap (λ z. with_node (plain t w) a.class.0 (ANumber z)) same) e.ensures.number
