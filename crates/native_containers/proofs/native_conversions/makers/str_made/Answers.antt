use Rattle.native_containers.proofs.Lemmas.{◌∙◌, ℕ, sym, string_bytes, place_of, the_str, str-new, str-same}
use Rattle.std.proofs.Common.{◌≡◌}
use Rattle.native_containers.proofs.native_conversions.makers.str_made.Goals as goal

pub returns-then-class-clause-goes : goal.returns-then-class-clause-goes
unfolding place_of
returns-then-class-clause-goes c =
    let is : c.args.class.0 ≡ the_str = c.if-class.true ∙ c.class.ensures in
    str-same c.args.class c.args.given c.args.world.now is

pub returns-clause-goes : goal.returns-clause-goes
unfolding place_of
returns-clause-goes c =
    let a = c.args in
    let n : ℕ = the_str in
    let class : c.class.result.0 ≡ n = c.class.ensures in
    let e = c.in_ok-node in
    str-new a.class a.given a.world.now c.make_node.new.self (string_bytes c.in_ok-text.text) e.node (λ q. c.if-class.false (q ∙ sym class)) (λ t. c.text_at.ensures t ∙ sym c.in_ok-text.ensures.ok) e.ensures.reads e.ensures.made e.ensures.number
