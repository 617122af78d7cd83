use Rattle.row_kit.proofs.Lemmas.{refl, Ok, string_bytes, place_of, AText, text_made, made-ends}
use Rattle.row_kit.proofs.give.new_text.Goals as goal

pub returns-clause-ends : goal.returns-clause-ends
unfolding place_of
returns-clause-ends c =
    let e = c.in_ok-node.ensures in
    let text = string_bytes c.args.text in
    let made = rw c.built_in-class.ensures.place at e.made in
    let number = rw c.built_in-class.ensures.place at e.number in
    made-ends (λ t u. text_made u (Ok text)) c.args.world.now c.make_node.new.self 6 (AText text) c.in_ok-node.node (λ t. refl) made number e.reads
