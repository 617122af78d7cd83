use Rattle.native_containers.proofs.Lemmas.{◌∙◌, [], ap, GetItem, known_text, the_int, DoSpecial, ToAttribute, next_node, bindings, plain}
use Rattle.std.proofs.Common.{◌∷◌}
use Rattle.native_containers.proofs.native_items.next.ask_item.Goals as goal

pub returns-clause-task : goal.returns-clause-task
returns-clause-task c = λ t q.
    let o = c.args.object in
    let kw = c.new-kw.result.items in
    ap (λ x. ToAttribute (DoSpecial o x c.in_ok-args.args.items (bindings t kw))) (c.known-name.ensures.spelled t q)
    ∙ ap (λ rs. ToAttribute (DoSpecial o (known_text GetItem) rs (bindings t kw))) c.in_ok-args.ensures.items
    ∙ ap (λ r. ToAttribute (DoSpecial o (known_text GetItem) (r ∷ []) (bindings t kw))) (c.in_ok-number.ensures.number t)
    ∙ ap (λ k. ToAttribute (DoSpecial o (known_text GetItem) (next_node (plain t c.args.world.now) the_int ∷ []) (bindings t k))) c.new-kw.ensures.items
