use Rattle.proto_call.proofs.Lemmas.{Some, None, ap, sym, ◌∙◌, slice_get, option_map, place_of, ref, or_else_var, built_in_named, class_named, fixed_named, names-in}
use Rattle.std.proofs.Common.{◌≡◌}
use Rattle.proto_call.proofs.eval_forms.names.built_in_at.Goals as goal

pub text-text-requires : goal.text-text-requires
text-text-requires c = rw c.names.ensures (names-in _ c.args.name c.requires)

pub returns-in-Some-clause-named : goal.returns-in-Some-clause-named
unfolding built_in_named
returns-in-Some-clause-named c = λ t r.
    let x = c.args.name.0 in
    let text = r.names x c.text-text.result.now (ap (λ ns. slice_get ns x) (sym c.names.ensures) ∙ c.text-text.ensures) in
    let class : class_named (t.text x) ≡ Some c.in-Some.class = ap class_named text ∙ sym c.find_class.ensures ∙ c.in-Some.is in
    ap (λ o. or_else_var (option_map (λ b. ref (place_of b)) o) (fixed_named (t.text x))) class
    ∙ ap (λ n. Some (ref n)) (sym c.built_in_node.ensures.place)

pub returns-in-Some-clause-node : goal.returns-in-Some-clause-node
returns-in-Some-clause-node c = c.built_in_node.ensures.node

pub returns-in-None-clause-named : goal.returns-in-None-clause-named
unfolding built_in_named
returns-in-None-clause-named c = λ t r.
    let x = c.args.name.0 in
    let text = r.names x c.text-text.result.now (ap (λ ns. slice_get ns x) (sym c.names.ensures) ∙ c.text-text.ensures) in
    let class : class_named (t.text x) ≡ None = ap class_named text ∙ sym c.find_class.ensures ∙ c.in-None.is in
    ap (λ o. or_else_var (option_map (λ b. ref (place_of b)) o) (fixed_named (t.text x))) class
    ∙ ap fixed_named text ∙ sym c.fixed_named.ensures.named

pub returns-in-None-clause-node : goal.returns-in-None-clause-node
returns-in-None-clause-node c = c.fixed_named.ensures.node
