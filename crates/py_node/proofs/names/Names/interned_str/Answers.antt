use Rattle.py_node.proofs.Lemmas.{ℕ, ◌∙◌, ap, subst, sym, Some, slice_get, string_bytes, option_map, slice_get-map, found_is, none_stands}
use Rattle.std.proofs.Common.{◌≡◌}
use Rattle.py_node.proofs.names.Names.interned_str.Goals as goal

pub returns-in-Some-clause-found : goal.returns-in-Some-clause-found
returns-in-Some-clause-found c =
    let stored = c.in-Some.ensures.stored in
    let key = c.in-Some.ensures.key in
    subst (λ v. slice_get v c.in-Some.number ≡ Some c.args.text.now) c.self.view_is (
    slice_get-map (λ s. string_bytes s) c.self.inside.texts.keys c.in-Some.number
    ∙ ap (option_map (λ s. string_bytes s)) stored
    ∙ ap Some (sym (found_is (λ s. string_bytes s) c.args.text.now c.self.inside.texts.keys c.in-Some.field-0-1.now (sym key)))
    )

pub returns-in-None-clause-none : goal.returns-in-None-clause-none
returns-in-None-clause-none c =
    subst (λ v. (n : ℕ) → slice_get v n ≡ Some c.args.text.now → ⊥) c.self.view_is (
    none_stands (λ s. string_bytes s) c.args.text.now c.self.inside.texts.keys (sym c.in-None.ensures.found)
    )
