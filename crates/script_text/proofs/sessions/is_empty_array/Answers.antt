use Rattle.script_text.proofs.Lemmas.{ap, sym, ◌∙◌, rules, array, view, items_view, the_lemmas, is_empty_array, empty-rows}
use Rattle.std.proofs.Common.{◌≡◌, ℕ}
use Rattle.std.specs.Prelude.{◌==◌}
use Rattle.script_text.proofs.sessions.is_empty_array.Goals as goal

pub returns-in-Array : goal.returns-in-Array
returns-in-Array c =
    let items = c.in-Array.items in
    let told : c.is_empty.result ≡ is_empty_array (array (items_view items.items)) =
    c.is_empty.ensures ∙ (ap (λ (n : ℕ). n == 0) items.ok.0 ∙ empty-rows items.items) in
    let seen : view c.args.value.now ≡ array (items_view items.items) = ap view c.in-Array.is ∙ search (rules, the_lemmas) in
    told ∙ ap is_empty_array (sym seen)
