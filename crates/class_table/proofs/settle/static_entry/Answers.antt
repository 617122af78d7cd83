use Rattle.class_table.proofs.Lemmas.{Some, sym, ap, ◌∙◌, slice_get, get_or_default, slice_get-get_or, first_along, entry, given_entry, natives_of, table_keys, StoredClass, class_of, classes_of, entry-inherited, entry-given, place-class}
use Rattle.std.proofs.Common.{◌≡◌}
use Rattle.std.specs.Prelude.{List, ℕ}
use Rattle.class_table.proofs.settle.static_entry.Goals as goal

pub returns-then-is_inherited : goal.returns-then-is_inherited
returns-then-is_inherited c = λ d.
    let kept = c.args.classes.now in
    let i = c.args.at in
    let k = c.at-stored.result in
    let there : slice_get kept i ≡ Some k = slice_get-get_or kept i k c.requires.inside ∙ ap Some (sym c.at-stored.ensures) in
    c.kept_along.ensures
    ∙ ap (λ (line : List ℕ). first_along (given_entry table_keys natives_of (classes_of kept) c.args.slot) line) c.mro.ensures
    ∙ sym (entry-inherited (classes_of kept) k.number (class_of k) k.mro (place-class kept c.requires.lines.ascending i k there) (c.requires.lines.mro i k there) c.args.slot (sym c.is_inherited.ensures ∙ c.if-is_inherited.true))
    ∙ ap (λ (z : StoredClass). entry table_keys natives_of (classes_of kept) z.number c.args.slot) (c.at-stored.ensures ∙ get_or_default kept i k d c.requires.inside)

pub returns-else-is_inherited : goal.returns-else-is_inherited
returns-else-is_inherited c = λ d.
    let kept = c.args.classes.now in
    let i = c.args.at in
    let k = c.at-stored.result in
    let there : slice_get kept i ≡ Some k = slice_get-get_or kept i k c.requires.inside ∙ ap Some (sym c.at-stored.ensures) in
    c.kept_entry.ensures
    ∙ ap (given_entry table_keys natives_of (classes_of kept) c.args.slot) c.number.ensures
    ∙ sym (entry-given (classes_of kept) k.number (class_of k) k.mro (place-class kept c.requires.lines.ascending i k there) (c.requires.lines.mro i k there) c.args.slot (sym c.is_inherited.ensures ∙ c.if-is_inherited.false))
    ∙ ap (λ (z : StoredClass). entry table_keys natives_of (classes_of kept) z.number c.args.slot) (c.at-stored.ensures ∙ get_or_default kept i k d c.requires.inside)
