use Rattle.script_text.proofs.Lemmas.{None, arith, as_str, view, items_view, body_of, class, class_of, keywords_of, list_of, if-err, four-second, four-third, four-fourth}
use Rattle.std.proofs.Common.{◌≡◌, ◌∷◌}
use Rattle.script_text.proofs.form_parts.class_parts.Goals as goal

pub returns-in_err-bases-clause-shape : goal.returns-in_err-bases-clause-shape
unfolding class_of
returns-in_err-bases-clause-shape c =
    let p = c.in_ok-name in
    let parts : c.args.items.now ≡ p.name.now ∷ p.base_list.now ∷ p.entry_list.now ∷ p.rest.now = grind arith in
    let none : list_of (view p.base_list.now) ≡ None = grind arith in
    let all : class_of (items_view c.args.items.now) ≡ None =
    rw (parts, none) (four-second class (as_str (view p.name.now)) (body_of (view p.entry_list.now)) (keywords_of (items_view p.rest.now))) in
    if-err _ _ all

pub returns-in_err-entries-clause-shape : goal.returns-in_err-entries-clause-shape
unfolding class_of
returns-in_err-entries-clause-shape c =
    let p = c.in_ok-name in
    let parts : c.args.items.now ≡ p.name.now ∷ p.base_list.now ∷ p.entry_list.now ∷ p.rest.now = grind arith in
    let none : body_of (view p.entry_list.now) ≡ None = grind arith in
    let all : class_of (items_view c.args.items.now) ≡ None =
    rw (parts, none) (four-third class (as_str (view p.name.now)) (list_of (view p.base_list.now)) (keywords_of (items_view p.rest.now))) in
    if-err _ _ all

pub returns-in_err-keywords-clause-shape : goal.returns-in_err-keywords-clause-shape
unfolding class_of
returns-in_err-keywords-clause-shape c =
    let p = c.in_ok-name in
    let parts : c.args.items.now ≡ p.name.now ∷ p.base_list.now ∷ p.entry_list.now ∷ p.rest.now = grind arith in
    let none : keywords_of (items_view p.rest.now) ≡ None = grind arith in
    let all : class_of (items_view c.args.items.now) ≡ None =
    rw (parts, none) (four-fourth class (as_str (view p.name.now)) (list_of (view p.base_list.now)) (body_of (view p.entry_list.now))) in
    if-err _ _ all
