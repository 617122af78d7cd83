use Rattle.script_text.proofs.Lemmas.{[], Ok, ok_or, ap, ◌∙◌, arith, Err, option_and_then, as_str, view, items_view, Shape, array_of, formed, form_named, if-err, array-empty, array-form, array-other}
use Rattle.std.proofs.Common.{◌≡◌, ◌∷◌}
use Rattle.script_text.proofs.form_parts.parts_of.Goals as goal

pub returns-in_err-head-clause-shape : goal.returns-in_err-head-clause-shape
returns-in_err-head-clause-shape c =
    let none : c.args.items.now ≡ [] = grind arith in
    if-err _ _ (ap (λ vs. array_of (items_view vs)) none ∙ array-empty)

pub returns-in_err-form-clause-shape : goal.returns-in_err-form-clause-shape
returns-in_err-form-clause-shape c =
    let head = c.in_ok-head.head.now in
    let rest = c.in_ok-head.rest.now in
    let parts : c.args.items.now ≡ head ∷ rest = grind arith in
    let told : ok_or (option_and_then form_named (as_str (view head))) Shape ≡ Err c.in_err-form.field-0.0 = grind arith in
    if-err _ _ (ap (λ vs. array_of (items_view vs)) parts ∙ array-other (view head) (items_view rest) Shape c.in_err-form.field-0.0 told)

pub returns-clause-ok : goal.returns-clause-ok
returns-clause-ok c =
    let head = c.in_ok-head.head.now in
    let rest = c.in_ok-head.rest.now in
    let form = c.in_ok-form.form in
    let parts : c.args.items.now ≡ head ∷ rest = grind arith in
    let told : ok_or (option_and_then form_named (as_str (view head))) Shape ≡ Ok form = grind arith in
    let same : array_of (items_view c.args.items.now) ≡ formed form (items_view rest) =
    ap (λ vs. array_of (items_view vs)) parts ∙ array-form (view head) (items_view rest) form Shape told in
    rw same c.parts_by.ensures.ok

pub returns-clause-shape : goal.returns-clause-shape
returns-clause-shape c =
    let head = c.in_ok-head.head.now in
    let rest = c.in_ok-head.rest.now in
    let form = c.in_ok-form.form in
    let parts : c.args.items.now ≡ head ∷ rest = grind arith in
    let told : ok_or (option_and_then form_named (as_str (view head))) Shape ≡ Ok form = grind arith in
    let same : array_of (items_view c.args.items.now) ≡ formed form (items_view rest) =
    ap (λ vs. array_of (items_view vs)) parts ∙ array-form (view head) (items_view rest) form Shape told in
    rw same c.parts_by.ensures.shape
