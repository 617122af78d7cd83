use Rattle.script_text.proofs.Lemmas.{None, arith, view, items_view, call, call_of, expr_of, keywords_of, list_of, if-err, three-second, three-third}
use Rattle.std.proofs.Common.{◌≡◌, ◌∷◌}
use Rattle.script_text.proofs.form_parts.call_parts.Goals as goal

pub returns-in_err-args-clause-shape : goal.returns-in_err-args-clause-shape
unfolding call_of
returns-in_err-args-clause-shape c =
    let p = c.in_ok-callee in
    let parts : c.args.items.now ≡ p.callee.now ∷ p.list.now ∷ p.rest.now = grind arith in
    let none : list_of (view p.list.now) ≡ None = grind arith in
    let all : call_of (items_view c.args.items.now) ≡ None =
    rw (parts, none) (three-second call (expr_of (view p.callee.now)) (keywords_of (items_view p.rest.now))) in
    if-err _ _ all

pub returns-in_err-keywords-clause-shape : goal.returns-in_err-keywords-clause-shape
unfolding call_of
returns-in_err-keywords-clause-shape c =
    let p = c.in_ok-callee in
    let parts : c.args.items.now ≡ p.callee.now ∷ p.list.now ∷ p.rest.now = grind arith in
    let none : keywords_of (items_view p.rest.now) ≡ None = grind arith in
    let all : call_of (items_view c.args.items.now) ≡ None =
    rw (parts, none) (three-third call (expr_of (view p.callee.now)) (list_of (view p.list.now))) in
    if-err _ _ all
