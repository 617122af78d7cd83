use Rattle.py_node.proofs.Lemmas.{map, string_bytes, sym, ap, ◌∙◌, String, Global, CallParts, ClassParts, Expr, tree_of, part_of, same_call, same_class}
use Rattle.py_node.proofs.+copy.Goals as goal

pub expr::Expr::try_clone-returns-in_ok-boxed-in-Call : goal.expr::Expr::try_clone-returns-in_ok-boxed-in-Call
expr::Expr::try_clone-returns-in_ok-boxed-in-Call t c =
    let copy : CallParts (String Global) Expr =
    record { function = c.in_ok-function-in-Call.function; args = c.in_ok-args-in-Call.args; keywords = c.in_ok-keywords-in-Call.keywords } in
    same_call c.in_ok-boxed-in-Call.boxed c.in-Call.call copy c.in_ok-boxed-in-Call.ensures.ok
    (c.in_ok-function-in-Call.ensures ∙ ap (λ (v : CallParts (String Global) Expr). tree_of v.function) c.deref-in-Call.ensures)
    (c.in_ok-args-in-Call.ensures ∙ ap (λ (v : CallParts (String Global) Expr). map tree_of v.args.items) c.deref-in-Call-2.ensures)
    (c.in_ok-keywords-in-Call.ensures ∙ ap (λ (v : CallParts (String Global) Expr). map part_of v.keywords.items) c.deref-in-Call-3.ensures)
    ∙ ap tree_of (sym c.in-Call.is)

pub expr::Expr::try_clone-returns-in_ok-boxed-in-Class : goal.expr::Expr::try_clone-returns-in_ok-boxed-in-Class
expr::Expr::try_clone-returns-in_ok-boxed-in-Class t c =
    let copy : ClassParts (String Global) Expr =
    record { name = c.in_ok-name-in-Class.name; bases = c.in_ok-bases-in-Class.bases; keywords = c.in_ok-keywords-in-Class.keywords; entries = c.in_ok-entries-in-Class.entries } in
    same_class c.in_ok-boxed-in-Class.boxed c.in-Class.class copy c.in_ok-boxed-in-Class.ensures.ok
    (c.in_ok-name-in-Class.ensures ∙ ap (λ (v : ClassParts (String Global) Expr). string_bytes v.name) c.deref-in-Class.ensures)
    (c.in_ok-bases-in-Class.ensures ∙ ap (λ (v : ClassParts (String Global) Expr). map tree_of v.bases.items) c.deref-in-Class-2.ensures)
    (c.in_ok-keywords-in-Class.ensures ∙ ap (λ (v : ClassParts (String Global) Expr). map part_of v.keywords.items) c.deref-in-Class-3.ensures)
    (c.in_ok-entries-in-Class.ensures ∙ ap (λ (v : ClassParts (String Global) Expr). map part_of v.entries.items) c.deref-in-Class-4.ensures)
    ∙ ap tree_of (sym c.in-Class.is)
