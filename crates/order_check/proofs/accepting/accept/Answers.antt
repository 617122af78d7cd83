use Rattle.order_check.proofs.Lemmas.{List, [], get_or, sym, ap, subst, ◌∙◌, Entry, keys_of, orders_told, AreToldTo, root-told}
use Rattle.std.proofs.Common.{◌∷◌}
use Rattle.order_check.proofs.accepting.accept.Goals as goal

pub first_wrong-requires-clause-told : goal.first_wrong-requires-clause-told
first_wrong-requires-clause-told c =
    let lines = c.deref-3.result.now in
    let root = c.first_key.result ∷ [] in
    let key = c.first_key.ensures ∙ ap (λ (h : List Entry). get_or (keys_of h) 0 0) c.deref.ensures.value in
    let P : List Entry → Type 0 = λ h. AreToldTo h (orders_told root lines) 1 in
    subst P (sym c.deref-2.ensures.value) (root-told c.args.hierarchy.now.entries.items root lines c.requires (ap (λ k. k ∷ []) key))
