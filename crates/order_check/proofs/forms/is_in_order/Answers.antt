use Rattle.order_check.proofs.Lemmas.{List, true, length, subst, Entry, AreKeyed, AreEarlierTo, in-order, order-earlier}
use Rattle.std.proofs.Common.{◌≡◌}
use Rattle.std.specs.Prelude.{◌↔◌}
use Rattle.order_check.proofs.forms.is_in_order.Goals as goal

pub returns : goal.returns
returns c =
    let h = c.args.hierarchy.now.entries.items in
    let P : List Entry → Type 0 = λ w. AreKeyed w in
    let Q : List Entry → Type 0 = λ w. (c.are_earlier.result ≡ true) ↔ AreEarlierTo w (length w) in
    let keyed = subst P c.deref.ensures.value (c.are_keyed.ensures.0 c.if-not-are_keyed.false) in
    let test = subst Q c.deref-2.ensures.value c.are_earlier.ensures in
    (λ t. in-order h keyed (test.0 t), λ o. test.1 (order-earlier h o))
