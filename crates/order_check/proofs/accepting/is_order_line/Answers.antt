use Rattle.order_check.proofs.Lemmas.{true, ℕ, List, Some, sym, ap, subst, ◌∙◌, false≢true, some-of, first_without, told_in, lists_told, merged_order, no-order, order-decided, none-of}
use Rattle.std.proofs.Common.{◌≡◌}
use Rattle.std.specs.Prelude.{◌↔◌}
use Rattle.order_check.proofs.accepting.is_order_line.Goals as goal

pub returns-then-is_some : goal.returns-then-is_some
returns-then-is_some c =
    let f = told_in c.args.told in
    let r = some-of c.first_without.result (sym c.is_some.ensures ∙ c.if-is_some.true) in
    let p = ap (first_without f) (sym c.deref.ensures.value) ∙ sym c.first_without.ensures ∙ r.1 in
    let none = no-order c.args.told.entries.now c.args.entry.now f c.requires.told c.requires.class r.0 p in
    (λ t. absurd (false≢true t), λ q. let no = sym none ∙ q in cc)

pub returns : goal.returns
returns c =
    let f = told_in c.args.told in
    let n = none-of c.first_without.result (sym c.is_some.ensures ∙ c.if-is_some.false) in
    let p = ap (first_without f) (sym c.deref.ensures.value) ∙ sym c.first_without.ensures ∙ n in
    let e = order-decided c.args.told.entries.now c.args.entry.now f c.requires.told c.requires.class p in
    let P : List ℕ → Type 0 = λ w. (c.is_order.result ≡ true) ↔ (merged_order c.args.entry.now.key (lists_told f w) ≡ Some c.args.order.now) in
    let d = subst P c.deref-2.ensures.value c.is_order.ensures in
    (λ t. e ∙ d.0 t, λ q. d.1 (sym e ∙ q))
