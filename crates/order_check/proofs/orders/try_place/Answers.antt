use Rattle.order_check.proofs.Lemmas.{length, sym, ap, ◌∙◌, arith, orders, known_in, over, bases-at, items_of, some-closed, none-closed, set-known, set-fewer}
use Rattle.std.proofs.Common.{◌<◌}
use Rattle.order_check.proofs.orders.try_place.Goals as goal

pub returns-then-is_some-clause-closed : goal.returns-then-is_some-clause-closed
returns-then-is_some-clause-closed c = λ _.
    some-closed c.args.entries.now c.args.known.now.items c.args.place c.index.result.now c.requires.keyed c.requires.count c.requires.inside c.index.ensures (sym c.is_some.ensures ∙ c.if-is_some.true)

pub order_over-requires-clause-class : goal.order_over-requires-clause-class
order_over-requires-clause-class c =
    bases-at c.args.entries.now c.args.place c.index-entries-place.result c.requires.keyed c.requires.inside c.index-entries-place.is

pub returns-in-None-clause-closed : goal.returns-in-None-clause-closed
returns-in-None-clause-closed c = λ _.
    let h = c.args.entries.now in
    let e = c.index-entries-place.result in
    let same = ap (λ vs. over (known_in h (orders vs)) e.key e.bases.items) c.deref.ensures.value in
    none-closed h c.args.known.now.items c.args.place e c.requires.keyed c.requires.count c.requires.inside c.index-entries-place.is (sym (ap items_of c.in-None.is) ∙ c.in_ok-order_over.ensures ∙ same)

pub returns-in-Some-clause-known : goal.returns-in-Some-clause-known
returns-in-Some-clause-known c =
    let h = c.args.entries.now in
    let e = c.index-entries-place.result in
    let same = ap (λ vs. over (known_in h (orders vs)) e.key e.bases.items) c.deref.ensures.value in
    set-known h c.args.known.now.items c.args.place e c.requires.keyed c.requires.count c.requires.inside c.index-entries-place.is c.in-Some.order c.requires.known (sym (ap items_of c.in-Some.is) ∙ c.in_ok-order_over.ensures ∙ same)

pub returns-in-Some-clause-found : goal.returns-in-Some-clause-found
returns-in-Some-clause-found c = λ _.
    let inside : c.args.place < length c.args.known.now.items = omega (arith, c.requires.inside, c.requires.count) in
    set-fewer c.args.known.now.items c.args.place c.index.result.now c.in-Some.order inside c.index.ensures (sym c.is_some.ensures ∙ c.if-is_some.false)
