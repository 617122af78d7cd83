use Rattle.order_check.proofs.Lemmas.{ℕ, List, sym, ap, subst, option_and_then, Vec, least_order, AreLinesOf, IsApart, rows, orders, known_in, read-all, read-without, known-lines, known-apart, first_without-none}
use Rattle.order_check.proofs.orders.order_over.Goals as goal

pub least_order-requires-clause-lines : goal.least_order-requires-clause-lines
least_order-requires-clause-lines c =
    let h = c.args.entries.now in
    let os = orders c.args.known.now in
    let bs = c.args.entry.now.bases.items in
    let e = read-all (known_in h os) bs c.deref.result.now c.in_ok-known_lines.field-0 c.deref.ensures.value c.in_ok-known_lines.ensures c.in-All.lines c.in-All.is in
    let P : List ℕ → Type 0 = λ w. AreLinesOf w (rows c.deref-in-All-2.result.now) in
    let Q : List (Vec ℕ) → Type 0 = λ w. AreLinesOf bs (rows w) in
    subst P (sym c.deref-in-All.ensures.value) (subst Q (sym c.deref-in-All-2.ensures.value) (known-lines h os c.requires.known bs (rows c.in-All.lines.items) e))

pub least_order-requires-clause-apart : goal.least_order-requires-clause-apart
least_order-requires-clause-apart c =
    let h = c.args.entries.now in
    let os = orders c.args.known.now in
    let bs = c.args.entry.now.bases.items in
    let e = read-all (known_in h os) bs c.deref.result.now c.in_ok-known_lines.field-0 c.deref.ensures.value c.in_ok-known_lines.ensures c.in-All.lines c.in-All.is in
    let Q : List (Vec ℕ) → Type 0 = λ w. IsApart c.args.entry.now.key (rows w) in
    subst Q (sym c.deref-in-All-2.ensures.value) (known-apart h os c.requires.known c.args.entry.now.key bs (rows c.in-All.lines.items) c.requires.class e)

pub returns-in-Without : goal.returns-in-Without
returns-in-Without c =
    let f = known_in c.args.entries.now (orders c.args.known.now) in
    let bs = c.args.entry.now.bases.items in
    let e = read-without f bs c.deref.result.now c.in_ok-known_lines.field-0 c.deref.ensures.value c.in_ok-known_lines.ensures c.in-Without.field-0 c.in-Without.is in
    sym (ap (option_and_then (least_order c.args.entry.now.key bs)) (first_without-none f bs c.in-Without.field-0 e))
