use Rattle.py_node.proofs.Lemmas.{◌∙◌, [], ap, length, sym, subst, slice_index_or, arith, get_or-map, names_of_number, names_of_other}
use Rattle.std.proofs.Common.{◌≡◌, ◌<◌, ◌≤◌, ◌-◌}
use Rattle.py_node.proofs.entry.SlotId.special_names.Goals as goal

pub returns-then-place-numbers : goal.returns-then-place-numbers
returns-then-place-numbers c =
    let p = c.place-place.result in
    let ns = c.number_special-numbers in
    sym (get_or-map (λ r. r.1.now) ns.result.now p _ [] c.if-place-numbers.true)
    ∙ ap (λ ns. slice_index_or ns p []) ns.ensures.names
    ∙ names_of_number c.args.self p c.place-place.ensures.value (subst (λ n. p < n) ns.ensures.count c.if-place-numbers.true)

pub returns-else-place-numbers : goal.returns-else-place-numbers
returns-else-place-numbers c =
    let p = c.place-place.result in
    let n = length c.number_special-numbers.result.now in
    let ns = c.other_special in
    let e : n ≡ 49 = c.number_special-numbers.ensures.count in
    let past : n ≤ p = omega arith in
    let below : p - n < length ns.result.now = omega arith in
    sym (get_or-map (λ r. r.1.now) ns.result.now (p - n) _ [] below)
    ∙ ap (λ ns. slice_index_or ns (p - n) []) ns.ensures.names
    ∙ names_of_other c.args.self p n c.place-place.ensures.value e past
