use Rattle.native_containers.proofs.Lemmas.{◌∙◌, [], drop, Some, ap, sym, slice_get, node-in, grows-itself, drop-got, drop-none, text-asks, text-finish, sorted_ends}
use Rattle.std.proofs.Common.{◌≡◌, ◌+◌, ◌∷◌}
use Rattle.native_containers.proofs.native_conversions.texts.next_text.Goals as goal

pub returns-in_ok-ended-in-None-clause-goes : goal.returns-in_ok-ended-in-None-clause-goes
returns-in_ok-ended-in-None-clause-goes c =
    let p = c.args.parts in
    let e : drop p.next p.items.items ≡ [] = drop-none p.items.items p.next (ap (λ vs. slice_get vs p.next) (sym c.deref.ensures.value) ∙ c.in-None.ensures) in
    let ends = sorted_ends c.end_text.result c.in_ok-ended-in-None.ended _ c.in_ok-ended-in-None.ensures (rw c.deref-in-None.ensures.value at c.end_text.ensures.ends) in
    text-finish c.args.container p.texts.items (drop p.next p.items.items) c.args.world.now c.end_text.new.world c.in_ok-ended-in-None.ended e ends

pub returns-in-Some-clause-goes : goal.returns-in-Some-clause-goes
returns-in-Some-clause-goes c =
    let p = c.args.parts in
    let e : drop p.next p.items.items ≡ c.in-Some.part ∷ drop (p.next + 1) p.items.items = drop-got p.items.items p.next c.in-Some.part (ap (λ vs. slice_get vs p.next) (sym c.deref.ensures.value) ∙ c.in-Some.ensures) in
    text-asks c.args.world.now c.args.container c.in-Some.part (record { items = p.items; next = p.next + 1; texts = p.texts }) (drop p.next p.items.items) e

pub returns-in-Some-clause-safe : goal.returns-in-Some-clause-safe
returns-in-Some-clause-safe c =
    let p = c.args.parts in
    let w = c.args.world.now in
    let e : slice_get p.items.items p.next ≡ Some c.in-Some.part = ap (λ vs. slice_get vs p.next) (sym c.deref.ensures.value) ∙ c.in-Some.ensures in
    (grows-itself w, (node-in w p.items.items p.next c.in-Some.part c.requires.0 e, c.requires))
