use Rattle.native_containers.proofs.Lemmas.{◌∙◌, [], drop, Some, ap, sym, arith, slice_get, w64, ints, node-in, drop-got, drop-none, hash-asks, hash-finish}
use Rattle.std.proofs.Common.{◌≡◌, ◌+◌, ◌∷◌}
use mir.Val.{to_z, of_z}
use Rattle.native_containers.proofs.native_conversions.hash.next_hash.Goals as goal

pub returns-in-None-clause-goes : goal.returns-in-None-clause-goes
returns-in-None-clause-goes c =
    let h = c.args.hashing in
    let e : drop h.next h.items.items ≡ [] = drop-none h.items.items h.next (ap (λ vs. slice_get vs h.next) (sym c.deref.ensures.value) ∙ c.in-None.ensures) in
    let z = to_z w64 (of_z w64 h.hash) in
    let same : z ≡ h.hash = omega (arith, ints) in
    hash-finish c.args.world.now z h.hash (drop h.next h.items.items) same e

pub returns-in-Some-clause-goes : goal.returns-in-Some-clause-goes
returns-in-Some-clause-goes c =
    let h = c.args.hashing in
    let e : drop h.next h.items.items ≡ c.in-Some.item ∷ drop (h.next + 1) h.items.items = drop-got h.items.items h.next c.in-Some.item (ap (λ vs. slice_get vs h.next) (sym c.deref.ensures.value) ∙ c.in-Some.ensures) in
    let z = to_z w64 (of_z w64 h.hash) in
    let same : z ≡ h.hash = omega (arith, ints) in
    hash-asks c.args.world.now c.in-Some.item h.hash (record { items = h.items; next = h.next + 1; hash = z }) (drop h.next h.items.items) same e

pub returns-in-Some-clause-safe : goal.returns-in-Some-clause-safe
returns-in-Some-clause-safe c =
    let h = c.args.hashing in
    let w = c.args.world.now in
    let e : slice_get h.items.items h.next ≡ Some c.in-Some.item = ap (λ vs. slice_get vs h.next) (sym c.deref.ensures.value) ∙ c.in-Some.ensures in
    (node-in w h.items.items h.next c.in-Some.item c.requires e, (c.requires, tt))
