use Rattle.native_containers.proofs.Lemmas.{◌∙◌, refl, ap, arith, w64, ints, hashed_on, hash-more, hash-other}
use Rattle.std.proofs.Common.{◌≡◌}
use mir.Val.{to_z, of_z}
use Rattle.native_containers.proofs.native_conversions.hash.hash_given.Goals as goal

pub returns-in-Err-clause-goes : goal.returns-in-Err-clause-goes
returns-in-Err-clause-goes c =
    hash-other c.args.hashing c.args.answer c.in-Err.other c.args.world.now c.in-Err.ensures.other c.in-Err.ensures.same

pub returns-in-Ok-clause-goes : goal.returns-in-Ok-clause-goes
returns-in-Ok-clause-goes c =
    let h = c.args.hashing in
    let n = c.in-Ok.number in
    let before : to_z w64 (of_z w64 h.hash) ≡ h.hash = omega (arith, ints) in
    let next : to_z w64 (of_z w64 n) ≡ n = omega (arith, ints) in
    let z = to_z w64 (of_z w64 c.hashed_on.result) in
    let same : z ≡ c.hashed_on.result = omega (arith, ints) in
    let made = same ∙ c.hashed_on.ensures ∙ ap (λ z. hashed_on z (to_z w64 (of_z w64 n))) before ∙ ap (hashed_on h.hash) next in
    hash-more h (record { items = h.items; next = h.next; hash = z }) c.args.answer n c.args.world.now c.next_hash.result c.in-Ok.ensures.number made refl c.next_hash.ensures.goes
