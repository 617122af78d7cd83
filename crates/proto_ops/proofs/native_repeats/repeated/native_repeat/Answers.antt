use Rattle.proto_ops.proofs.Lemmas.{Some, Ok, Err, List, ap, ◌∙◌, to_z-of_z, err_from_is_err_and, PyObjectRef, PlainWorld, Said, Ends, EndsAs, with_times, datum, plain, native_repeat, same-if, stop_ends, ended_with, tuple-says}
use Rattle.std.proofs.Common.{◌≡◌}
use Rattle.proto_ops.proofs.native_repeats.repeated.native_repeat.Goals as goal

pub returns-in_err-all-in-Tuple-clause-ends : goal.returns-in_err-all-in-Tuple-clause-ends
returns-in_err-all-in-Tuple-clause-ends c =
    let a = c.args in
    let w = a.world.now in
    let rs = c.in-Tuple.items.items in
    let f = c.ranges.n in
    let refused = simp to_z-of_z at (rw c.deref.ensures.value at c.in_err-all-in-Tuple.ensures.refused) in
    let p = err_from_is_err_and c.from_residual.result c.from_residual.ensures.1 in
    rw (p.1, p.2) (stop_ends Said _ (λ x. (u : PlainWorld) (go : List PyObjectRef → Said) → with_times u a.n rs go ≡ Ends u (Err x)) (EndsAs (λ t u. native_repeat u a.entry a.object a.n) w w) (λ x says t q.
    (q, tuple-says (plain t w) c.in-OfTuple.field-0 a.entry a.object a.n rs (Err x) c.in-OfTuple.is (c.payload.ensures.reads t ∙ ap (λ p. Some (datum t p)) c.in-Tuple.is) tt says)) refused)

pub returns-in_ok-all-in-Tuple-clause-ends : goal.returns-in_ok-all-in-Tuple-clause-ends
returns-in_ok-all-in-Tuple-clause-ends c =
    let a = c.args in
    let w = a.world.now in
    let all = c.in_ok-all-in-Tuple.all in
    let f = c.ranges.n in
    let given = simp to_z-of_z at (rw c.deref.ensures.value at c.in_ok-all-in-Tuple.ensures.given) in
    same-if (λ t u. native_repeat u a.entry a.object a.n) (λ t u. ended_with u a.entry a.object (Ok all)) w c.end_with.new.world c.end_with.result (λ t. tuple-says (plain t w) c.in-OfTuple.field-0 a.entry a.object a.n c.in-Tuple.items.items (Ok all) c.in-OfTuple.is (c.payload.ensures.reads t ∙ ap (λ p. Some (datum t p)) c.in-Tuple.is) given tt) c.end_with.ensures.ends
