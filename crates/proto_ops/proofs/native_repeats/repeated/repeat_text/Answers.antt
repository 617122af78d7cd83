use Rattle.proto_ops.proofs.Lemmas.{Some, Ok, Err, ap, ◌∙◌, to_z-of_z, err_from_is_err_and, string_bytes, Text, OfStr, the_str, AText, PlainWorld, Said, Ends, EndsAs, with_times, datum, plain, native_repeat, object_made, text_made, same-if, stop_ends, text-says}
use Rattle.std.proofs.Common.{◌≡◌}
use Rattle.proto_ops.proofs.native_repeats.repeated.repeat_text.Goals as goal

pub returns-in_err-text-in-Text-clause-ends : goal.returns-in_err-text-in-Text-clause-ends
returns-in_err-text-in-Text-clause-ends c =
    let a = c.args in
    let w = a.world.now in
    let x = string_bytes c.in-Text.text in
    let f = c.ranges.n in
    let refused = simp to_z-of_z at (rw c.as_str.ensures.value at c.in_err-text-in-Text.ensures.refused) in
    let p = err_from_is_err_and c.from_residual.result c.from_residual.ensures.1 in
    rw (p.1, p.2) (stop_ends Said _ (λ r. (u : PlainWorld) (go : Text → Said) → with_times u a.n x go ≡ Ends u (Err r)) (EndsAs (λ t u. native_repeat u (OfStr a.native) a.object a.n) w w) (λ r says t q.
    (q, text-says (plain t w) a.native a.object a.n x (Ends (plain t w) (Err r)) (c.payload.ensures.reads t ∙ ap (λ p. Some (datum t p)) c.in-Text.is) (says (plain t w) (λ y. object_made (plain t w) the_str (AText y))))) refused)

pub returns-in_ok-text-in-Text-clause-ends : goal.returns-in_ok-text-in-Text-clause-ends
returns-in_ok-text-in-Text-clause-ends c =
    let a = c.args in
    let w = a.world.now in
    let x = string_bytes c.in-Text.text in
    let y = string_bytes c.in_ok-text-in-Text.text in
    let f = c.ranges.n in
    let given = simp to_z-of_z at (rw c.as_str.ensures.value at c.in_ok-text-in-Text.ensures.given) in
    same-if (λ t u. native_repeat u (OfStr a.native) a.object a.n) (λ t u. text_made u (Ok y)) w c.new_text.new.world c.new_text.result (λ t. text-says (plain t w) a.native a.object a.n x (text_made (plain t w) (Ok y)) (c.payload.ensures.reads t ∙ ap (λ p. Some (datum t p)) c.in-Text.is) (given (plain t w) (λ y. object_made (plain t w) the_str (AText y)))) c.new_text.ensures.ends
