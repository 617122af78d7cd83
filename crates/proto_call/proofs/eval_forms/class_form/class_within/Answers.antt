use Rattle.proto_call.proofs.Lemmas.{true, length, sym, ap, ◌∙◌, nat_le, length-map, most_items, start, end, Reading, bindings, spelled, class_by, class_within, takes-same, within-is}
use Rattle.std.proofs.Common.{◌≡◌}
use Rattle.proto_call.proofs.eval_forms.class_form.class_within.Goals as goal

pub returns-clause-goes : goal.returns-clause-goes
returns-clause-goes c =
    let x = c.args.name in
    let bs = c.args.bases.now in
    let kw = c.args.keywords.now in
    let es = c.args.entries.now in
    let few : nat_le (length bs) most_items ≡ true = sym c.is_within_limit.ensures ∙ c.if-not-is_within_limit.false in
    let short : nat_le c.len.result most_items ≡ true = sym c.is_within_limit-2.ensures ∙ c.if-not-is_within_limit-2.false in
    let count = c.len.ensures.count in
    let fits : (t : Reading) → nat_le (length (bindings t es)) most_items ≡ true =
    λ t. ap (λ n. nat_le n most_items) (length-map es (λ b. (spelled t b.0, b.1)) ∙ sym count) ∙ short in
    takes-same (λ t u. start (class_by u (t.text x.0) bs (bindings t kw) (bindings t es)) (end u)) (λ t u. class_within u (t.text x.0) bs (bindings t kw) (bindings t es)) c.args.world.now c.call_metaclass.new.world c.call_metaclass.result
    (λ t. λ i u. within-is u (t.text x.0) bs (bindings t kw) (bindings t es) few (fits t) i)
    c.call_metaclass.ensures.goes
