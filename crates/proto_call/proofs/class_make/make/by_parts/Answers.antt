use Rattle.proto_call.proofs.Lemmas.{◌∙◌, ap, sym, string_bytes, option_map, plain, bindings, by_bases, by_parts, has_null, goes-from, parts-go}
use Rattle.proto_call.proofs.class_make.make.by_parts.Goals as goal

pub returns-else-has_null-clause-goes : goal.returns-else-has_null-clause-goes
returns-else-has_null-clause-goes c =
    let old = c.args.world.now in
    let m = c.args.meta.0 in
    let args = c.args.call.args.items in
    let p = c.in-Some-Some-Some in
    let n = option_map (λ s. string_bytes s) c.args.name in
    let b = option_map (λ rs. rs.items) c.args.bases in
    let d = option_map (λ es. es.items) c.args.entries in
    goes-from c.args.call.kw.items (λ t u. by_parts u m n b d args (bindings t c.args.call.kw.items)) (λ t u. by_bases u m (string_bytes p.name) p.bases.items p.entries.items args (bindings t c.args.call.kw.items)) old old c.by_bases.new.world c.by_bases.result (λ t r.
    (r, parts-go (plain t old) m n b d (string_bytes p.name) p.bases.items p.entries.items args (bindings t c.args.call.kw.items) (ap (option_map (λ s. string_bytes s)) p.is-0) (ap (option_map (λ rs. rs.items)) p.is-1) (ap (option_map (λ es. es.items)) p.is-2) (ap has_null (sym c.as_str.ensures.value) ∙ sym c.has_null.ensures ∙ c.if-has_null.false)))
    c.by_bases.ensures.goes
