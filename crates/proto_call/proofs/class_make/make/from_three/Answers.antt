use Rattle.proto_call.proofs.Lemmas.{string_bytes, option_map, plain, bindings, by_parts, from_three, goes-from, three-go}
use Rattle.proto_call.proofs.class_make.make.from_three.Goals as goal

pub returns-in_ok-entries-in-Some-clause-goes : goal.returns-in_ok-entries-in-Some-clause-goes
returns-in_ok-entries-in-Some-clause-goes c =
    let old = c.args.world.now in
    let m = c.args.meta.0 in
    let args = c.args.call.args.items in
    let n = option_map (λ s. string_bytes s) c.in_ok-name-in-Some.name in
    let b = option_map (λ rs. rs.items) c.in_ok-bases-in-Some.bases in
    let d = option_map (λ es. es.items) c.in_ok-entries-in-Some.entries in
    goes-from c.args.call.kw.items (λ t u. from_three u m c.args.three args (bindings t c.args.call.kw.items)) (λ t u. by_parts u m n b d args (bindings t c.args.call.kw.items)) old old c.by_parts.new.world c.by_parts.result (λ t r.
    (r, three-go (plain t old) m c.args.three c.in-Some.name c.in-Some.bases c.in-Some.entries n b d args (bindings t c.args.call.kw.items) c.in-Some.is (c.in_ok-name-in-Some.ensures t) (c.in_ok-bases-in-Some.ensures.parts t) (c.in_ok-entries-in-Some.ensures.parts t)))
    c.by_parts.ensures.goes
