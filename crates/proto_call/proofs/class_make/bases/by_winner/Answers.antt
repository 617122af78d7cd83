use Rattle.proto_call.proofs.Lemmas.{◌∙◌, ap, string_bytes, option_map, numbers, plain, bindings, by_winner, on_bases, goes-from, winner-goes}
use Rattle.proto_call.proofs.class_make.bases.by_winner.Goals as goal

pub returns-else-makes_itself-clause-goes : goal.returns-else-makes_itself-clause-goes
returns-else-makes_itself-clause-goes c =
    let old = c.args.world.now in
    let m = c.args.meta.0 in
    let n = string_bytes c.args.body.name in
    let bs = numbers c.args.bases.items in
    let o = option_map (λ d. d.0) c.args.winner in
    goes-from c.args.call.kw.items (λ t u. by_winner u m o n bs c.args.body.entries.items c.args.call.args.items (bindings t c.args.call.kw.items)) (λ t u. on_bases u c.in-Some.class.0 n bs c.args.body.entries.items (bindings t c.args.call.kw.items)) old old c.on_bases.new.world c.on_bases.result (λ t r.
    (r, winner-goes (plain t old) m o c.in-Some.class.0 n bs c.args.body.entries.items c.args.call.args.items (bindings t c.args.call.kw.items) (ap (option_map (λ d. d.0)) c.in-Some.is) (c.makes_itself.ensures t r ∙ c.if-makes_itself.false)))
    c.on_bases.ensures.goes
