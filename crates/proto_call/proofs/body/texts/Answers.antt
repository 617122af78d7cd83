use Rattle.proto_call.proofs.Lemmas.{map, string_bytes, get_or, ap, ◌∙◌, arith, take_all, PyStrInterned, spelled, bindings, plain, map-next, shown, texts-read, same-at}
use Rattle.proto_call.proofs.body.texts.Goals as goal

pub loop-param-preserved : goal.loop-param-preserved
loop-param-preserved c = λ t.
    let xs = c.args.params.now in
    let n = c.loop-param.param-index in
    let x : PyStrInterned = get_or xs n (record { 0 = 0 }) in
    let here = same-at xs n (record { 0 = 0 }) x c.loop-param-test.true in
    rw c.in_ok-push.ensures.items (map-next (λ s. string_bytes s) (λ x. shown (plain t c.args.world.now) (bindings t c.args.vars.now) (spelled t x)) c.loop-param.texts.items c.in_ok-shown.field-0 xs n x c.loop-param-test.true here (c.loop-param.invariant t) (c.in_ok-shown.ensures t))

pub returns : goal.returns
returns c = λ t.
    let f = shown (plain t c.args.world.now) (bindings t c.args.vars.now) in
    c.loop-param.invariant t ∙ ap (map (λ (x : PyStrInterned). f (spelled t x))) (take_all c.loop-param.param-index c.args.params.now (omega (arith, c.loop-param-test.false))) ∙ texts-read f (spelled t) c.args.params.now
