use Rattle.proto_call.proofs.Lemmas.{◌∙◌, ap, refl, [], Metaclass, known_text, DoCall, ToCall, bindings, IsNode, AllHold, of_binding, of_each, grows-itself, all-append, no-nodes, without-read, filter-holds}
use Rattle.std.proofs.Common.{◌∷◌}
use Rattle.proto_call.proofs.class_make.hook.call_hook.Goals as goal

pub returns-clause-goes : goal.returns-clause-goes
returns-clause-goes c = λ t r.
    let kept = rw c.deref.ensures.value at c.in_ok-kw.ensures in
    let rest = ap (bindings t) kept ∙ without-read t c.args.kw.items c.known-metaclass.result (known_text Metaclass) (c.known-metaclass.ensures.spelled t r) in
    (r, (λ i. ToCall (DoCall c.args.method (c.new.ensures.items i) (rest i)), refl, λ w s more. refl))

pub returns-clause-safe : goal.returns-clause-safe
returns-clause-safe c =
    let w = c.args.world.now in
    let kept = rw c.deref.ensures.value at c.in_ok-kw.ensures in
    let names : AllHold w (of_each of_binding c.in_ok-kw.kw.items) = rw kept (filter-holds w c.args.kw.items c.known-metaclass.result c.requires.kw) in
    (grows-itself w, (c.requires.method, (rw c.new.ensures.items (no-nodes w), all-append w (of_each of_binding c.in_ok-kw.kw.items) (IsNode c.args.class ∷ []) names (c.requires.class, tt))))
