use Rattle.proto_call.proofs.Lemmas.{ap, sym, subst, ◌∙◌, arith, drop, option_map, plain, bindings, AreNodes, Holds, called_with, type_call, node-at, call-goes, rest-is, rest-nodes, types-from}
use Rattle.proto_call.proofs.class_make.type_new.type_call.Goals as goal

pub class_number-class-requires : goal.class_number-class-requires
class_number-class-requires c =
    let here = subst (λ rs. Holds c.args.world.now (AreNodes rs)) (sym c.as_slice.ensures.value) c.requires.0 in
    node-at c.args.world.now c.as_slice.result.now 0 (record { 0 = 0 }) (omega (arith, c.in-len1-up.len_at_least)) here

pub called_with-step-requires-clause-rest : goal.called_with-step-requires-clause-rest
called_with-step-requires-clause-rest c =
    let w = c.args.world.now in
    let rest = c.in_ok-rest-in-len1-up.ensures ∙ rest-is c.as_slice.result.now ∙ ap (drop 1) c.as_slice.ensures.value in
    (subst (λ rs. Holds w (AreNodes rs)) (sym rest) (rest-nodes w c.args.args.items c.requires.0), c.requires.1)

pub returns-clause-goes : goal.returns-clause-goes
returns-clause-goes c =
    let w = c.args.world.now in
    let o = option_map (λ d. d.0) c.class_number-class.result in
    let rest = c.in_ok-rest-in-len1-up.rest.items in
    types-from (λ t u. type_call u c.args.args.items (bindings t c.args.kw.items)) (λ t u. called_with u o rest (bindings t c.args.kw.items)) w w c.called_with-step.result (λ t.
    call-goes (plain t w) c.as_slice.result.now rest (bindings t c.args.kw.items) (record { 0 = 0 }) o (omega (arith, c.in-len1-up.len_at_least)) (c.class_number-class.ensures.number t) (c.in_ok-rest-in-len1-up.ensures ∙ rest-is c.as_slice.result.now) ∙ ap (λ args. type_call (plain t w) args (bindings t c.args.kw.items)) c.as_slice.ensures.value)
    c.called_with-step.ensures.goes
