use Rattle.proto_attr.proofs.Lemmas.{◌∙◌, ℕ, Err, ap, subst, DoGetAttr, Said, ToAttribute, with_two, Reading, bindings, plain, with_heir, class_of_wrapper, doc_asked, wrapper_new, doc-does, ends-does}
use Rattle.std.proofs.Common.{◌≡◌}
use Rattle.proto_attr.proofs.native_calls.wrap.ask_for_doc.Goals as goal

pub returns-in-Err-two-clause-goes : goal.returns-in-Err-two-clause-goes
returns-in-Err-two-clause-goes c =
    let a = c.args in
    let w = a.world.now in
    let k = c.in-Ok.class in
    let given = subst (λ b. (t : Reading) → (go : ℕ → Said) → with_heir (plain t w) b a.call.args.now go ≡ go k.0) c.class_of_wrapper.ensures c.in-Ok.ensures.given in
    ends-does a.entry (λ t u. wrapper_new u (class_of_wrapper a.wrapper) a.call.args.now (bindings t a.call.kw.now)) w (Err c.in-Err-two.raised) (λ t.
    let u = plain t w in
    given t (λ k. with_two u a.call.args.now (bindings t a.call.kw.now) (λ o f. doc_asked u k f)) ∙ c.in-Err-two.ensures.refused t u (λ o f. doc_asked u k.0 f))

pub returns-in-Ok-two-clause-goes : goal.returns-in-Ok-two-clause-goes
returns-in-Ok-two-clause-goes c =
    let a = c.args in
    let w = a.world.now in
    let k = c.in-Ok.class in
    let f = c.in-Ok-two.func in
    let given = subst (λ b. (t : Reading) → (go : ℕ → Said) → with_heir (plain t w) b a.call.args.now go ≡ go k.0) c.class_of_wrapper.ensures c.in-Ok.ensures.given in
    doc-does a.entry (λ t u. wrapper_new u (class_of_wrapper a.wrapper) a.call.args.now (bindings t a.call.kw.now)) w a.wrapper k f _ c.requires.way (λ t.
    let u = plain t w in
    given t (λ k. with_two u a.call.args.now (bindings t a.call.kw.now) (λ o f. doc_asked u k f)) ∙ c.in-Ok-two.ensures.given t u (λ o f. doc_asked u k.0 f))
    (λ t q. ap (λ x. ToAttribute (DoGetAttr f x)) (c.known.ensures.spelled t q))
