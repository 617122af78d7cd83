use Rattle.proto_attr.proofs.Lemmas.{true, ap, rules, ◌∙◌, plain, spelled, given_annotations, heap-annotations, new-annotations}
use Rattle.std.proofs.Common.{◌≡◌}
use Rattle.proto_attr.proofs.native_objects.attributes.annotations.Goals as goal

pub returns-in-Some-clause-ends : goal.returns-in-Some-clause-ends
returns-in-Some-clause-ends c = λ t r.
    let u = plain t c.args.world.now in
    let k = c.args.class.0 in
    let heap : c.class_is_heap.result ≡ true = search rules in
    (r, heap-annotations u k (spelled t c.known-name.result) c.own_attr.result (c.class_is_heap.ensures.reads t ∙ heap) (c.known-name.ensures.spelled t r) (c.own_attr.ensures.found t r) ∙ ap (given_annotations u k) c.in-Some.is)

pub returns-in_ok-dict-in-None-clause-ends : goal.returns-in_ok-dict-in-None-clause-ends
returns-in_ok-dict-in-None-clause-ends c = λ t q.
    let u = plain t c.args.world.now in
    let k = c.args.class.0 in
    let e = c.in_ok-dict-in-None.ensures in
    let r = e.reads t q in
    let x = spelled t c.known-name.result in
    let heap : c.class_is_heap.result ≡ true = search rules in (
      r,
      heap-annotations u k x c.own_attr.result (c.class_is_heap.ensures.reads t ∙ heap) (c.known-name.ensures.spelled t r) (c.own_attr.ensures.found t r)
          ∙ ap (given_annotations u k) c.in-None.is
          ∙ new-annotations u (plain t c.new_annotations.new.world) k x c.in_ok-dict-in-None.dict (c.known-name.ensures.spelled t r) (e.made t) (e.number t),
    )
