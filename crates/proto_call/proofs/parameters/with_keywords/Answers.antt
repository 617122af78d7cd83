use Rattle.proto_call.proofs.Lemmas.{map, get_or, sym, ◌∙◌, add-one, PyObjectRef, PyStrInterned, spelled, value-with, with_value-holds, keyword-next, binding-at, same-at}
use Rattle.proto_call.proofs.parameters.with_keywords.Goals as goal

pub loop-name-preserved : goal.loop-name-preserved
loop-name-preserved c =
    let kw = c.args.keywords.now in
    let l = c.loop-name in
    let n = l.name-index in
    let k : PyStrInterned × PyObjectRef = get_or kw n (record { 0 = 0 }, record { 0 = 0 }) in
    let here = same-at kw n (record { 0 = 0 }, record { 0 = 0 }) k c.loop-name-test.true in
    let ok = c.in_ok-insert.ensures.ok in
    record {
      vars = λ t. rw (add-one, ok) (sym (keyword-next t (map (spelled t) c.args.params.now) l.vars kw n k c.loop-name-test.true here (c.is_open.ensures t ∙ c.if-not-is_open.false)) ∙ l.invariant.vars t);
      keeps = λ x h. rw ok (value-with l.vars k.0 k.1 x (l.invariant.keeps x h));
      holds = λ w h g.
          let b = binding-at w kw n k g c.loop-name-test.true here in
          rw ok (with_value-holds w l.vars k.0 k.1 (l.invariant.holds w h g) b.0 b.1);
    }
