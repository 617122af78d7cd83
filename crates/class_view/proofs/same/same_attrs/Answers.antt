use Rattle.class_view.proofs.Lemmas.{true, Some, sym, ap, ◌∙◌, rules, PyObjectRef, PyStrInterned, further}
use Rattle.std.proofs.Common.{◌≡◌}
use Rattle.class_view.proofs.same.same_attrs.Goals as goal

pub loop-i-preserved : goal.loop-i-preserved
loop-i-preserved c =
    let yes : c.is_same_attr.result ≡ true = search rules in
    further c.args.a.now c.args.b.now c.loop-i.i c.at.result c.at.ensures (c.at-in-loop-i.ensures ∙ sym (ap (λ (z : PyStrInterned × PyObjectRef). Some z) (c.is_same_attr.ensures yes))) c.loop-i.invariant
