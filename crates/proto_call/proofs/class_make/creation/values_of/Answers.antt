use Rattle.proto_call.proofs.Lemmas.{add-one, ap, sym, ◌∙◌, [], map-got}
use Rattle.std.proofs.Common.{◌∷◌, ◌++◌}
use Rattle.proto_call.proofs.class_make.creation.values_of.Goals as goal

pub loop-i-preserved : goal.loop-i-preserved
loop-i-preserved c =
    rw add-one (c.in_ok-push.ensures.items ∙ ap (λ vs. vs ++ c.at.result.1 ∷ []) c.loop-i.invariant ∙ sym (map-got (λ a. a.1) c.args.attrs.now c.loop-i.i c.at.result c.at.ensures))
