use Rattle.proto_call.proofs.Lemmas.{add-one, ap, sym, ◌∙◌, [], take-got}
use Rattle.std.proofs.Common.{◌∷◌, ◌++◌}
use Rattle.proto_call.proofs.class_make.tell.copy_attributes.Goals as goal

pub loop-i-preserved : goal.loop-i-preserved
loop-i-preserved c =
    rw add-one (c.in_ok-push.ensures.items ∙ ap (λ vs. vs ++ c.at.result ∷ []) c.loop-i.invariant ∙ sym (take-got c.args.attrs.now c.loop-i.i c.at.result c.at.ensures))
