use Rattle.proto_call.proofs.Lemmas.{[], suc, drop, ap, sym, arith, ◌∙◌, drop-got, append-on}
use Rattle.std.proofs.Common.{◌≡◌, ◌∷◌, ◌++◌, ◌+◌}
use Rattle.proto_call.proofs.eval_forms.keywords.list_of.Goals as goal

pub loop-i-preserved : goal.loop-i-preserved
loop-i-preserved c =
    let es = c.args.keywords.now in
    let l = c.loop-i in
    let k = c.at.result in
    let next : suc l.i ≡ l.i + 1 = omega arith in
    let here = drop-got es l.i k c.at.ensures ∙ ap (λ n. k ∷ drop n es) next in
    rw c.in_ok-push.ensures.items (append-on l.list.items (k ∷ []) (drop (l.i + 1) es) ∙ ap (λ ds. l.list.items ++ ds) (sym here) ∙ l.invariant)
