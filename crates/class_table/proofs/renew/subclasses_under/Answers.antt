use Rattle.class_table.proofs.Lemmas.{cond, List, ℕ, [], filter, sym, ap, ◌∙◌, nat_lt, has, numbers, subclasses-kept, listed, joined}
use Rattle.std.proofs.Common.{◌∷◌, ◌++◌}
use Rattle.class_table.proofs.renew.subclasses_under.Goals as goal

pub returns : goal.returns
returns c =
    let kept = c.args.change.classes.now in
    let class = c.args.change.class.0 in
    let bs = numbers c.args.change.bases.now in
    let n = c.args.number.0 in
    let subs = numbers c.subclasses-subclasses.result.now in
    let mid = cond (has bs n) (class ∷ []) [] in
    joined (filter (λ x. nat_lt x class) subs) mid (filter (λ x. nat_lt class x) subs) (numbers c.push_below.new.found.items) (numbers c.push_if.new.found.items) (numbers c.push_above.new.found.items) (c.in_ok-push_below.ensures ∙ ap (λ ys. numbers ys ++ filter (λ x. nat_lt x class) subs) c.new-found.ensures.items) (c.in_ok-push_if.ensures ∙ ap (λ b. numbers c.push_below.new.found.items ++ cond b (class ∷ []) []) c.has.ensures) c.in_ok-push_above.ensures
    ∙ ap (λ (ys : List ℕ). filter (λ x. nat_lt x class) ys ++ (mid ++ filter (λ x. nat_lt class x) ys)) (c.subclasses-subclasses.ensures ∙ subclasses-kept kept c.requires.coherent n c.stored_at.result c.stored_at.ensures.here)
    ∙ sym (listed class bs n kept c.requires.coherent.sound.ascending c.requires.own)
