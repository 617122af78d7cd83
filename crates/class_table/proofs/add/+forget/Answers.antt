use Rattle.class_table.proofs.Lemmas.{[], length, get_or, take, drop, ap, subst, ◌∙◌, arith, PyStrInterned, Distinct, Classes, is_class, is_ascending, numbers, classes_of, noted, AreThere, first-others, fewer-others, none-of, noted-none, noted-first}
use Rattle.std.proofs.Common.{◌-◌, ◌∷◌}
use Rattle.class_table.proofs.add.+forget.Goals as goal

pub forget-requires : goal.forget-requires
forget-requires t c =
    let l = c.in-len1-up.len_at_least in
    let few = fewer-others c.args.bases.now l in
    let parts = first-others c.args.bases.now l in
    let there = subst (AreThere (classes_of c.args.classes.now)) parts c.requires.there in
    let once = subst Distinct parts c.requires.distinct in
    (omega (arith, few, c.decreases), (c.requires.ascending, (there.1, once.1)))

pub forget_in-requires-clause-ascending : goal.forget_in-requires-clause-ascending
forget_in-requires-clause-ascending t c = ap is_ascending c.forget.ensures.plain ∙ c.requires.ascending

pub forget_in-requires-clause-there : goal.forget_in-requires-clause-there
forget_in-requires-clause-there t c =
    let b = (get_or c.args.bases.now 0 (record { 0 = 0 })).0 in
    let there = subst (AreThere (classes_of c.args.classes.now)) (first-others c.args.bases.now c.in-len1-up.len_at_least) c.requires.there in
    ap (λ (u : Classes PyStrInterned). is_class u b) c.forget.ensures.plain ∙ there.0

pub returns-in-empty-clause-back : goal.returns-in-empty-clause-back
returns-in-empty-clause-back t c = λ n kept e.
    e ∙ ap (λ bs. noted bs n kept) (none-of c.args.bases.now c.in-empty.len_below) ∙ noted-none n kept

pub returns-in-len1-up-clause-back : goal.returns-in-len1-up-clause-back
returns-in-len1-up-clause-back t c = λ n kept e.
    let b = (get_or c.args.bases.now 0 (record { 0 = 0 })).0 in
    let rest = numbers (take (length c.args.bases.now - 1) (drop 1 c.args.bases.now)) in
    let parts = first-others c.args.bases.now c.in-len1-up.len_at_least in
    c.forget_in.ensures.back n kept (c.forget.ensures.back n (noted (b ∷ []) n kept) (e ∙ ap (λ bs. noted bs n kept) parts ∙ noted-first b n rest kept (subst Distinct parts c.requires.distinct)))

pub returns-in-len1-up-clause-plain : goal.returns-in-len1-up-clause-plain
returns-in-len1-up-clause-plain t c = c.forget_in.ensures.plain ∙ c.forget.ensures.plain
