use Rattle.order_check.proofs.Lemmas.{Some, sym, ap, ◌∙◌, eq-eqb, eqb-true, false≢true, order_in, first_without, told_in, without-agrees}
use Rattle.std.proofs.Common.{◌≡◌}
use Rattle.order_check.proofs.accepting.is_without_line.Goals as goal

pub returns-in-None : goal.returns-in-None
returns-in-None c =
    let f = told_in c.args.told in
    let bs = c.args.entry.now.bases.items in
    let same = sym (without-agrees f (order_in c.args.told.entries.now) bs c.requires.told) ∙ ap (first_without f) (sym c.deref.ensures.value) ∙ sym c.first_without.ensures ∙ c.in-None.is in
    (λ t. absurd (false≢true t), λ q. let no = sym same ∙ q in cc)

pub returns-in-Some : goal.returns-in-Some
returns-in-Some c =
    let f = told_in c.args.told in
    let bs = c.args.entry.now.bases.items in
    let same = sym (without-agrees f (order_in c.args.told.entries.now) bs c.requires.told) ∙ ap (first_without f) (sym c.deref.ensures.value) ∙ sym c.first_without.ensures ∙ c.in-Some.is in
    (λ t. same ∙ ap Some (eqb-true c.in-Some.first c.args.base t), λ q. let both : c.in-Some.first ≡ c.args.base = (let two = sym same ∙ q in cc) in eq-eqb c.in-Some.first c.args.base both)
