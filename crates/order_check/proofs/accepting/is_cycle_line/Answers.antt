use Rattle.order_check.proofs.Lemmas.{sym, ap, ◌∙◌, false≢true, some-of, first_without, told_in, lists_told, tells_cycle, no-cycle_line, cycle-decided, none-of}
use Rattle.order_check.proofs.accepting.is_cycle_line.Goals as goal

pub returns-then-is_some : goal.returns-then-is_some
returns-then-is_some c =
    let f = told_in c.args.told in
    let r = some-of c.first_without.result (sym c.is_some.ensures ∙ c.if-is_some.true) in
    let p = ap (first_without f) (sym c.deref.ensures.value) ∙ sym c.first_without.ensures ∙ r.1 in
    (λ t. absurd (false≢true t), λ q. absurd (no-cycle_line c.args.told.entries.now c.args.entry.now f c.requires.told r.0 c.args.pairs.now p q))

pub returns : goal.returns
returns c =
    let f = told_in c.args.told in
    let n = none-of c.first_without.result (sym c.is_some.ensures ∙ c.if-is_some.false) in
    let p = ap (first_without f) (sym c.deref.ensures.value) ∙ sym c.first_without.ensures ∙ n in
    cycle-decided c.args.told.entries.now c.args.entry.now f c.requires.told p c.args.pairs.now c.tells_cycle.result (c.tells_cycle.ensures ∙ ap (λ bs. tells_cycle bs (lists_told f bs) c.args.pairs.now) c.deref-2.ensures.value)
