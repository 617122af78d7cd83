use Rattle.row_kit.proofs.Lemmas.{Some, sym, ap, ◌∙◌, subst, entries_in, of_entries, datum, AllHold, of_payload, none-hold, no-entries}
use Rattle.row_kit.proofs.take_containers.entries.Goals as goal

pub returns-in-Dict-clause-same : goal.returns-in-Dict-clause-same
returns-in-Dict-clause-same c = λ t. ap entries_in (c.payload.ensures.reads t ∙ ap (λ p. Some (datum t p)) c.in-Dict.is) ∙ sym c.entries.ensures.entries

pub returns-in-Dict-clause-holds : goal.returns-in-Dict-clause-holds
returns-in-Dict-clause-holds c =
    let w = c.args.world.now in
    subst (λ es. AllHold w (of_entries es)) (sym c.entries.ensures.entries) (subst (λ p. AllHold w (of_payload p)) c.in-Dict.is c.payload.ensures.holds).1

pub returns-in_default-clause-same : goal.returns-in_default-clause-same
returns-in_default-clause-same c = λ t. ap entries_in (c.payload.ensures.reads t) ∙ no-entries t c.payload.result.now c.in_default.not-Dict

pub returns-in_default-clause-holds : goal.returns-in_default-clause-holds
returns-in_default-clause-holds c = (none-hold c.args.world.now).1
