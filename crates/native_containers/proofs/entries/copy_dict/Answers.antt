use Rattle.native_containers.proofs.Lemmas.{Some, sym, ap, ◌∙◌, subst, PlainDict, entries_in, of_keyed, Reading, datum, plain, AllHold, of_payload, none-hold, ok-map, entries_at, no-entries}
use Rattle.std.proofs.Common.{◌≡◌}
use Rattle.native_containers.proofs.entries.copy_dict.Goals as goal

pub returns-in-Dict-clause-entries : goal.returns-in-Dict-clause-entries
returns-in-Dict-clause-entries c =
    let w = c.args.world.now in
    ok-map (λ (d : PlainDict). d ≡ c.in-Dict.dict) (λ (d : PlainDict). (t : Reading) → entries_at (plain t w) c.args.dict ≡ d.items) c.try_clone.result (λ d e t. ap entries_in (c.payload.ensures.reads t ∙ ap (λ p. Some (datum t p)) c.in-Dict.is) ∙ ap (λ (d : PlainDict). d.items) (sym e)) c.try_clone.ensures

pub returns-in-Dict-clause-holds : goal.returns-in-Dict-clause-holds
returns-in-Dict-clause-holds c =
    let w = c.args.world.now in
    let here = subst (λ p. AllHold w (of_payload p)) c.in-Dict.is c.payload.ensures.holds in
    ok-map (λ (d : PlainDict). d ≡ c.in-Dict.dict) (λ d. AllHold w (of_keyed d)) c.try_clone.result (λ d e. subst (λ d. AllHold w (of_keyed d)) (sym e) here) c.try_clone.ensures

pub returns-in_default-clause-entries : goal.returns-in_default-clause-entries
returns-in_default-clause-entries c = λ t. ap entries_in (c.payload.ensures.reads t) ∙ no-entries t c.payload.result.now c.in_default.not-Dict ∙ ap (λ (d : PlainDict). d.items) (sym c.new.ensures)

pub returns-in_default-clause-holds : goal.returns-in_default-clause-holds
returns-in_default-clause-holds c = subst (λ d. AllHold c.args.world.now (of_keyed d)) (sym c.new.ensures) (none-hold c.args.world.now)
