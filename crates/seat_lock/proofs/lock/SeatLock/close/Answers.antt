use Rattle.seat_lock.proofs.Lemmas.{sym, ap, ◌∙◌, Some, ends, whole, some_of}
use Rattle.std.proofs.Common.{◌≡◌}
use mathlib.Core.Option.{some-injective}
use Rattle.seat_lock.proofs.lock.SeatLock.close.Goals as goal

pub unwrap-value-requires : goal.unwrap-value-requires
unwrap-value-requires g c =
    let shared = c.self.inside.table.shared in
    let long = sym c.args.seats.ok.0 ∙ (c.requires.all ∙ sym (ap (λ l. l.seats) c.self.view_is)) in
    let shown = ends g.T.Turns.stands shared.table_id shared.key c.gather-all.result c.args.seats.items _ _ c.gather-all.ensures long c.close_with-closed.ensures.values.2 in
    some_of c.take.result shown.0 (some-injective _ _ (sym c.take.ensures.value ∙ shown.1))

pub returns : goal.returns
returns g c =
    let shared = c.self.inside.table.shared in
    let long = sym c.args.seats.ok.0 ∙ (c.requires.all ∙ sym (ap (λ l. l.seats) c.self.view_is)) in
    let shown = ends g.T.Turns.stands shared.table_id shared.key c.gather-all.result c.args.seats.items _ _ c.gather-all.ensures long c.close_with-closed.ensures.values.2 in
    let same : Some c.unwrap-value.result ≡ Some shown.0 = sym c.unwrap-value.ensures ∙ some-injective _ _ (sym c.take.ensures.value ∙ shown.1) in
    whole g.T.Turns.stands shared.table_id shared.key c.gather-all.result c.args.seats.items _ c.gather-all.ensures shown c.unwrap-value.result (cc same) c.args.self.seats (ap (λ l. l.seats) c.self.view_is)
