use Rattle.seat_lock.proofs.Lemmas.{arith, sym, ap, ◌∙◌, [], subst, Some, opening, HasOneHistory, founder, opens, free_row}
use Rattle.std.proofs.Common.{◌∷◌, ◌++◌}
use Rattle.seat_lock.proofs.lock.SeatLock.new.Goals as goal

pub new-requires : goal.new-requires
new-requires g c =
    let items = c.push_reserved.ensures.items ∙ ap (λ xs. xs ++ Some c.args.value ∷ []) c.in-Ok-with_capacity.ensures.items in
    subst (λ xs. HasOneHistory g.T.Turns.stands c.from.result (opening (0 ∷ 0 ∷ []) xs (founder c.from.result))) (sym items) (opens g.T.Turns.stands c.from.result c.args.value c.requires.value (omega arith))

pub returns-clause-free : goal.returns-clause-free
returns-clause-free g c = let dealt = c.deal.ensures in free_row _ _ c.args.seats (sym c.deal.new.row.ok.0 ∙ dealt.len) dealt.seats
