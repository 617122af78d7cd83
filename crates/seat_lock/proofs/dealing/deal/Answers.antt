use Rattle.seat_lock.proofs.Lemmas.{rules, arith, sym, ap, ap₂, ◌∙◌, ℕ, suc, [], slice_get, blank_view, fresh_seat, cuts, fresh_known, left_over, cut_off, dealt_more}
use Rattle.std.proofs.Common.{◌≡◌, ◌+◌, ◌-◌, ◌<◌}
use Rattle.seat_lock.proofs.dealing.deal.Goals as goal

pub split_seat-place-requires : goal.split_seat-place-requires
split_seat-place-requires g c = let v = c.loop-number.invariant in (search rules, search rules, cuts g.T.Turns.stands _ _ _ _ _ (ap (λ m. m.0.stage) v.left) (ap (λ m. m.0.accounts) v.left))

pub loop-number-preserved : goal.loop-number-preserved
loop-number-preserved g c =
    let v = c.loop-number.invariant in
    let cut = c.split_seat-place.ensures in
    let number : ℕ = c.loop-number.number in
    let last : ℕ = c.args.seats - 1 in
    let less : number < last = c.loop-number-test.true in
    let up : suc number ≡ number + 1 = omega arith in
    let down : last - number ≡ suc (last - (number + 1)) = omega arith in
    let id = c.args.board.now.table_id in
    let off = cut_off number (last - number) c.loop-number.first.me c.split_seat-place.result.me v.left cut.4 in
    record {
      here = cut.0 ∙ v.here;
      left = left_over number (last - number) c.loop-number.first.me c.split_seat-place.new.seat.me v.left cut.2 ∙ ap₂ (λ (a b : ℕ). (blank_view a b, [])) up down;
      room = search rules;
      long = search rules;
      dealt = λ k lt. ap (λ xs. slice_get xs k) c.push_reserved.ensures.items
          ∙ dealt_more (fresh_seat id) c.loop-number.row.items number _ (sym c.loop-number.row.ok.0 ∙ v.long) v.dealt (fresh_known id number c.split_seat-place.result (cut.3 ∙ v.here) off) k lt;
    }

pub returns-clause-seats : goal.returns-clause-seats
returns-clause-seats g c =
    let v = c.loop-number.invariant in
    let number : ℕ = c.loop-number.number in
    let last : ℕ = c.args.seats - 1 in
    let end : number ≡ last = omega arith in
    let one : last - number ≡ 0 = omega arith in
    let id = c.args.board.now.table_id in
    let off = v.left ∙ ap₂ (λ (a b : ℕ). (blank_view a (suc b), [])) end one in
    λ k lt. ap (λ xs. slice_get xs k) c.push_reserved-2.ensures.items
    ∙ dealt_more (fresh_seat id) c.loop-number.row.items last _ (sym c.loop-number.row.ok.0 ∙ (v.long ∙ end)) (λ k lt. v.dealt k (omega arith)) (fresh_known id last c.loop-number.first v.here off) k (omega arith)
