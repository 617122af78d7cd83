use Rattle.seat_lock.proofs.Lemmas.{refl, sym, ap, ◌∙◌, [], Some, subst, Gathered, free_place, gathered_one, gathered_more, popped, moved_over, none_left, nil_of}
use Rattle.std.proofs.Common.{◌∷◌, ◌++◌}
use Rattle.seat_lock.proofs.ending.gather.Goals as goal

pub loop-next-init : goal.loop-next-init
loop-next-init g c =
    let z = c.args.board.now.table_id in
    let first = c.unwrap-first.result in
    let p = popped z c.args.seats.items c.pop.new.self.items c.pop.result first c.pop.ensures.items c.unwrap-first.ensures c.requires.free in
    let at = free_place c.first.inside first z c.first.invariant c.first.view_is p.2 in
    (first ∷ [], p.0, p.1, gathered_one z c.first.inside.place first at.0 at.1 at.2 at.3)

pub learn_from-requires-clause-idle : goal.learn_from-requires-clause-idle
learn_from-requires-clause-idle g c =
    let z = c.args.board.now.table_id in
    let v = c.loop-next.invariant in
    let p = popped z c.loop-next.seats.items c.pop-in-loop-next.new.self.items (Some c.in-Some.next) c.in-Some.next c.in-Some.ensures.items refl v.2 in
    (free_place c.next.inside c.in-Some.next z c.next.invariant c.next.view_is p.2).1

pub loop-next-preserved : goal.loop-next-preserved
loop-next-preserved g c =
    let z = c.args.board.now.table_id in
    let v = c.loop-next.invariant in
    let next = c.in-Some.next in
    let p = popped z c.loop-next.seats.items c.pop-in-loop-next.new.self.items (Some next) next c.in-Some.ensures.items refl v.2 in
    let at = free_place c.next.inside next z c.next.invariant c.next.view_is p.2 in (
      next ∷ v.0,
      moved_over c.args.seats.items c.loop-next.seats.items c.pop-in-loop-next.new.self.items v.0 next v.1 p.0,
      p.1,
      gathered_more z c.loop-next.all c.next.inside.place c.learn_from.new.place next v.0 v.3 at.2 at.3 c.learn_from.ensures,
    )

pub returns : goal.returns
returns g c =
    let z = c.args.board.now.table_id in
    let v = c.loop-next.invariant in
    let none = none_left c.pop-in-loop-next.result _ _ c.in_default.not-Some c.pop-in-loop-next.ensures.cases in
    let nil = nil_of c.loop-next.seats.items (sym c.loop-next.seats.ok.0 ∙ none.0) in
    subst (λ xs. Gathered z xs c.loop-next.all) (sym (v.1 ∙ ap (λ xs. xs ++ v.0) nil)) v.3
