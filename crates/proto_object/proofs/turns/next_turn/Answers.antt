use Rattle.proto_object.proofs.Lemmas.{drop, false, Ok, rules, subst, sym, Truth, Each, Resumes, turn_step, next-goes}
use Rattle.std.proofs.Common.{◌≡◌, ◌+◌}
use Rattle.proto_object.proofs.turns.next_turn.Goals as goal

pub returns-in-Ok-Truth-false-clause-goes : goal.returns-in-Ok-Truth-false-clause-goes
returns-in-Ok-Truth-false-clause-goes c =
    let a = c.args in
    let is : a.answer ≡ Ok (Truth false) = search rules in
    rw c.take_turn.ensures.step (subst (λ q. Resumes (Each a.turn a.items a.next) q a.world.now a.world.now (turn_step a.turn (drop a.next a.items.items) (Each a.turn a.items (a.next + 1)))) (sym is) (next-goes a.world.now a.turn a.items a.next))
