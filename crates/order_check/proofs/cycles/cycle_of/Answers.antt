use Rattle.order_check.proofs.Lemmas.{ℕ, List, Result, Ok, Err, Option, sym, ap, subst, ◌∙◌, IfOk, option_map, Vec, rows, IsAnswer, left, found_in, cycle_of, cycle_of-answer, merged_or_cyclic, ordered_or_cyclic}
use Rattle.std.proofs.Common.{◌≡◌}
use Rattle.order_check.proofs.cycles.cycle_of.Goals as goal

ruled : {E : Type 0} (r : Result (Option (Vec ℕ)) E) (ls rest : List (List ℕ)) → rest ≡ left ls → IfOk r (λ o. option_map (λ (v : Vec ℕ). v.items) o ≡ found_in rest) → IfOk r (λ o. option_map (λ (v : Vec ℕ). v.items) o ≡ cycle_of ls)
unfolding cycle_of
ruled (Ok o) ls rest e h = h ∙ ap found_in e
ruled (Err x) ls rest e h = tt

answered : {E : Type 0} (r : Result (Option (Vec ℕ)) E) (ls : List (List ℕ)) → IfOk r (λ o. option_map (λ (v : Vec ℕ). v.items) o ≡ cycle_of ls) → IfOk r (λ o. IsAnswer ls (option_map (λ (v : Vec ℕ). v.items) o))
answered (Ok o) ls h = let P : Option (List ℕ) → Type 0 = λ w. IsAnswer ls w in subst P (sym h) (cycle_of-answer ls)
answered (Err x) ls h = tt

pub returns-clause-rule : goal.returns-clause-rule
returns-clause-rule c = ruled c.found_in.result (rows c.args.lists.now) (rows c.deref.result.now) (ap rows c.deref.ensures.value ∙ c.in_ok-left.ensures) c.found_in.ensures

pub returns-clause-answer : goal.returns-clause-answer
returns-clause-answer c = answered c.found_in.result (rows c.args.lists.now) (ruled c.found_in.result (rows c.args.lists.now) (rows c.deref.result.now) (ap rows c.deref.ensures.value ∙ c.in_ok-left.ensures) c.found_in.ensures)

pub returns-in_err-left-clause-fact : goal.returns-in_err-left-clause-fact
returns-in_err-left-clause-fact c = merged_or_cyclic (rows c.args.lists.now)

pub returns-clause-fact : goal.returns-clause-fact
returns-clause-fact c = merged_or_cyclic (rows c.args.lists.now)

pub returns-in_err-left-clause-orders : goal.returns-in_err-left-clause-orders
returns-in_err-left-clause-orders c = ordered_or_cyclic (rows c.args.lists.now)

pub returns-clause-orders : goal.returns-clause-orders
returns-clause-orders c = ordered_or_cyclic (rows c.args.lists.now)
