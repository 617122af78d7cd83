use Rattle.vm_eval.proofs.Lemmas.{[], subst, ◌∙◌, plain, Grows, lasts-on, State, none-read, quiet-read, rest-grows, still-none}
use Rattle.std.proofs.Common.{◌≡◌}
use Rattle.vm_eval.proofs.machine.VirtualMachine.run.Goals as goal

pub returns-then-self-clause-rests : goal.returns-then-self-clause-rests
returns-then-self-clause-rests c = λ t. subst (λ (s : State). (plain t s.world).scopes ≡ []) c.self.view_is (none-read t c.self.inside.world c.self.invariant.0)

pub returns-in-Ok-clause-rests : goal.returns-in-Ok-clause-rests
returns-in-Ok-clause-rests c = λ t. none-read t c.replies.new.world (still-none c.self.inside.world c.replies.new.world c.self.invariant.0 c.in-Ok.ensures.bodies)

pub returns-then-self-clause-quiet : goal.returns-then-self-clause-quiet
returns-then-self-clause-quiet c = λ t. subst (λ (s : State). (plain t s.world).calls ≡ []) c.self.view_is (quiet-read t c.self.inside.world c.self.invariant.1)

pub returns-in-Ok-clause-quiet : goal.returns-in-Ok-clause-quiet
returns-in-Ok-clause-quiet c = λ t. quiet-read t c.replies.new.world (c.in-Ok.ensures.quiet c.self.invariant.1)

pub returns-in-Err-clause-rests : goal.returns-in-Err-clause-rests
returns-in-Err-clause-rests c = λ t. none-read t c.take_calls-left.new.self (c.take_calls-left.ensures.bodies ∙ c.end_bodies.ensures.bodies)

pub returns-in-Err-clause-quiet : goal.returns-in-Err-clause-quiet
returns-in-Err-clause-quiet c = λ t. quiet-read t c.take_calls-left.new.self c.take_calls-left.ensures.rests

pub returns-in-Ok-clause-grows : goal.returns-in-Ok-clause-grows
returns-in-Ok-clause-grows c =
    let old = c.self.inside.world in
    let new = c.replies.new.world in
    subst (λ (s : State). Grows s.world new) c.self.view_is (rest-grows old new c.in-Ok.ensures.lasts c.self.invariant.0 (still-none old new c.self.invariant.0 c.in-Ok.ensures.bodies) c.self.invariant.1 (c.in-Ok.ensures.quiet c.self.invariant.1))

pub returns-in-Err-clause-grows : goal.returns-in-Err-clause-grows
returns-in-Err-clause-grows c =
    let old = c.self.inside.world in
    let mid = c.replies.new.world in
    let ended = c.end_bodies.new.self in
    let new = c.take_calls-left.new.self in
    let lasts = lasts-on old ended new (lasts-on old mid ended c.in-Err.ensures.lasts c.end_bodies.ensures.lasts) c.take_calls-left.ensures.lasts in
    subst (λ (s : State). Grows s.world new) c.self.view_is (rest-grows old new lasts c.self.invariant.0 (c.take_calls-left.ensures.bodies ∙ c.end_bodies.ensures.bodies) c.self.invariant.1 c.take_calls-left.ensures.rests)
