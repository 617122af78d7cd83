use Rattle.vm_eval.proofs.Lemmas.{ℕ, List, [], length, subst, sym, ap, ◌∙◌, Out, answer, Reads, plain, task_of, AllHold, Claim, Grows, all-last, lasts-on, ending_in, unnoted, say, ending_of, of_end, State, none-read, quiet-read, rest-grows, still-none}
use Rattle.std.proofs.Common.{◌≡◌}
use Rattle.vm_eval.proofs.machine.VirtualMachine.ask.Goals as goal

pub returns-then-self-clause-rests : goal.returns-then-self-clause-rests
returns-then-self-clause-rests c = λ t. subst (λ (s : State). (plain t s.world).scopes ≡ []) c.self.view_is (none-read t c.self.inside.world c.self.invariant.0)

pub returns-in-Ok-clause-rests : goal.returns-in-Ok-clause-rests
returns-in-Ok-clause-rests c = λ t. none-read t c.take_calls-starts.new.self (still-none c.self.inside.world c.take_calls-starts.new.self c.self.invariant.0 (ap length c.take_calls-starts.ensures.bodies ∙ c.in-Ok.ensures.bodies))

pub returns-in-Ok-clause-answers : goal.returns-in-Ok-clause-answers
returns-in-Ok-clause-answers c = λ t reads.
    let new = c.take_calls-starts.new.self in
    let said = c.in-Ok.ensures.answers t (c.take_calls-starts.ensures.reads t reads) in
    let left = said.1 in
    let out : unnoted (answer say (plain t c.self.inside.world) (task_of t c.args.task) c.args.units 0) ≡ Out (plain t new) (ending_in c.result_of.result) left =
    ap unnoted said.2
    ∙ ap (λ w. Out w (ending_of c.in-Ok.end) left) (sym (c.take_calls-starts.ensures.taken t))
    ∙ ap (λ e. Out (plain t new) e left) (sym c.result_of.ensures.ending) in
    subst (λ (s : State). Reads t s.world × (n : ℕ) × (unnoted (answer say (plain t s.world) (task_of t c.args.task) c.args.units 0) ≡ Out (plain t new) (ending_in c.result_of.result) n)) c.self.view_is (said.0, left, out)

pub returns-then-self-clause-quiet : goal.returns-then-self-clause-quiet
returns-then-self-clause-quiet c = λ t. subst (λ (s : State). (plain t s.world).calls ≡ []) c.self.view_is (quiet-read t c.self.inside.world c.self.invariant.1)

pub returns-in-Ok-clause-quiet : goal.returns-in-Ok-clause-quiet
returns-in-Ok-clause-quiet c = λ t. quiet-read t c.take_calls-starts.new.self c.take_calls-starts.ensures.rests

pub returns-in-Ok-clause-grows : goal.returns-in-Ok-clause-grows
returns-in-Ok-clause-grows c =
    let old = c.self.inside.world in
    let mid = c.drive.new.world in
    let new = c.take_calls-starts.new.self in
    let lasts = lasts-on old mid new c.in-Ok.ensures.lasts c.take_calls-starts.ensures.lasts in
    let none = still-none old new c.self.invariant.0 (ap length c.take_calls-starts.ensures.bodies ∙ c.in-Ok.ensures.bodies) in
    subst (λ (s : State). Grows s.world new) c.self.view_is (rest-grows old new lasts c.self.invariant.0 none c.self.invariant.1 c.take_calls-starts.ensures.rests)

pub returns-in-Err-clause-grows : goal.returns-in-Err-clause-grows
returns-in-Err-clause-grows c =
    let old = c.self.inside.world in
    let mid = c.drive.new.world in
    let ended = c.end_bodies.new.self in
    let new = c.take_calls-left.new.self in
    let lasts = lasts-on old ended new (lasts-on old mid ended c.in-Err.ensures.lasts c.end_bodies.ensures.lasts) c.take_calls-left.ensures.lasts in
    subst (λ (s : State). Grows s.world new) c.self.view_is (rest-grows old new lasts c.self.invariant.0 (c.take_calls-left.ensures.bodies ∙ c.end_bodies.ensures.bodies) c.self.invariant.1 c.take_calls-left.ensures.rests)

pub returns-in-Err-clause-rests : goal.returns-in-Err-clause-rests
returns-in-Err-clause-rests c = λ t. none-read t c.take_calls-left.new.self (c.take_calls-left.ensures.bodies ∙ c.end_bodies.ensures.bodies)

pub returns-in-Err-clause-quiet : goal.returns-in-Err-clause-quiet
returns-in-Err-clause-quiet c = λ t. quiet-read t c.take_calls-left.new.self c.take_calls-left.ensures.rests

pub returns-in-Ok-clause-holds : goal.returns-in-Ok-clause-holds
returns-in-Ok-clause-holds c =
    let new = c.take_calls-starts.new.self in
    subst (λ (cs : List Claim). AllHold new cs) (sym c.result_of.ensures.names) (all-last c.drive.new.world new c.take_calls-starts.ensures.lasts (of_end c.in-Ok.end) c.in-Ok.ensures.holds)
