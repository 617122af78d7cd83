use Rattle.vm_eval.proofs.Lemmas.{[], refl, ap, ◌∙◌, arith, all_built_ins, built_in_flags, place_of, flags_of, own_attrs, with_attr, start, none-held, none-read, quiet-held, quiet-read}
use Rattle.std.proofs.Common.{◌≡◌}
use Rattle.vm_eval.proofs.machine.VirtualMachine.new.Goals as goal

start-clear : start.scopes ≡ []
unfolding start with_attr own_attrs all_built_ins built_in_flags place_of flags_of
start-clear = refl

start-quiet : start.calls ≡ []
unfolding start with_attr own_attrs all_built_ins built_in_flags place_of flags_of
start-quiet = refl

pub invariant_of-result : goal.invariant_of-result
invariant_of-result c =
    let r = c.readable.ensures in
    (none-held r.0 c.in_ok-world.world (ap (λ w. w.scopes) (c.in_ok-world.ensures.start r.0 r.1) ∙ start-clear), quiet-held r.0 c.in_ok-world.world (ap (λ w. w.calls) (c.in_ok-world.ensures.start r.0 r.1) ∙ start-quiet), let k = c.in_ok-stack.ensures.exact in omega (arith, k))

pub returns-clause-rests : goal.returns-clause-rests
returns-clause-rests c =
    let r = c.readable.ensures in
    let none = none-held r.0 c.in_ok-world.world (ap (λ w. w.scopes) (c.in_ok-world.ensures.start r.0 r.1) ∙ start-clear) in
    λ t. none-read t c.in_ok-world.world none

pub returns-clause-quiet : goal.returns-clause-quiet
returns-clause-quiet c =
    let r = c.readable.ensures in
    let none = quiet-held r.0 c.in_ok-world.world (ap (λ w. w.calls) (c.in_ok-world.ensures.start r.0 r.1) ∙ start-quiet) in
    λ t. quiet-read t c.in_ok-world.world none
