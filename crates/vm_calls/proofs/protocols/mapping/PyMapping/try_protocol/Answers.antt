use Rattle.std.proofs.Common.{◌≡◌}
use Rattle.vm_calls.proofs.Lemmas.{MapSubscript, slot_at, plain, subscript_shown}
use Rattle.vm_calls.proofs.protocols.mapping.PyMapping.try_protocol.Goals as goal

pub returns-then-check-clause-subscript : goal.returns-then-check-clause-subscript
returns-then-check-clause-subscript c = λ t r.
    let e : c.new-view.result.methods.subscript ≡ slot_at (plain t c.args.world.now) c.args.o MapSubscript = subscript_shown (plain t c.args.world.now) c.args.o c.new-view.result.methods (c.new-view.ensures.methods t r) in
    cc

pub returns-else-check-clause-subscript : goal.returns-else-check-clause-subscript
returns-else-check-clause-subscript c = λ t r.
    let e : c.new-view.result.methods.subscript ≡ slot_at (plain t c.args.world.now) c.args.o MapSubscript = subscript_shown (plain t c.args.world.now) c.args.o c.new-view.result.methods (c.new-view.ensures.methods t r) in
    cc
