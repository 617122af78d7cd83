use Rattle.std.proofs.Common.{◌≡◌}
use Rattle.vm_calls.proofs.Lemmas.{SeqItem, slot_at, plain, item_shown}
use Rattle.vm_calls.proofs.protocols.sequence.PySequence.try_protocol.Goals as goal

pub returns-then-check-clause-item : goal.returns-then-check-clause-item
returns-then-check-clause-item c = λ t r.
    let e : c.new-view.result.methods.item ≡ slot_at (plain t c.args.world.now) c.args.o SeqItem = item_shown (plain t c.args.world.now) c.args.o c.new-view.result.methods (c.new-view.ensures.methods t r) in
    cc

pub returns-else-check-clause-item : goal.returns-else-check-clause-item
returns-else-check-clause-item c = λ t r.
    let e : c.new-view.result.methods.item ≡ slot_at (plain t c.args.world.now) c.args.o SeqItem = item_shown (plain t c.args.world.now) c.args.o c.new-view.result.methods (c.new-view.ensures.methods t r) in
    cc
