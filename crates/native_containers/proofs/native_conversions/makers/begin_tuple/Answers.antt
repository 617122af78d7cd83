use Rattle.native_containers.proofs.Lemmas.{[], Ok, refl, sym, ap, Value, ATuple, ReadObjects, ref, bindings, plain, object_made, NewTuple, tuple-alone, tuple-asks, tuple-said, tuple-waits, made-so, maker-alone, maker-asks, maker-refused, no-nodes}
use Rattle.std.proofs.Common.{◌∷◌}
use Rattle.py_node.specs.declared.built_in.BuiltIn.TheVariants as built_in
use Rattle.py_node.specs.declared.protocol.ProtocolTask.TheVariants as protocol
use Rattle.py_node.specs.declared.task.Task.TheVariants as task
use Rattle.native_containers.proofs.native_conversions.makers.begin_tuple.Goals as goal

pub make_node-requires-clause-payload : goal.make_node-requires-clause-payload
make_node-requires-clause-payload c = rw c.new-items.ensures.items (no-nodes _, tt)

pub returns-in-Err-one_at_most-clause-goes : goal.returns-in-Err-one_at_most-clause-goes
returns-in-Err-one_at_most-clause-goes c =
    let a = c.args in
    let e = c.in-Err-one_at_most in
    maker-refused built_in.Tuple tuple-alone tuple-asks a.call.args.now a.call.kw.now (tuple-said a.call.args.now) a.world.now c.in-Ok.class.0 c.in-Ok.ensures.given e.raised e.ensures.refused

pub returns-in_ok-node-in-Ok-None-clause-goes : goal.returns-in_ok-node-in-Ok-None-clause-goes
returns-in_ok-node-in-Ok-None-clause-goes c =
    let a = c.args in
    let k = c.in-Ok.class.0 in
    let e = c.in_ok-node-in-Ok-None in
    let given = rw c.in-Ok-None.field-0-is at c.in-Ok-None.ensures.given in
    let rs = c.new-items.result.items in
    let made = made-so (λ t u. tuple-alone u k) a.world.now c.make_node.new.self k (λ t. ATuple rs) e.node (λ t. ap (λ b. object_made (plain t a.world.now) k (ATuple b)) (sym c.new-items.ensures.items)) e.ensures.made e.ensures.number in
    maker-alone built_in.Tuple tuple-alone tuple-asks a.call.args.now a.call.kw.now (tuple-said a.call.args.now) a.world.now k c.in-Ok.ensures.given c.make_node.new.self (Ok (Value e.node)) given e.ensures.reads made

pub returns-in-Ok-Some-clause-goes : goal.returns-in-Ok-Some-clause-goes
returns-in-Ok-Some-clause-goes c =
    let a = c.args in
    let k = c.in-Ok.class in
    let o = c.in-Ok-Some.object in
    let given = rw c.in-Ok-Some.field-0-is at c.in-Ok-Some.ensures.given in
    maker-asks built_in.Tuple tuple-alone tuple-asks a.call.args.now a.call.kw.now (tuple-said a.call.args.now) a.world.now k.0 c.in-Ok.ensures.given o (task.Protocol (protocol.Collect o)) (NewTuple k) (ReadObjects (ref k.0 ∷ []) ∷ []) given (λ t. refl) (λ t u r more. tuple-waits a.call.args.now k (bindings t a.call.kw.now) t u r more)
