use Rattle.native_containers.proofs.Lemmas.{[], Ok, refl, pos, Value, ANumber, ReadObjects, ref, bindings, NewInt, int-alone, int-asks, int-said, int-waits, made-so, maker-alone, maker-asks, maker-refused}
use Rattle.std.proofs.Common.{◌∷◌}
use Rattle.py_node.specs.declared.built_in.BuiltIn.TheVariants as built_in
use Rattle.py_node.specs.declared.protocol.ProtocolTask.TheVariants as protocol
use Rattle.py_node.specs.declared.task.Task.TheVariants as task
use Rattle.native_containers.proofs.native_conversions.numbers.begin_int.Goals as goal

pub returns-in-Err-one_at_most-clause-goes : goal.returns-in-Err-one_at_most-clause-goes
returns-in-Err-one_at_most-clause-goes c =
    let a = c.args in
    let e = c.in-Err-one_at_most in
    maker-refused built_in.Int int-alone int-asks a.call.args.now a.call.kw.now (int-said a.call.args.now) a.world.now c.in-Ok.class.0 c.in-Ok.ensures.given e.raised e.ensures.refused

pub returns-in_ok-node-in-Ok-None-clause-goes : goal.returns-in_ok-node-in-Ok-None-clause-goes
returns-in_ok-node-in-Ok-None-clause-goes c =
    let a = c.args in
    let k = c.in-Ok.class.0 in
    let e = c.in_ok-node-in-Ok-None in
    let given = rw c.in-Ok-None.field-0-is at c.in-Ok-None.ensures.given in
    let made = made-so (λ t u. int-alone u k) a.world.now c.make_node.new.self k (λ t. ANumber (pos 0)) e.node (λ t. refl) e.ensures.made e.ensures.number in
    maker-alone built_in.Int int-alone int-asks a.call.args.now a.call.kw.now (int-said a.call.args.now) a.world.now k c.in-Ok.ensures.given c.make_node.new.self (Ok (Value e.node)) given e.ensures.reads made

pub returns-in-Ok-Some-clause-goes : goal.returns-in-Ok-Some-clause-goes
returns-in-Ok-Some-clause-goes c =
    let a = c.args in
    let k = c.in-Ok.class in
    let o = c.in-Ok-Some.object in
    let given = rw c.in-Ok-Some.field-0-is at c.in-Ok-Some.ensures.given in
    maker-asks built_in.Int int-alone int-asks a.call.args.now a.call.kw.now (int-said a.call.args.now) a.world.now k.0 c.in-Ok.ensures.given o (task.Protocol (protocol.Int o)) (NewInt k) (ReadObjects (ref k.0 ∷ []) ∷ []) given (λ t. refl) (λ t u r more. int-waits a.call.args.now k (bindings t a.call.kw.now) t u r more)
