use Rattle.native_containers.proofs.Lemmas.{[], Ok, refl, sym, ap, Value, Ends, value, bindings, plain, NewBool, bool-alone, bool-asks, bool-said, bool-waits, maker-alone, maker-asks, maker-refused}
use Rattle.py_node.specs.declared.built_in.BuiltIn.TheVariants as built_in
use Rattle.py_node.specs.declared.protocol.ProtocolTask.TheVariants as protocol
use Rattle.py_node.specs.declared.task.Task.TheVariants as task
use Rattle.native_containers.proofs.native_conversions.numbers.begin_bool.Goals as goal

pub returns-in-Err-one_at_most-clause-goes : goal.returns-in-Err-one_at_most-clause-goes
returns-in-Err-one_at_most-clause-goes c =
    let a = c.args in
    let e = c.in-Err-one_at_most in
    maker-refused built_in.Bool bool-alone bool-asks a.call.args.now a.call.kw.now (bool-said a.call.args.now) a.world.now c.in_default.field-0.0 c.in_default.ensures.given e.raised e.ensures.refused

pub returns-in-Ok-None-clause-goes : goal.returns-in-Ok-None-clause-goes
returns-in-Ok-None-clause-goes c =
    let a = c.args in
    let w = a.world.now in
    let given = rw c.in-Ok-None.field-0-is at c.in-Ok-None.ensures.given in
    maker-alone built_in.Bool bool-alone bool-asks a.call.args.now a.call.kw.now (bool-said a.call.args.now) w c.in_default.field-0.0 c.in_default.ensures.given w (Ok (Value c.truth.result)) given (λ t q. q) (λ t. ap (λ v. Ends (plain t w) (value v)) (sym c.truth.ensures.object))

pub returns-in-Ok-Some-clause-goes : goal.returns-in-Ok-Some-clause-goes
returns-in-Ok-Some-clause-goes c =
    let a = c.args in
    let k = c.in_default.field-0 in
    let o = c.in-Ok-Some.object in
    let given = rw c.in-Ok-Some.field-0-is at c.in-Ok-Some.ensures.given in
    maker-asks built_in.Bool bool-alone bool-asks a.call.args.now a.call.kw.now (bool-said a.call.args.now) a.world.now k.0 c.in_default.ensures.given o (task.Protocol (protocol.IsTrue o)) NewBool [] given (λ t. refl) (λ t u r more. bool-waits a.call.args.now k (bindings t a.call.kw.now) t u r more)
