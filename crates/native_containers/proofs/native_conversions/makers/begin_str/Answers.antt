use Rattle.native_containers.proofs.Lemmas.{[], Ok, refl, sym, ap, string_bytes, Value, AText, ReadObjects, ref, bindings, plain, object_made, NewStr, str-alone, str-asks, str-said, str-waits, made-so, maker-alone, maker-asks, maker-refused}
use Rattle.std.proofs.Common.{◌≡◌, ◌∷◌}
use Rattle.py_node.specs.declared.built_in.BuiltIn.TheVariants as built_in
use Rattle.py_node.specs.declared.protocol.ObjectTask.TheVariants as object
use Rattle.py_node.specs.declared.task.Task.TheVariants as task
use Rattle.native_containers.proofs.native_conversions.makers.begin_str.Goals as goal

pub returns-in-Err-one_at_most-clause-goes : goal.returns-in-Err-one_at_most-clause-goes
returns-in-Err-one_at_most-clause-goes c =
    let a = c.args in
    let e = c.in-Err-one_at_most in
    maker-refused built_in.Str str-alone str-asks a.call.args.now a.call.kw.now (str-said a.call.args.now) a.world.now c.in-Ok.class.0 c.in-Ok.ensures.given e.raised e.ensures.refused

pub returns-in_ok-node-in-Ok-None-clause-goes : goal.returns-in_ok-node-in-Ok-None-clause-goes
returns-in_ok-node-in-Ok-None-clause-goes c =
    let a = c.args in
    let k = c.in-Ok.class.0 in
    let e = c.in_ok-node-in-Ok-None in
    let given = rw c.in-Ok-None.field-0-is at c.in-Ok-None.ensures.given in
    let x = string_bytes c.new-text.result in
    let empty : [] ≡ x = sym c.new-text.ensures.bytes in
    let made = made-so (λ t u. str-alone u k) a.world.now c.make_node.new.self k (λ t. AText x) e.node (λ t. ap (λ b. object_made (plain t a.world.now) k (AText b)) empty) e.ensures.made e.ensures.number in
    maker-alone built_in.Str str-alone str-asks a.call.args.now a.call.kw.now (str-said a.call.args.now) a.world.now k c.in-Ok.ensures.given c.make_node.new.self (Ok (Value e.node)) given e.ensures.reads made

pub returns-in-Ok-Some-clause-goes : goal.returns-in-Ok-Some-clause-goes
returns-in-Ok-Some-clause-goes c =
    let a = c.args in
    let k = c.in-Ok.class in
    let o = c.in-Ok-Some.object in
    let given = rw c.in-Ok-Some.field-0-is at c.in-Ok-Some.ensures.given in
    maker-asks built_in.Str str-alone str-asks a.call.args.now a.call.kw.now (str-said a.call.args.now) a.world.now k.0 c.in-Ok.ensures.given o (task.Object (object.Str o)) (NewStr k) (ReadObjects (ref k.0 ∷ []) ∷ []) given (λ t. refl) (λ t u r more. str-waits a.call.args.now k (bindings t a.call.kw.now) t u r more)
