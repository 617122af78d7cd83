-- Loading a method and calling what was loaded, beside reading the attribute and calling what was read.
use Rattle.vm_calls.specs.Below.{ℕ, suc, Some, Ok, Vec, GetAttr, LoadMethod, Invoke, Call, PyObjectRef, PyStrInterned, Function, PyResult, Done, the_method, AMethod, class_at, datum_at, with_node, next_node, Reading, Reads, plain, State}
use Rattle.std.specs.Prelude.{◌≡◌}
use Rattle.py_node.specs.declared.task.Task.TheVariants as task
use Rattle.vm_calls.specs.AttributeLaws.Methods.{IsKnown, method_class, method_made}
use Rattle.vm_calls.specs.Told.{TellsMethod, TellsObject}

-- where a function was loaded with its target, nothing has changed and the target is the object itself; and reading the attribute in the same world, with two units at least, tells a new method of just these two and changes nothing else
abbrev pub LoadedIsRead : State → Type 0
LoadedIsRead vm =
    (o p a : PyObjectRef) (x : PyStrInterned) (units more : ℕ) (loaded before read : State) (told : PyResult PyObjectRef) (t : Reading) →
    TellsMethod (task.Attribute (LoadMethod o x)) units vm loaded (Ok (Done (Function p a))) →
    TellsObject (task.Attribute (GetAttr o x)) (suc (suc more)) before read (Ok told) →
    Reads t loaded.world → Reads t read.world → plain t before.world ≡ plain t vm.world → IsKnown (plain t vm.world) a →
    let c = method_class (datum_at (plain t vm.world) a) in
    (plain t loaded.world ≡ plain t vm.world) × (p ≡ o) × (told ≡ Done (next_node (plain t vm.world) c)) × (plain t read.world ≡ with_node (plain t vm.world) c (method_made (datum_at (plain t vm.world) a) o a))

-- a function with its target is called as a method of just these two is: with the same units both tell the same, and lead to the same world
abbrev pub InvokedIsCalled : State → Type 0
InvokedIsCalled vm =
    (m o a : PyObjectRef) (args : Vec PyObjectRef) (kw : Vec (PyStrInterned × PyObjectRef)) (units : ℕ) (invoked before called : State) (told other : PyResult PyObjectRef) (t : Reading) →
    class_at (plain t vm.world) m ≡ Some the_method → datum_at (plain t vm.world) m ≡ Some (AMethod o a) →
    TellsObject (task.Attribute (Invoke (Function o a) args kw)) units vm invoked (Ok told) →
    TellsObject (task.Call (Call m args kw)) units before called (Ok other) →
    Reads t invoked.world → Reads t called.world → plain t before.world ≡ plain t vm.world →
    (told ≡ other) × (plain t invoked.world ≡ plain t called.world)
