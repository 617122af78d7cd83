-- What is asked where an object is called by a native that is for its kind.
use Rattle.row_kit.specs.Below.{List, Option, Some, None, PyObjectRef, NativeEntry, OfCallable, OfType, OfWrapper, Datum, AClass, AMethod, ANativeFunction, ABuiltinMethod, AMethodDescriptor, AStaticMethod, Bindings, DoCall, DoBody, DoTypeCall, PlainTask, ToCall, native_task}
use Rattle.std.specs.Prelude.{◌∷◌}
use Rattle.py_node.specs.declared.entry.CallableNative.TheVariants as callable
use Rattle.py_node.specs.declared.entry.TypeNative.TheVariants as type
use Rattle.py_node.specs.declared.entry.WrapperNative.TheVariants as wrapper

abbrev pub with_self : Option PyObjectRef → List PyObjectRef → List PyObjectRef
with_self None args = args
with_self (Some r) args = r ∷ args

-- what the native entry for calls does with what the object holds: a body runs, a bound function is called with its object first, a native is asked, a class makes an object, what a static method wraps is called
abbrev pub call_native : NativeEntry → Option Datum → PyObjectRef → List PyObjectRef → Bindings → Option PlainTask
call_native (OfCallable callable.CallFunction) d f args kw = Some (ToCall (DoBody f args kw))
call_native (OfCallable callable.CallMethod) (Some (AMethod o g)) f args kw = Some (ToCall (DoCall g (o ∷ args) kw))
call_native (OfCallable callable.CallNativeFunction) (Some (ANativeFunction x n o doc)) f args kw = Some (native_task n (with_self o args) kw)
call_native (OfCallable callable.CallBuiltinMethod) (Some (ABuiltinMethod x n o c doc)) f args kw = Some (native_task n (o ∷ args) kw)
call_native (OfCallable callable.CallMethodDescriptor) (Some (AMethodDescriptor c x n flags doc)) f args kw = Some (native_task n args kw)
call_native (OfType type.Call) (Some (AClass c)) f args kw = Some (ToCall (DoTypeCall c args kw))
call_native (OfWrapper wrapper.StaticCall) (Some (AStaticMethod g)) f args kw = Some (ToCall (DoCall g args kw))
call_native _ d f args kw = None
