-- Which task a native is.
use Rattle.plain_machine.specs.Below.{List, PyObjectRef, NativeEntry, OfObject, OfType, OfInt}
use Rattle.plain_machine.specs.Plain.{Bindings, DoObject, DoType, DoInt, PlainTask, ToCall, ToClass, ToOperator, ToNative}

-- a native is asked with its arguments and keywords, in the group that it stands in, if any
abbrev pub native_task : NativeEntry → List PyObjectRef → Bindings → PlainTask
native_task (OfObject n) args kw = ToCall (DoObject n args kw)
native_task (OfType n) args kw = ToClass (DoType n args kw)
native_task (OfInt n) args kw = ToOperator (DoInt n args kw)
native_task n args kw = ToNative n args kw
