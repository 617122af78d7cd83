-- What properties read and set.
use Rattle.proto_attr.specs.Below.{cond, eqb, List, [], Option, Some, None, PyObjectRef, PyProperty, Cause, NoDeleter, NoGetter, NoSetter, Datum, AProperty, PlainWorld, DoCall, ToCall, Said, Ends, pass, value, none, done, fault}
use Rattle.std.specs.Prelude.{◌∷◌}

-- a part of a property is called with the object, where it is there
abbrev pub call_part : PlainWorld → Option PyObjectRef → Cause → List PyObjectRef → Said
call_part w None cause args = Ends w (fault cause)
call_part w (Some f) cause args = pass w (ToCall (DoCall f args []))

-- without an object, or of None, a property gives itself
abbrev pub property_get : PlainWorld → Option Datum → PyObjectRef → Option PyObjectRef → Said
property_get w (Some (AProperty p)) m (Some o) = cond (eqb o.0 none.0) (Ends w (value m)) (call_part w p.fget NoGetter (o ∷ []))
property_get w _ m o = Ends w (value m)

abbrev pub set_part : PlainWorld → PyProperty → PyObjectRef → Option PyObjectRef → Said
set_part w p o (Some v) = call_part w p.fset NoSetter (o ∷ v ∷ [])
set_part w p o None = call_part w p.fdel NoDeleter (o ∷ [])

abbrev pub property_set : PlainWorld → Option Datum → PyObjectRef → Option PyObjectRef → Said
property_set w (Some (AProperty p)) o v = set_part w p o v
property_set w _ o v = Ends w done
