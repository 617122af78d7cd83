-- The natives of `object` that ask no task.
use Rattle.proto_call.specs.Below.{ℕ, false, codes, Option, Some, None, Result, true, cond, eqb, List, [], digits, Raised as Fault, QualnameType, ArgCount, Text, PlainWorld, Bindings, Said, Ends, name_at, fault, value, truth, not_implemented, elsewhere, in_length, number_told, text_made, qualname, module_of, in_module, w64, cast_signed, PyObjectRef, ObjectNative, class_at, with_one, with_two}
use Rattle.std.specs.Prelude.{◌++◌, ◌∷◌}
use Rattle.py_node.specs.declared.entry.ObjectNative.TheVariants as object

-- the text of an object without one of its own: its class, whose qualified name must be a text, and its number
abbrev pub text_from : Option Text → Option Text → Text → ℕ → Result Text Fault
text_from None m x n = fault QualnameType
text_from (Some q) m x n = in_length (codes "<" ++ in_module m q x ++ codes " object at 0x" ++ digits 16 false n ++ codes ">")

abbrev pub object_text : PlainWorld → ℕ → ℕ → Result Text Fault
object_text w c n = text_from (qualname w c) (module_of w c) (name_at w.classes c) n

abbrev pub repr_of : PlainWorld → PyObjectRef → Option ℕ → Said
repr_of w o None = Ends w elsewhere
repr_of w o (Some c) = text_made w (object_text w c o.0)

-- the same object is equal; of others the native says nothing
abbrev pub same_or_none : PlainWorld → PyObjectRef → PyObjectRef → Said
same_or_none w a b = Ends w (value (cond (eqb a.0 b.0) (truth true) not_implemented))

-- there must be an object, and whatever else there is counts for nothing
abbrev pub unless_none : PlainWorld → List PyObjectRef → Said → Said
unless_none w [] go = Ends w (fault ArgCount)
unless_none w (o ∷ args) go = go

-- two objects of which nothing is said
abbrev pub says_nothing : PlainWorld → List PyObjectRef → Bindings → Said
says_nothing w args kw = with_two w args kw (λ a b. Ends w (value not_implemented))

abbrev pub object_repr : PlainWorld → List PyObjectRef → Bindings → Said
object_repr w args kw = with_one w args kw (λ o. repr_of w o (class_at w o))

-- an object's hash is its number, of 64 bits with their sign
abbrev pub object_hash : PlainWorld → List PyObjectRef → Bindings → Said
object_hash w args kw = with_one w args kw (λ o. number_told w (cast_signed w64 o.0))

abbrev pub object_eq : PlainWorld → List PyObjectRef → Bindings → Said
object_eq w args kw = with_two w args kw (same_or_none w)

abbrev pub object_subclass_hook : PlainWorld → List PyObjectRef → Said
object_subclass_hook w args = unless_none w args (Ends w (value not_implemented))

abbrev pub object_native_say : PlainWorld → ObjectNative → List PyObjectRef → Bindings → Said
object_native_say w object.Repr args kw = object_repr w args kw
object_native_say w object.Hash args kw = object_hash w args kw
object_native_say w object.Eq args kw = object_eq w args kw
object_native_say w object.Lt args kw = says_nothing w args kw
object_native_say w object.Le args kw = says_nothing w args kw
object_native_say w object.Ge args kw = says_nothing w args kw
object_native_say w object.Gt args kw = says_nothing w args kw
object_native_say w object.SubclassHook args kw = object_subclass_hook w args
object_native_say w _ args kw = Ends w elsewhere
