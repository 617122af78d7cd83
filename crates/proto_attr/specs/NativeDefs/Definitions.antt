-- Definitions of native methods, and what they are as objects.
use Rattle.proto_attr.specs.Below.{ℕ, Bool, cond, Option, None, option_map, string_bytes, bit_and, BuiltIn, BuiltinFunctionOrMethod, NativeEntry, PyObjectRef, Text, place_of, Datum, ANativeFunction, ABuiltinMethod, AMethodDescriptor, PlainWorld, with_node, next_node, with_own_attr}
use Rattle.std.specs.Prelude.{◌||◌, ◌==◌}
use Rattle.py_node.specs.declared.built_in.BuiltIn.TheVariants.{MethodDescriptor}
use Rattle.proto_attr.specs.declared.native_defs.def.PyMethodDef.{PyMethodDef}

-- the definition of a native method, with texts as bytes and flags as bits
pub record Definition : Type 0 where
  pub name : Text
  pub func : NativeEntry
  pub flags : ℕ
  pub doc : Option Text

abbrev pub definition : Text → NativeEntry → ℕ → Option Text → Definition
definition name func flags doc = record { name = name; func = func; flags = flags; doc = doc }

abbrev pub definition_of : PyMethodDef → Definition
definition_of d = record { name = string_bytes d.name; func = d.func; flags = d.flags.0; doc = option_map (λ x. string_bytes x) d.doc }

-- how a native is bound: to the class of an object, or to an object, by the bits of its flags
abbrev pub class_flag : ℕ
class_flag = 16

abbrev pub method_flag : ℕ
method_flag = 512

abbrev pub has_bit : ℕ → Definition → Bool
has_bit bit d = bit_and d.flags bit == bit

-- a method of objects or of classes
abbrev pub is_method : Definition → Bool
is_method d = has_bit method_flag d || has_bit class_flag d

-- as a function, which may be bound to an object
abbrev pub as_function : Definition → Option PyObjectRef → Datum
as_function d target = ANativeFunction d.name d.func target d.doc

-- as a method of a class
abbrev pub as_method : Definition → ℕ → Datum
as_method d class = AMethodDescriptor class d.name d.func d.flags d.doc

-- as a method of a class that is bound to an object
abbrev pub as_bound_method : Definition → PyObjectRef → ℕ → Datum
as_bound_method d obj class = ABuiltinMethod d.name d.func obj class d.doc

-- as an attribute of a class: a method of it, or a function that isn't bound
abbrev pub as_attribute : Definition → ℕ → Datum
as_attribute d class = cond (is_method d) (as_method d class) (as_function d None)

-- the class of such an object
abbrev pub attribute_home : Definition → BuiltIn
attribute_home d = cond (is_method d) MethodDescriptor BuiltinFunctionOrMethod

-- a new such object, as an own attribute of the class under the definition's name
unfoldable pub with_method : ℕ → PlainWorld → PyMethodDef → PlainWorld
with_method class w def =
    let d = definition_of def in
    let home = place_of (attribute_home d) in
    with_own_attr (with_node w home (as_attribute d class)) class d.name (next_node w home)
