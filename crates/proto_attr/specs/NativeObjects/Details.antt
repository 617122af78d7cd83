-- What is read through getters of the objects of the other built-in classes, which ask no task.
use Rattle.proto_attr.specs.Below.{ℕ, List, codes, Option, Some, None, option_map, PyObjectRef, PyProperty, PySlice, BuiltIn, Detail, Text, Datum, AFunction, AMethod, ANativeFunction, ABuiltinMethod, AMethodDescriptor, AGetSet, AClassMethod, AStaticMethod, AMember, AProperty, ASuper, ASlice, PlainWorld, Bindings, Said, Ends, ref, name_at, whole_name_at, value, none, elsewhere, with_one, in_length, text_made, signature_of, with_own}
use Rattle.std.specs.Prelude.{◌++◌}
use Rattle.py_node.specs.declared.built_in.BuiltIn.TheVariants as built_in
use Rattle.py_node.specs.declared.entry.Detail.TheVariants as detail

-- a part of what an object holds: a name, what the objects of a class have under a name, told with what the class is called or with its whole name, a class, an object that may be absent, the signature that a text for readers gives for a name, or what is told by another task
pub data Part : Type 0 where
  NamePart : Text → Part
  DottedPart : ℕ → Text → Part
  WholePart : ℕ → Text → Part
  ClassPart : ℕ → Part
  ObjectPart : Option PyObjectRef → Part
  SignaturePart : Text → Text → Part
  LaterPart : Part

-- the parts of the objects of each class, by the names under which they are read

abbrev pub name_part : Detail → Text → Option Part
name_part detail.Name x = Some (NamePart x)
name_part d x = None

abbrev pub function_part : Detail → Option Datum → Option Part
function_part d (Some (AFunction x ps rest e c)) = name_part d x
function_part d _ = None

abbrev pub bound_part : Detail → PyObjectRef → PyObjectRef → Option Part
bound_part detail.BoundSelf r f = Some (ObjectPart (Some r))
bound_part detail.Func r f = Some (ObjectPart (Some f))
bound_part d r f = None

abbrev pub method_part : Detail → Option Datum → Option Part
method_part d (Some (AMethod r f)) = bound_part d r f
method_part d _ = None

-- a name, and what a native is bound to
abbrev pub native_part : Detail → Text → Option PyObjectRef → Option Part
native_part detail.Name x r = Some (NamePart x)
native_part detail.BoundSelf x r = Some (ObjectPart r)
native_part d x r = None

abbrev pub native_function_part : Detail → Option Datum → Option Part
native_function_part d (Some (ANativeFunction x n r doc)) = native_part d x r
native_function_part d _ = None

abbrev pub builtin_method_part : Detail → Option Datum → Option Part
builtin_method_part d (Some (ABuiltinMethod x n r c doc)) = native_part d x (Some r)
builtin_method_part d _ = None

-- what stands under a name in a class
abbrev pub in_class_part : Detail → ℕ → Text → Option Part
in_class_part detail.Name c x = Some (NamePart x)
in_class_part detail.Qualname c x = Some (DottedPart c x)
in_class_part detail.Objclass c x = Some (ClassPart c)
in_class_part d c x = None

-- a text for readers, where there is one
abbrev pub doc_part : Option Text → Part
doc_part None = ObjectPart None
doc_part (Some x) = NamePart x

-- the signature that such a text begins with
abbrev pub signature_part : Text → Option Text → Part
signature_part x None = ObjectPart None
signature_part x (Some doc) = SignaturePart x doc

abbrev pub described_part : Detail → ℕ → Text → Option Text → Option Part
described_part detail.Doc c x doc = Some (doc_part doc)
described_part detail.TextSignature c x doc = Some (signature_part x doc)
described_part d c x doc = in_class_part d c x

abbrev pub method_descriptor_part : Detail → Option Datum → Option Part
method_descriptor_part d (Some (AMethodDescriptor c x n flags doc)) = described_part d c x doc
method_descriptor_part d _ = None

abbrev pub getset_part : Detail → Option Datum → Option Part
getset_part detail.Qualname (Some (AGetSet c x get set)) = Some (WholePart c x)
getset_part d (Some (AGetSet c x get set)) = in_class_part d c x
getset_part d _ = None

-- the qualified name of a member, which is kept once it was asked for
abbrev pub kept_part : Option Text → Part
kept_part None = LaterPart
kept_part (Some x) = NamePart x

abbrev pub qualified_part : Detail → Option Text → Option Text → Option Part
qualified_part detail.Doc qualname doc = Some (doc_part doc)
qualified_part detail.Qualname qualname doc = Some (kept_part qualname)
qualified_part d qualname doc = None

abbrev pub member_part : Detail → Option Datum → Option Part
member_part d (Some (AMember c x kind get set qualname doc)) = qualified_part d qualname doc
member_part d _ = None

abbrev pub accessor_part : Detail → PyProperty → Option Part
accessor_part detail.Getter p = Some (ObjectPart p.fget)
accessor_part detail.Setter p = Some (ObjectPart p.fset)
accessor_part detail.Deleter p = Some (ObjectPart p.fdel)
accessor_part detail.Doc p = Some (ObjectPart p.doc)
accessor_part detail.IsAbstract p = Some LaterPart
accessor_part d p = None

abbrev pub property_part : Detail → Option Datum → Option Part
property_part d (Some (AProperty p)) = accessor_part d p
property_part d _ = None

-- the callable that is wrapped, or else what is told of it
abbrev pub callable_part : Detail → PyObjectRef → Part
callable_part detail.Func f = ObjectPart (Some f)
callable_part detail.Wrapped f = ObjectPart (Some f)
callable_part d f = LaterPart

abbrev pub class_method_part : Detail → Option Datum → Option Part
class_method_part d (Some (AClassMethod f)) = Some (callable_part d f)
class_method_part d _ = None

abbrev pub static_method_part : Detail → Option Datum → Option Part
static_method_part d (Some (AStaticMethod f)) = Some (callable_part d f)
static_method_part d _ = None

-- the class where the search of a `super` starts
abbrev pub start_part : Option (PyObjectRef × ℕ) → Part
start_part None = ObjectPart None
start_part (Some b) = ClassPart b.1

abbrev pub looked_part : Detail → ℕ → Option (PyObjectRef × ℕ) → Option Part
looked_part detail.ThisClass c o = Some (ClassPart c)
looked_part detail.SelfClass c o = Some (start_part o)
looked_part detail.BoundSelf c o = Some (ObjectPart (option_map (λ b. b.0) o))
looked_part d c o = None

abbrev pub super_part : Detail → Option Datum → Option Part
super_part d (Some (ASuper c o)) = looked_part d c o
super_part d _ = None

abbrev pub bounds_part : Detail → PySlice → Option Part
bounds_part detail.Start s = Some (ObjectPart s.start)
bounds_part detail.Stop s = Some (ObjectPart s.stop)
bounds_part detail.Step s = Some (ObjectPart s.step)
bounds_part d s = None

abbrev pub slice_part : Detail → Option Datum → Option Part
slice_part d (Some (ASlice s)) = bounds_part d s
slice_part d _ = None

-- the part of an object of a class
abbrev pub part_of : BuiltIn → Detail → Option Datum → Option Part
part_of built_in.Function d o = function_part d o
part_of built_in.Method d o = method_part d o
part_of built_in.BuiltinFunctionOrMethod d o = native_function_part d o
part_of built_in.BuiltinMethod d o = builtin_method_part d o
part_of built_in.MethodDescriptor d o = method_descriptor_part d o
part_of built_in.GetSetDescriptor d o = getset_part d o
part_of built_in.MemberDescriptor d o = member_part d o
part_of built_in.Property d o = property_part d o
part_of built_in.ClassMethod d o = class_method_part d o
part_of built_in.StaticMethod d o = static_method_part d o
part_of built_in.Super d o = super_part d o
part_of built_in.Slice d o = slice_part d o
part_of b d o = None

-- an object, or else None
abbrev pub or_none : Option PyObjectRef → PyObjectRef
or_none None = none
or_none (Some r) = r

abbrev pub dotted_text : PlainWorld → ℕ → Text → Text
dotted_text w c x = name_at w.classes c ++ codes "." ++ x

abbrev pub whole_text : PlainWorld → ℕ → Text → Text
whole_text w c x = whole_name_at w.classes c ++ codes "." ++ x

-- a signature, or else None
abbrev pub signature_given : PlainWorld → Option Text → Said
signature_given w None = Ends w (value none)
signature_given w (Some x) = text_made w (in_length x)

-- a name is a new text each time
abbrev pub part_given : PlainWorld → Part → Said
part_given w (NamePart x) = text_made w (in_length x)
part_given w (DottedPart c x) = text_made w (in_length (dotted_text w c x))
part_given w (WholePart c x) = text_made w (in_length (whole_text w c x))
part_given w (ClassPart c) = Ends w (value (ref c))
part_given w (ObjectPart o) = Ends w (value (or_none o))
part_given w (SignaturePart x doc) = signature_given w (signature_of x doc)
part_given w LaterPart = Ends w elsewhere

abbrev pub getter_of_say : PlainWorld → BuiltIn → Detail → List PyObjectRef → Bindings → Said
getter_of_say w b d args kw = with_own (part_of b d) w args (λ o p. with_one w args kw (λ a. part_given w p))
