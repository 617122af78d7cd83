-- The natives of descriptors and of `super` that ask no task.
use Rattle.proto_attr.specs.Below.{ℕ, Bool, true, false, cond, eqb, length, nat_le, slice_get, List, [], codes, Option, Some, None, option_map, PyObjectRef, PyProperty, ArgCount, SelfType, UnexpectedKeyword, CallableNative, DescriptorNative, PropertyNative, SuperNative, WrapperNative, fixed_none, Text, Datum, AProperty, AStaticMethod, AText, PlainWorld, Bindings, Said, Ends, class_at, datum_at, is_text, with_datum, name_at, value, none, fault, elsewhere, with_one, with_two, with_three, without_keywords, in_length, object_made, text_made, with_own}
use Rattle.std.specs.Prelude.{◌∷◌, ◌++◌}
use Rattle.py_node.specs.declared.entry.CallableNative.TheVariants as callable
use Rattle.py_node.specs.declared.entry.DescriptorNative.TheVariants as descriptor
use Rattle.py_node.specs.declared.entry.PropertyNative.TheVariants as property
use Rattle.py_node.specs.declared.entry.SuperNative.TheVariants as super
use Rattle.py_node.specs.declared.entry.WrapperNative.TheVariants as wrapper
use Rattle.proto_attr.specs.NativeObjects.Takes.{method_in, member_in, property_in, static_in, super_in}

-- texts of what a class has

abbrev pub method_text : PlainWorld → ℕ × Text → Text
method_text w m = codes "<method '" ++ (m.1 ++ (codes "' of '" ++ (name_at w.classes m.0 ++ codes "' objects>")))

abbrev pub member_text : PlainWorld → ℕ × Text → Text
member_text w m = codes "<member '" ++ (m.1 ++ (codes "' of '" ++ (name_at w.classes m.0 ++ codes "' objects>")))

abbrev pub method_repr : PlainWorld → List PyObjectRef → Bindings → Said
method_repr w args kw =
    with_own method_in w args (λ o m. with_one w args kw (λ a. text_made w (in_length (method_text w m))))

abbrev pub member_repr : PlainWorld → List PyObjectRef → Bindings → Said
member_repr w args kw =
    with_own member_in w args (λ o m. with_one w args kw (λ a. text_made w (in_length (member_text w m))))

abbrev pub callable_say : PlainWorld → CallableNative → List PyObjectRef → Bindings → Said
callable_say w callable.ReprMethodDescriptor args kw = method_repr w args kw
callable_say w _ args kw = Ends w elsewhere

abbrev pub descriptor_native_say : PlainWorld → DescriptorNative → List PyObjectRef → Bindings → Said
descriptor_native_say w descriptor.MemberRepr args kw = member_repr w args kw
descriptor_native_say w _ args kw = Ends w elsewhere

-- `super`

-- the class past which it looks, and what it is bound to, by the class where it starts
abbrev pub bound_text : Text → Option Text → Text
bound_text past None = codes "<super: <class '" ++ past ++ codes "'>, NULL>"
bound_text past (Some start) = codes "<super: <class '" ++ (past ++ (codes "'>, <" ++ (start ++ codes " object>>")))

abbrev pub super_text : PlainWorld → ℕ × Option (PyObjectRef × ℕ) → Text
super_text w s = bound_text (name_at w.classes s.0) (option_map (λ b. name_at w.classes b.1) s.1)

abbrev pub super_repr : PlainWorld → List PyObjectRef → Bindings → Said
super_repr w args kw =
    with_own super_in w args (λ o s. with_one w args kw (λ a. text_made w (in_length (super_text w s))))

abbrev pub super_say : PlainWorld → SuperNative → List PyObjectRef → Bindings → Said
super_say w super.Repr args kw = super_repr w args kw
super_say w _ args kw = Ends w elsewhere

-- an object gets other contents, and the native answers None
abbrev pub changed : PlainWorld → PyObjectRef → Datum → Said
changed w o d = Ends (with_datum w o d) (value none)

-- a static method wraps the callable that it is given
abbrev pub static_init : PlainWorld → List PyObjectRef → Bindings → Said
static_init w args kw = with_own static_in w args (λ o f. with_two w args kw (λ a g. changed w o (AStaticMethod g)))

abbrev pub wrapper_say : PlainWorld → WrapperNative → List PyObjectRef → Bindings → Said
wrapper_say w wrapper.StaticInit args kw = static_init w args kw
wrapper_say w _ args kw = Ends w elsewhere

-- `property`

-- the parts of a property by their places, after the property itself
abbrev pub placed : List PyObjectRef → PyProperty
placed args = record { fget = slice_get args 1; fset = slice_get args 2; fdel = slice_get args 3; doc = slice_get args 4; name = slice_get args 5 }

-- a part that has a value already can't be given one
abbrev pub unless_given : Option PyObjectRef → PyProperty → Option PyProperty
unless_given None p = Some p
unless_given (Some r) p = None

-- a keyword gives a part its value
abbrev pub with_part : PyProperty → Text → PyObjectRef → Option PyProperty
with_part p x v =
    cond (is_text x (codes "fget")) (unless_given p.fget (record p { fget = Some v }))
    (cond (is_text x (codes "fset")) (unless_given p.fset (record p { fset = Some v }))
    (cond (is_text x (codes "fdel")) (unless_given p.fdel (record p { fdel = Some v }))
    (cond (is_text x (codes "doc")) (unless_given p.doc (record p { doc = Some v }))
    (cond (is_text x (codes "name")) (unless_given p.name (record p { name = Some v })) None))))

abbrev pub with_parts : Option PyProperty → Bindings → Option PyProperty
with_parts None kw = None
with_parts (Some p) [] = Some p
with_parts (Some p) (k ∷ kw) = with_parts (with_part p k.0 k.1) kw

-- None counts as absent
abbrev pub unless_none : Option PyObjectRef → Option PyObjectRef
unless_none None = None
unless_none (Some r) = cond (eqb r.0 fixed_none) None (Some r)

abbrev pub without_none : PyProperty → PyProperty
without_none p = record { fget = unless_none p.fget; fset = unless_none p.fset; fdel = unless_none p.fdel; doc = unless_none p.doc; name = unless_none p.name }

abbrev pub is_text_datum : Option Datum → Bool
is_text_datum (Some (AText x)) = true
is_text_datum _ = false

-- whether a name, if there is one, is a text
abbrev pub may_name : PlainWorld → Option PyObjectRef → Bool
may_name w None = true
may_name w (Some r) = is_text_datum (datum_at w r)

abbrev pub initialised : PlainWorld → PyObjectRef → PyProperty → Said
initialised w o p = cond (may_name w p.name) (changed w o (AProperty p)) (Ends w (fault SelfType))

abbrev pub with_all_parts : PlainWorld → PyObjectRef → Option PyProperty → Said
with_all_parts w o None = Ends w (fault UnexpectedKeyword)
with_all_parts w o (Some p) = initialised w o (without_none p)

-- at most five parts by place
abbrev pub property_with : PlainWorld → PyObjectRef → List PyObjectRef → Bindings → Said
property_with w o args kw =
    cond (nat_le (length args) 6) (with_all_parts w o (with_parts (Some (placed args)) kw)) (Ends w (fault ArgCount))

abbrev pub property_init : PlainWorld → List PyObjectRef → Bindings → Said
property_init w args kw = with_own property_in w args (λ o p. property_with w o args kw)

-- a property of the same class with another part, unless that is None, and with neither doc nor name
abbrev pub property_made : PlainWorld → Option ℕ → PyProperty → Said
property_made w None p = Ends w elsewhere
property_made w (Some c) p = object_made w c (AProperty p)

abbrev pub or_old : PyObjectRef → Option PyObjectRef → Option PyObjectRef
or_old r old = cond (eqb r.0 fixed_none) old (Some r)

abbrev pub bare : PyProperty → PyProperty
bare p = record p { doc = None; name = None }

-- the part that a native sets
abbrev pub part_set : PropertyNative → PyProperty → PyObjectRef → PyProperty
part_set property.Getter p r = record p { fget = or_old r p.fget }
part_set property.Setter p r = record p { fset = or_old r p.fset }
part_set property.Deleter p r = record p { fdel = or_old r p.fdel }
part_set _ p r = p

-- a property and one part
abbrev pub property_part : PlainWorld → PropertyNative → List PyObjectRef → Bindings → Said
property_part w n args kw =
    with_own property_in w args (λ o p. with_two w args kw (λ a r. property_made w (class_at w o) (part_set n (bare p) r)))

-- the name that it gets, whatever object that is
abbrev pub property_set_name : PlainWorld → List PyObjectRef → Bindings → Said
property_set_name w args kw =
    with_own property_in w args (λ o p. with_three w args kw (λ a c n. changed w o (AProperty (record p { name = Some n }))))

abbrev pub property_say : PlainWorld → PropertyNative → List PyObjectRef → Bindings → Said
property_say w property.Init args kw = property_init w args kw
property_say w property.SetName args kw = property_set_name w args kw
property_say w property.Getter args kw = property_part w property.Getter args kw
property_say w property.Setter args kw = property_part w property.Setter args kw
property_say w property.Deleter args kw = property_part w property.Deleter args kw
property_say w _ args kw = Ends w elsewhere
