-- What the rows of descriptors say.
use Rattle.proto_attr.specs.Below.{ℕ, Bool, cond, not, eqb, false, List, [], Option, Some, None, Ok, Err, PyObjectRef, NeedsType, NoGetter, NoSetter, DescrGet, DescrSet, SlotEntry, Native, Wrapper, NativeEntry, OfCallable, OfDescriptor, OfProperty, OfWrapper, OfSuper, Text, known_text, Datum, AMethod, ABuiltinMethod, AMethodDescriptor, AGetSet, AClassMethod, AStaticMethod, PlainWorld, DescriptorJob, DoDescrGet, DoDescrSet, DoSuperGet, DoSuperInit, DoSuperCheck, DoSpecial, DoGetAttr, DoCall, ToAttribute, ToCall, AsValue, Ended, Answered, ReadObjects, Said, Asks, Ends, datum_at, slot_at, with_node, next_node, type_object, class_object, class_number, for_objects, for_classes, the_none_type, the_method, the_builtin_method, native_task, named_end, Row, start, pass, end, value, done, fault, none, on_value, on_done}
use Rattle.std.specs.Prelude.{◌&&◌, ◌∷◌}
use Rattle.py_node.specs.declared.entry.CallableNative.TheVariants as callable
use Rattle.py_node.specs.declared.entry.DescriptorNative.TheVariants as descriptor
use Rattle.py_node.specs.declared.entry.PropertyNative.TheVariants as property
use Rattle.py_node.specs.declared.entry.SuperNative.TheVariants as super
use Rattle.py_node.specs.declared.entry.WrapperNative.TheVariants as wrapper
use Rattle.py_node.specs.declared.known.Known.TheVariants as known
use Rattle.proto_attr.specs.ProtoDescr.Members.{member_get, member_set, with_value}
use Rattle.proto_attr.specs.ProtoDescr.Properties.{property_get, property_set}
use Rattle.proto_attr.specs.ProtoDescr.Supers.{super_attribute, super_bound, super_check, super_get, super_init, super_started, told_start}

abbrev pub or_none : Option PyObjectRef → PyObjectRef
or_none None = none
or_none (Some r) = r

abbrev pub is_none_type : Option ℕ → Bool
is_none_type None = false
is_none_type (Some d) = eqb d the_none_type

-- None, as an object that is looked at from its own class
abbrev pub is_object_none : PyObjectRef → Option ℕ → Bool
is_object_none o c = eqb o.0 none.0 && not (is_none_type c)

abbrev pub class_of_option : PlainWorld → Option PyObjectRef → Option ℕ
class_of_option w None = None
class_of_option w (Some c) = class_number (datum_at w c)

-- a function is bound to an object, but not to None unless it is looked up in None's class
abbrev pub function_get : PlainWorld → PyObjectRef → Option PyObjectRef → Option ℕ → Said
function_get w m None c = Ends w (value m)
function_get w m (Some o) c = cond (is_object_none o c) (Ends w (value m)) (Ends (with_node w the_method (AMethod o m)) (value (next_node w the_method)))

-- a native of a class, with its name and its doc, is bound to an object
abbrev pub bound_native : PlainWorld → ℕ → Text → NativeEntry → Option Text → PyObjectRef → Said
bound_native w k x n doc o = Ends (with_node w the_builtin_method (ABuiltinMethod x n o k doc)) (value (next_node w the_builtin_method))

-- a native of objects is bound to the object, where a class is given too
abbrev pub object_get : PlainWorld → PyObjectRef → (PyObjectRef → Said) → Option PyObjectRef → Option ℕ → Said
object_get w m bound None c = Ends w (value m)
object_get w m bound (Some o) None = Ends w (fault NeedsType)
object_get w m bound (Some o) (Some c) = bound o

-- a native of classes is bound to the object's class, or else to the class that is given
abbrev pub class_get : PlainWorld → (PyObjectRef → Said) → Option PyObjectRef → Option PyObjectRef → Said
class_get w bound None None = Ends w (fault NeedsType)
class_get w bound None (Some c) = bound c
class_get w bound (Some o) c = bound (type_object w o)

abbrev pub static_get : PlainWorld → PyObjectRef → Option PyObjectRef → Said
static_get w m None = Ends w (value m)
static_get w m (Some o) = Ends w (fault NeedsType)

abbrev pub native_get : PlainWorld → Option Datum → PyObjectRef → Option PyObjectRef → Option PyObjectRef → Said
native_get w (Some (AMethodDescriptor k x n flags doc)) m o c =
    let bound = bound_native w k x n doc in
    cond (for_objects flags) (object_get w m bound o (class_of_option w c)) (cond (for_classes flags) (class_get w bound o c) (static_get w m o))
native_get w _ m o c = Ends w (value m)

-- what reads an attribute of objects is asked of the object alone, where there is one
abbrev pub read_by : PlainWorld → Option NativeEntry → PyObjectRef → Said
read_by w None o = Ends w (fault NoGetter)
read_by w (Some n) o = pass w (native_task n (o ∷ []) [])

abbrev pub getset_get : PlainWorld → Option Datum → PyObjectRef → Option PyObjectRef → Said
getset_get w (Some (AGetSet k x get set)) m (Some o) = read_by w get o
getset_get w _ m o = Ends w (value m)

-- the class that a class method is for: the one that is given, or else the object's, or else None's
abbrev pub class_for : PlainWorld → Option PyObjectRef → Option PyObjectRef → PyObjectRef
class_for w o (Some c) = c
class_for w (Some o) None = type_object w o
class_for w None None = class_object w the_none_type

-- what a class method wraps is asked for its own `__get__`
abbrev pub class_method_get : PlainWorld → Option Datum → PyObjectRef → PyObjectRef → Said
class_method_get w (Some (AClassMethod f)) m k = Asks w (ReadObjects (k ∷ f ∷ []) ∷ []) (ToAttribute (DoGetAttr f (known_text known.Get)))
class_method_get w _ m k = Ends w (value m)

-- this is called with the class as object and as class. Where there is none, what is wrapped is a method of the class
abbrev pub class_method_by : PlainWorld → PyObjectRef → PyObjectRef → Ended → Said
class_method_by w k f (Ok (AsValue g)) = pass w (ToCall (DoCall g (k ∷ k ∷ []) []))
class_method_by w k f (Ok a) = Ends w (Ok a)
class_method_by w k f (Err x) = Ends (with_node w the_method (AMethod k f)) (value (next_node w the_method))

-- a static method gives what it wraps
abbrev pub static_method_get : PlainWorld → Option Datum → PyObjectRef → Said
static_method_get w (Some (AStaticMethod f)) m = Ends w (value f)
static_method_get w _ m = Ends w (value m)

-- what a descriptor gives, as its class's entry for that says
abbrev pub descr_get_by : PlainWorld → Option SlotEntry → PyObjectRef → Option PyObjectRef → Option PyObjectRef → Said
descr_get_by w (Some (Wrapper s)) m o c = pass w (ToAttribute (DoSpecial m (known_text known.Get) (or_none o ∷ or_none c ∷ []) []))
descr_get_by w (Some (Native (OfCallable callable.GetFunction))) m o c = function_get w m o (class_of_option w c)
descr_get_by w (Some (Native (OfCallable callable.GetMethodDescriptor))) m o c = native_get w (datum_at w m) m o c
descr_get_by w (Some (Native (OfDescriptor descriptor.GetSetGet))) m o c = getset_get w (datum_at w m) m o
descr_get_by w (Some (Native (OfDescriptor descriptor.MemberGet))) m o c = member_get w (datum_at w m) m o
descr_get_by w (Some (Native (OfProperty property.Get))) m o c = property_get w (datum_at w m) m o
descr_get_by w (Some (Native (OfWrapper wrapper.ClassGet))) m o c = class_method_get w (datum_at w m) m (class_for w o c)
descr_get_by w (Some (Native (OfWrapper wrapper.StaticGet))) m o c = static_method_get w (datum_at w m) m
descr_get_by w (Some (Native (OfSuper super.Get))) m o c = super_get w (datum_at w m) m o
descr_get_by w _ m o c = Ends w (value m)

-- does this, and goes on with the answer to what it asked, and with the objects that it read before, if any
abbrev pub start_with : Said → (List PyObjectRef → Ended → Row) → Row
start_with said go (Answered r ∷ more) = go [] r more
start_with said go (ReadObjects rs ∷ (Answered r ∷ more)) = go rs r more
start_with said go _ = said

-- what is read is an object. A class method goes on with its class and what it wraps, and a `super` with itself, its class and the object
abbrev pub descr_get_rest : PlainWorld → List PyObjectRef → Ended → Row
descr_get_rest w (k ∷ f ∷ []) r = start (class_method_by w k f r) (named_end w)
descr_get_rest w (m ∷ t ∷ o ∷ []) r = start (super_bound w t o r) (named_end w)
descr_get_rest w _ r = named_end w r

abbrev pub descr_get_say : PlainWorld → PyObjectRef → Option PyObjectRef → Option PyObjectRef → Row
descr_get_say w m o c = start_with (descr_get_by w (slot_at w m DescrGet) m o c) (descr_get_rest w)

-- what a descriptor's own methods set, or take out
abbrev pub set_by_method : PlainWorld → PyObjectRef → PyObjectRef → Option PyObjectRef → Said
set_by_method w m o (Some v) = pass w (ToAttribute (DoSpecial m (known_text known.Set) (o ∷ v ∷ []) []))
set_by_method w m o None = pass w (ToAttribute (DoSpecial m (known_text known.Delete) (o ∷ []) []))

-- what sets an attribute of objects is asked with the object and the value, and with the object alone where the attribute is taken out
abbrev pub written_by : PlainWorld → Option NativeEntry → PyObjectRef → Option PyObjectRef → Said
written_by w None o v = Ends w (fault NoSetter)
written_by w (Some n) o v = pass w (native_task n (with_value o v) [])

abbrev pub getset_set : PlainWorld → Option Datum → PyObjectRef → Option PyObjectRef → Said
getset_set w (Some (AGetSet k x get set)) o v = written_by w set o v
getset_set w _ o v = Ends w (fault NoSetter)

-- what a descriptor stands for in an object is set, or taken out, as its class's entry for that says
abbrev pub descr_set_by : PlainWorld → Option SlotEntry → PyObjectRef → PyObjectRef → Option PyObjectRef → Said
descr_set_by w (Some (Wrapper s)) m o v = set_by_method w m o v
descr_set_by w (Some (Native (OfDescriptor descriptor.GetSetSet))) m o v = getset_set w (datum_at w m) o v
descr_set_by w (Some (Native (OfDescriptor descriptor.MemberSet))) m o v = member_set w (datum_at w m) o v
descr_set_by w (Some (Native (OfProperty property.Set))) m o v = property_set w (datum_at w m) o v
descr_set_by w _ m o v = Ends w (fault NoSetter)

-- whatever was asked gives counts for nothing
abbrev pub descr_set_say : PlainWorld → PyObjectRef → PyObjectRef → Option PyObjectRef → Row
descr_set_say w m o v = start (descr_set_by w (slot_at w m DescrSet) m o v) (λ r. on_done w r (end w done))

-- `super`

abbrev pub super_get_say : PlainWorld → PyObjectRef → Text → Row
super_get_say w s x = start (super_attribute w (datum_at w s) s x) (named_end w)

abbrev pub super_init_rest : PlainWorld → List PyObjectRef → Ended → Row
super_init_rest w (s ∷ t ∷ o ∷ []) r = start (super_started w s t o r) (end w)
super_init_rest w _ r = end w r

abbrev pub super_init_say : PlainWorld → PyObjectRef → List PyObjectRef → Row
super_init_say w s args = start_with (super_init w s args) (super_init_rest w)

-- what the object says is its class tells where to start
abbrev pub super_check_say : PlainWorld → ℕ → PyObjectRef → Row
super_check_say w t o =
    start (super_check w t o) (λ r. on_value w r (λ k. end w (told_start w t (class_number (datum_at w k)))))

unfoldable pub descriptor_say : PlainWorld → DescriptorJob → Row
descriptor_say w (DoDescrGet m o c) told = descr_get_say w m o c told
descriptor_say w (DoDescrSet m o v) told = descr_set_say w m o v told
descriptor_say w (DoSuperGet s x) told = super_get_say w s x told
descriptor_say w (DoSuperInit s args) told = super_init_say w s args told
descriptor_say w (DoSuperCheck t o) told = super_check_say w t o told
