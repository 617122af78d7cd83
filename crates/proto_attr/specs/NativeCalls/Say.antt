-- What the natives say that call an object, bind it, or make one, by name.
use Rattle.proto_attr.specs.Below.{ℕ, Bool, true, false, cond, not, List, [], Option, Some, None, Ok, Err, PyObjectRef, ArgCount, NewSubtype, SelfType, BuiltIn, ClassMethod, StaticMethod, NativeEntry, OfCallable, OfDescriptor, OfProperty, OfWrapper, OfSuper, GetterOf, SetterOf, NewOf, NewWrapper, is_same_native, known_text, is_sub, Datum, AFunction, AMethodDescriptor, AGetSet, AClassMethod, AStaticMethod, AMember, AProperty, ASuper, PlainWorld, Bindings, DoGetAttr, DoSetAttr, DoSuperGet, DoSuperInit, DoNew, PlainTask, ToAttribute, ToDescriptor, ToCall, ToNative, AsValue, Ended, Made, ReadObjects, Said, Asks, Ends, datum_at, with_node, next_node, class_object, class_number, Row, start, build, pass, end, value, none, fault, elsewhere, on_done, with_one, with_two, with_text, without_keywords, named_end, with_heir, call_native}
use Rattle.std.specs.Prelude.{◌&&◌, ◌∷◌}
use Rattle.py_node.specs.declared.entry.CallableNative.TheVariants as callable
use Rattle.py_node.specs.declared.entry.DescriptorNative.TheVariants as descriptor
use Rattle.py_node.specs.declared.entry.Detail.TheVariants as detail
use Rattle.py_node.specs.declared.entry.PropertyNative.TheVariants as property
use Rattle.py_node.specs.declared.entry.SuperNative.TheVariants as super
use Rattle.py_node.specs.declared.entry.WrapperNative.TheVariants as wrapper
use Rattle.py_node.specs.declared.known.Known.TheVariants as known
use Rattle.proto_attr.specs.declared.native_calls.way.Kind.{Kind}
use Rattle.proto_attr.specs.declared.native_calls.way.Kind.TheVariants as kind
use Rattle.proto_attr.specs.declared.native_calls.way.Setting.{Setting}
use Rattle.proto_attr.specs.declared.native_calls.way.Setting.TheVariants as setting
use Rattle.proto_attr.specs.declared.native_calls.way.Wrapper.{Wrapper}
use Rattle.proto_attr.specs.declared.native_calls.way.Wrapper.TheVariants.{Class, Static}
use Rattle.proto_attr.specs.declared.native_calls.way.Way.{Way}
use Rattle.proto_attr.specs.declared.native_calls.way.Way.TheVariants.{Binds, Sets, Deletes, Wraps, Makes, Calls, Looks, Starts, Reads, Marked, Marks}
use Rattle.proto_attr.specs.NativeCalls.Parts.{mark_by_name, or_not_abstract, part_of_wrapped, with_get}
use Rattle.proto_attr.specs.ProtoDescr.Say.{class_of_option, function_get, native_get, getset_get, getset_set, class_for, class_method_get, class_method_by, static_method_get, start_with}
use Rattle.proto_attr.specs.ProtoDescr.Members.{member_get, member_set}
use Rattle.proto_attr.specs.ProtoDescr.Properties.{property_get, property_set}
use Rattle.proto_attr.specs.ProtoDescr.Supers.{super_bound, super_get}

abbrev pub is_function : Option Datum → Bool
is_function (Some (AFunction x params rest body c)) = true
is_function _ = false

abbrev pub is_method_descriptor : Option Datum → Bool
is_method_descriptor (Some (AMethodDescriptor c x n flags doc)) = true
is_method_descriptor _ = false

-- what is asked where an object is called by a native that is for its kind: a body is a function's alone
abbrev pub called_task : PlainWorld → NativeEntry → PyObjectRef → List PyObjectRef → Bindings → Option PlainTask
called_task w n f args kw =
    cond (is_same_native n (OfCallable callable.CallFunction) && not (is_function (datum_at w f))) None (call_native n (datum_at w f) f args kw)

abbrev pub asked_of_kind : PlainWorld → Option PlainTask → Said
asked_of_kind w None = Ends w (fault SelfType)
asked_of_kind w (Some task) = pass w task

-- an object is called by name with the arguments after it, and with all keywords
abbrev pub call_by_name : PlainWorld → NativeEntry → List PyObjectRef → Bindings → Said
call_by_name w n [] kw = Ends w (fault ArgCount)
call_by_name w n (f ∷ args) kw = asked_of_kind w (called_task w n f args kw)

-- the first argument must be of the kind that a native is for
abbrev pub with_kind : PlainWorld → (Option Datum → Bool) → List PyObjectRef → (PyObjectRef → List PyObjectRef → Said) → Said
with_kind w is [] go = Ends w (fault ArgCount)
with_kind w is (m ∷ args) go = cond (is (datum_at w m)) (go m args) (Ends w (fault SelfType))

-- an object is bound by name to another, which is given also where it is None. A class may follow
abbrev pub get_by_name : PlainWorld → (Option Datum → Bool) → List PyObjectRef → Bindings → (PyObjectRef → PyObjectRef → Option PyObjectRef → Said) → Said
get_by_name w is args kw go = with_kind w is args (λ m rest. with_get w rest kw (go m))

abbrev pub is_getset : Option Datum → Bool
is_getset (Some (AGetSet c x get set)) = true
is_getset _ = false

abbrev pub is_member : Option Datum → Bool
is_member (Some (AMember c x k get set qualname doc)) = true
is_member _ = false

abbrev pub is_property : Option Datum → Bool
is_property (Some (AProperty p)) = true
is_property _ = false

abbrev pub is_super : Option Datum → Bool
is_super (Some (ASuper c o)) = true
is_super _ = false

abbrev pub is_class_method : Option Datum → Bool
is_class_method (Some (AClassMethod f)) = true
is_class_method _ = false

abbrev pub is_static_method : Option Datum → Bool
is_static_method (Some (AStaticMethod f)) = true
is_static_method _ = false

-- what an object must be that a native binds
abbrev pub is_of_kind : Kind → Option Datum → Bool
is_of_kind kind.Function d = is_function d
is_of_kind kind.Native d = is_method_descriptor d
is_of_kind kind.GetSet d = is_getset d
is_of_kind kind.Member d = is_member d
is_of_kind kind.Property d = is_property d
is_of_kind kind.Super d = is_super d
is_of_kind kind.ClassMethod d = is_class_method d
is_of_kind kind.StaticMethod d = is_static_method d

abbrev pub function_get_by_name : PlainWorld → List PyObjectRef → Bindings → Said
function_get_by_name w args kw = get_by_name w is_function args kw (λ m o c. function_get w m (Some o) (class_of_option w c))

abbrev pub native_get_by_name : PlainWorld → List PyObjectRef → Bindings → Said
native_get_by_name w args kw = get_by_name w is_method_descriptor args kw (λ m o c. native_get w (datum_at w m) m (Some o) c)

abbrev pub getset_get_by_name : PlainWorld → List PyObjectRef → Bindings → Said
getset_get_by_name w args kw = get_by_name w is_getset args kw (λ m o c. getset_get w (datum_at w m) m (Some o))

abbrev pub member_get_by_name : PlainWorld → List PyObjectRef → Bindings → Said
member_get_by_name w args kw = get_by_name w is_member args kw (λ m o c. member_get w (datum_at w m) m (Some o))

abbrev pub property_get_by_name : PlainWorld → List PyObjectRef → Bindings → Said
property_get_by_name w args kw = get_by_name w is_property args kw (λ m o c. property_get w (datum_at w m) m (Some o))

abbrev pub super_get_by_name : PlainWorld → List PyObjectRef → Bindings → Said
super_get_by_name w args kw = get_by_name w is_super args kw (λ m o c. super_get w (datum_at w m) m (Some o))

abbrev pub class_method_by_name : PlainWorld → List PyObjectRef → Bindings → Said
class_method_by_name w args kw = get_by_name w is_class_method args kw (λ m o c. class_method_get w (datum_at w m) m (class_for w (Some o) c))

abbrev pub static_method_by_name : PlainWorld → List PyObjectRef → Bindings → Said
static_method_by_name w args kw = get_by_name w is_static_method args kw (λ m o c. static_method_get w (datum_at w m) m)

-- what an object stands for is set in another by name, or taken out there

-- the kind of an object by which an attribute is set
abbrev pub kind_of : Setting → Kind
kind_of setting.GetSet = kind.GetSet
kind_of setting.Member = kind.Member
kind_of setting.Property = kind.Property

abbrev pub set_as : PlainWorld → Setting → PyObjectRef → PyObjectRef → Option PyObjectRef → Said
set_as w setting.GetSet m o v = getset_set w (datum_at w m) o v
set_as w setting.Member m o v = member_set w (datum_at w m) o v
set_as w setting.Property m o v = property_set w (datum_at w m) o v

abbrev pub set_so : PlainWorld → Setting → List PyObjectRef → Bindings → Said
set_so w k args kw = with_kind w (is_of_kind (kind_of k)) args (λ m rest. with_two w rest kw (λ o v. set_as w k m o (Some v)))

abbrev pub delete_so : PlainWorld → Setting → List PyObjectRef → Bindings → Said
delete_so w k args kw = with_kind w (is_of_kind (kind_of k)) args (λ m rest. with_one w rest kw (λ o. set_as w k m o None))

-- what is set at once gives None
abbrev pub none_said : Said → Said
none_said (Ends w (Ok a)) = Ends w (value none)
none_said said = said

abbrev pub set_by_name : PlainWorld → Setting → List PyObjectRef → Bindings → Said
set_by_name w k args kw = none_said (set_so w k args kw)

abbrev pub delete_by_name : PlainWorld → Setting → List PyObjectRef → Bindings → Said
delete_by_name w k args kw = none_said (delete_so w k args kw)

-- an attribute of a `super` by its name
abbrev pub super_attribute_by_name : PlainWorld → List PyObjectRef → Bindings → Said
super_attribute_by_name w args kw =
    with_kind w is_super args (λ s rest. with_one w rest kw (λ n. with_text w n (λ x. pass w (ToDescriptor (DoSuperGet s x)))))

-- a `super` is initialised with any arguments, but no keywords
abbrev pub super_init_by_name : PlainWorld → List PyObjectRef → Bindings → Said
super_init_by_name w args kw = with_kind w is_super args (λ s rest. without_keywords w kw (pass w (ToDescriptor (DoSuperInit s rest))))

-- the way of a class to make objects, for a class that must derive from it
abbrev pub made_by : PlainWorld → Option ℕ → Option ℕ → List PyObjectRef → Bindings → Said
made_by w (Some k) (Some c) args kw = cond (is_sub w.classes c k) (pass w (ToCall (DoNew k c args kw))) (Ends w (fault NewSubtype))
made_by w _ _ args kw = Ends w (fault NewSubtype)

-- `__new__` of a class, to which the native is bound
abbrev pub new_by_name : PlainWorld → List PyObjectRef → Bindings → Said
new_by_name w (k ∷ c ∷ args) kw = made_by w (class_number (datum_at w k)) (class_number (datum_at w c)) args kw
new_by_name w _ kw = Ends w (fault ArgCount)

-- the class of a class method, or of a static method
abbrev pub class_of_wrapper : Wrapper → BuiltIn
class_of_wrapper Class = ClassMethod
class_of_wrapper Static = StaticMethod

-- a new class method or static method wraps just one object, whose doc is read first
abbrev pub doc_asked : PlainWorld → ℕ → PyObjectRef → Said
doc_asked w c f = Asks w (ReadObjects (class_object w c ∷ f ∷ []) ∷ []) (ToAttribute (DoGetAttr f (known_text known.Doc)))

abbrev pub wrapper_new : PlainWorld → BuiltIn → List PyObjectRef → Bindings → Said
wrapper_new w b args kw = with_heir w b args (λ c. with_two w args kw (λ k f. doc_asked w c f))

abbrev pub wrapping : Wrapper → PyObjectRef → Datum
wrapping Class f = AClassMethod f
wrapping Static f = AStaticMethod f

-- then it is made, and gets this doc, if there is one
abbrev pub wrapper_made : PlainWorld → ℕ → Datum → Ended → Said
wrapper_made w c d (Err x) = Ends (with_node w c d) (value (next_node w c))
wrapper_made w c d (Ok (AsValue doc)) =
    Asks (with_node w c d) (Made (next_node w c) ∷ []) (ToAttribute (DoSetAttr (next_node w c) (known_text known.Doc) (Some doc)))
wrapper_made w c d (Ok a) = Ends w (Ok a)

abbrev pub wrapper_rest : PlainWorld → Wrapper → ℕ → PyObjectRef → Ended → Row
wrapper_rest w b c f r = build w (wrapper_made w c (wrapping b f) r) (λ new s. on_done w s (end w (value new)))

-- what it does
abbrev pub way_of : NativeEntry → Way
way_of (OfCallable callable.GetFunction) = Binds kind.Function
way_of (OfCallable callable.GetMethodDescriptor) = Binds kind.Native
way_of (OfDescriptor descriptor.GetSetGet) = Binds kind.GetSet
way_of (OfDescriptor descriptor.GetSetSet) = Sets setting.GetSet
way_of (OfDescriptor descriptor.GetSetDelete) = Deletes setting.GetSet
way_of (OfDescriptor descriptor.MemberGet) = Binds kind.Member
way_of (OfDescriptor descriptor.MemberSet) = Sets setting.Member
way_of (OfDescriptor descriptor.MemberDelete) = Deletes setting.Member
way_of (OfProperty property.Get) = Binds kind.Property
way_of (OfProperty property.Set) = Sets setting.Property
way_of (OfProperty property.Delete) = Deletes setting.Property
way_of (OfSuper super.Get) = Binds kind.Super
way_of (OfSuper super.Init) = Starts
way_of (OfSuper super.GetAttribute) = Looks
way_of (OfWrapper wrapper.ClassGet) = Binds kind.ClassMethod
way_of (OfWrapper wrapper.StaticGet) = Binds kind.StaticMethod
way_of (NewOf ClassMethod) = Wraps Class
way_of (NewOf StaticMethod) = Wraps Static
way_of NewWrapper = Makes
way_of (GetterOf ClassMethod detail.IsAbstract) = Marked Class
way_of (GetterOf ClassMethod d) = Reads Class d
way_of (GetterOf StaticMethod detail.IsAbstract) = Marked Static
way_of (GetterOf StaticMethod d) = Reads Static d
way_of (SetterOf b d) = Marks b
way_of n = Calls

abbrev pub by_way : PlainWorld → Way → NativeEntry → List PyObjectRef → Bindings → Said
by_way w (Binds kind.Function) n args kw = function_get_by_name w args kw
by_way w (Binds kind.Native) n args kw = native_get_by_name w args kw
by_way w (Binds kind.GetSet) n args kw = getset_get_by_name w args kw
by_way w (Binds kind.ClassMethod) n args kw = class_method_by_name w args kw
by_way w (Binds kind.StaticMethod) n args kw = static_method_by_name w args kw
by_way w (Binds kind.Member) n args kw = member_get_by_name w args kw
by_way w (Binds kind.Property) n args kw = property_get_by_name w args kw
by_way w (Binds kind.Super) n args kw = super_get_by_name w args kw
by_way w (Sets k) n args kw = set_by_name w k args kw
by_way w (Deletes k) n args kw = delete_by_name w k args kw
by_way w Looks n args kw = super_attribute_by_name w args kw
by_way w Starts n args kw = super_init_by_name w args kw
by_way w (Reads b d) n args kw = part_of_wrapped w b d args kw
by_way w (Marked b) n args kw = part_of_wrapped w b detail.IsAbstract args kw
by_way w (Marks b) n args kw = none_said (mark_by_name w b args kw)
by_way w (Wraps b) n args kw = wrapper_new w (class_of_wrapper b) args kw
by_way w Makes n args kw = new_by_name w args kw
by_way w Calls n args kw = call_by_name w n args kw

abbrev pub asking_by : PlainWorld → NativeEntry → List PyObjectRef → Bindings → Said
asking_by w n args kw = by_way w (way_of n) n args kw

-- a native that sets answers None, whatever was given by what it asked
abbrev pub none_end : PlainWorld → Ended → Row
none_end w r = on_done w r (end w (value none))

-- how a native goes on that read some objects before it asked, or that sets: the others end as what they asked
abbrev pub way_rest : PlainWorld → List PyObjectRef → Way → Ended → Row
way_rest w (k ∷ f ∷ []) (Binds kind.ClassMethod) r = start (class_method_by w k f r) (named_end w)
way_rest w (k ∷ f ∷ []) (Wraps b) r = wrapper_rest w b k.0 f r
way_rest w (m ∷ t ∷ o ∷ []) (Binds kind.Super) r = start (super_bound w t o r) (named_end w)
way_rest w rs (Marked b) r = or_not_abstract w r
way_rest w rs (Marks b) r = none_end w r
way_rest w rs (Sets k) r = none_end w r
way_rest w rs (Deletes k) r = none_end w r
way_rest w rs way r = named_end w r

abbrev pub asking_rest : PlainWorld → NativeEntry → List PyObjectRef → Ended → Row
asking_rest w n rs r = way_rest w rs (way_of n) r

abbrev pub asking_say : PlainWorld → NativeEntry → List PyObjectRef → Bindings → Row
asking_say w n args kw = start_with (asking_by w n args kw) (asking_rest w n)

-- the natives that ask, as a group of rows
unfoldable pub asking_job_say : PlainWorld → PlainTask → Row
asking_job_say w (ToNative n args kw) told = asking_say w n args kw told
asking_job_say w _ told = end w elsewhere told
