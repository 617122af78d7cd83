-- The natives of descriptors, getters and setters that end at once answer with objects.
use Rattle.vm_calls.proofs.Below.{Bool, List, None, Ok, Option, Some, length, map, nat_le, pos, ℕ, [], PyObjectRef, Cause, NameType, NoAttribute, BasesShape, NotAClass, NoDict, CannotDelete, PyProperty, BuiltIn, Detail, Property, CallableNative, DescriptorNative, PropertyNative, WrapperNative, SuperNative, bases_of, lin, refused_class, refused_rebase, signature_of, in_length, method_in, member_in, super_in, static_in, property_in, property_part as property_with_part, method_text, member_text, callable_say, descriptor_native_say, super_text, super_say, changed, wrapper_say, placed, with_parts, without_none, may_name, with_all_parts, property_made, bare, part_set, property_say, given, builtins, or_nothing, Kind, NamePart, DottedPart, WholePart, ClassPart, ObjectPart, SignaturePart, LaterPart, part_of, dotted_text, whole_text, signature_given, part_given, getter_of_say, given_or, or_zero, class_read, dict_or_fault, own_dict, getter_say, unless_refused, renamed, set_annotations, classes_in, rebased, set_bases, set_class_dict, with_heap_value, set_name, set_qualname, class_written, reclassed, set_class, is_dict, redicted, set_dict, setter_say, with_doc, set_of_property, setter_of_say, maker_say, class_dict, given_annotations, annotations, has_null, Datum, ATuple, AList, ADict, AStaticMethod, AProperty, ASuper, Bindings, PlainWorld, Told, Said, ref, datum_at, class_at, class_number, the_object, the_tuple, dict_of, name_at, known_text, Text, is_heap_at, attrs_of, flags_at}
use Rattle.std.proofs.Common.{option_and_then, option_map}
use Rattle.py_node.specs.declared.built_in.BuiltIn.TheVariants as built_in
use Rattle.py_node.specs.declared.entry.Detail.TheVariants as detail
use Rattle.py_node.specs.declared.entry.Property.TheVariants as property
use Rattle.py_node.specs.declared.entry.CallableNative.TheVariants as callable
use Rattle.py_node.specs.declared.entry.DescriptorNative.TheVariants as descriptor
use Rattle.py_node.specs.declared.entry.PropertyNative.TheVariants as parts
use Rattle.py_node.specs.declared.entry.WrapperNative.TheVariants as wrapper
use Rattle.py_node.specs.declared.entry.SuperNative.TheVariants as super
use Rattle.class_model.specs.Class.{class_at as class_numbered}
use Rattle.row_kit.specs.ClassNames.{text_of as name_of}
use Rattle.py_node.specs.declared.known.Known.TheVariants as known
use Rattle.vm_calls.specs.AnswerKinds.Kinds as kinds
use Rattle.vm_calls.proofs.AnswerKinds.Base.{Says, ends}
use Rattle.vm_calls.proofs.AnswerKinds.Said.{either, takes-one, takes-two, takes-three}
use Rattle.vm_calls.proofs.AnswerKinds.Gives.{object-given, sized-given, int-given, text-given}
use Rattle.vm_calls.proofs.AnswerKinds.Own.{there-or, takes-own, takes-lone-class, takes-one-or-two, takes-class-and-given, takes-heir}
use Rattle.vm_calls.proofs.AnswerKinds.Objects.{dict-given}
use Rattle.proto_attr.specs.NativeObjects.Details.{Part}
use Rattle.proto_attr.specs.NativeObjects.Getters.{tuple_made}

pub callable-native : {q : Told → Kind → Bool} (w : PlainWorld) (n : CallableNative) (args : List PyObjectRef) (kw : Bindings) → Says q kinds.Value (callable_say w n args kw)
callable-native w callable.ReprMethodDescriptor args kw = takes-own method_in w args _ (λ o m. takes-one w args kw _ (λ a. text-given w (in_length (method_text w m))))
callable-native w n args kw = ends tt

pub descriptor-native : {q : Told → Kind → Bool} (w : PlainWorld) (n : DescriptorNative) (args : List PyObjectRef) (kw : Bindings) → Says q kinds.Value (descriptor_native_say w n args kw)
descriptor-native w descriptor.MemberRepr args kw = takes-own member_in w args _ (λ o m. takes-one w args kw _ (λ a. text-given w (in_length (member_text w m))))
descriptor-native w n args kw = ends tt

pub super-native : {q : Told → Kind → Bool} (w : PlainWorld) (n : SuperNative) (args : List PyObjectRef) (kw : Bindings) → Says q kinds.Value (super_say w n args kw)
super-native w super.Repr args kw = takes-own super_in w args _ (λ o s. takes-one w args kw _ (λ a. text-given w (in_length (super_text w s))))
super-native w n args kw = ends tt

changed-said : {q : Told → Kind → Bool} (w : PlainWorld) (o : PyObjectRef) (d : Datum) → Says q kinds.Value (changed w o d)
changed-said w o d = ends tt

pub wrapper-native : {q : Told → Kind → Bool} (w : PlainWorld) (n : WrapperNative) (args : List PyObjectRef) (kw : Bindings) → Says q kinds.Value (wrapper_say w n args kw)
wrapper-native w wrapper.StaticInit args kw = takes-own static_in w args _ (λ o f. takes-two w args kw _ (λ a m. changed-said w o (AStaticMethod m)))
wrapper-native w n args kw = ends tt

parts-said : {q : Told → Kind → Bool} (w : PlainWorld) (o : PyObjectRef) (p : Option PyProperty) → Says q kinds.Value (with_all_parts w o p)
parts-said w o None = ends tt
parts-said w o (Some p) = either (may_name w (without_none p).name) (changed-said w o (AProperty (without_none p))) (ends tt)

property-given : {q : Told → Kind → Bool} (w : PlainWorld) (c : Option ℕ) (p : PyProperty) → Says q kinds.Value (property_made w c p)
property-given w None p = ends tt
property-given w (Some c) p = object-given w c (AProperty p)

part-given : {q : Told → Kind → Bool} (w : PlainWorld) (n : PropertyNative) (args : List PyObjectRef) (kw : Bindings) → Says q kinds.Value (property_with_part w n args kw)
part-given w n args kw = takes-own property_in w args _ (λ o p. takes-two w args kw _ (λ a r. property-given w (class_at w o) (part_set n (bare p) r)))

pub property-native : {q : Told → Kind → Bool} (w : PlainWorld) (n : PropertyNative) (args : List PyObjectRef) (kw : Bindings) → Says q kinds.Value (property_say w n args kw)
property-native w parts.Init args kw = takes-own property_in w args _ (λ o p. either (nat_le (length args) 6) (parts-said w o (with_parts (Some (placed args)) kw)) (ends tt))
property-native w parts.SetName args kw = takes-own property_in w args _ (λ o p. takes-three w args kw _ (λ a c n. changed-said w o (AProperty (record p { name = Some n }))))
property-native w parts.Getter args kw = part-given w parts.Getter args kw
property-native w parts.Setter args kw = part-given w parts.Setter args kw
property-native w parts.Deleter args kw = part-given w parts.Deleter args kw
property-native w n args kw = ends tt

pub maker-native : {q : Told → Kind → Bool} (w : PlainWorld) (b : BuiltIn) (args : List PyObjectRef) → Says q kinds.Value (maker_say w b args)
maker-native w built_in.List args = takes-heir w built_in.List args _ (λ c. object-given w c (AList []))
maker-native w built_in.Dict args = takes-heir w built_in.Dict args _ (λ c. object-given w c (ADict []))
maker-native w built_in.Property args = takes-heir w built_in.Property args _ (λ c. object-given w c (AProperty (record { fget = None; fset = None; fdel = None; doc = None; name = None })))
maker-native w built_in.Super args = takes-heir w built_in.Super args _ (λ c. object-given w c (ASuper the_object None))
maker-native w built_in.Int args = ends tt
maker-native w built_in.Bool args = ends tt
maker-native w built_in.Str args = ends tt
maker-native w built_in.Tuple args = ends tt
maker-native w built_in.ClassMethod args = ends tt
maker-native w built_in.StaticMethod args = ends tt
maker-native w b args = takes-heir w b args _ (λ c. ends tt)

-- getters

given-text : {q : Told → Kind → Bool} (w : PlainWorld) (v : Option PyObjectRef) (x : Text) → Says q kinds.Value (given_or w v x)
given-text w (Some v) x = ends tt
given-text w None x = text-given w (in_length x)

classes-given : {q : Told → Kind → Bool} (w : PlainWorld) (cs : Option (List ℕ)) → Says q kinds.Value (tuple_made w cs)
classes-given w cs = sized-given w the_tuple (ATuple (map ref (or_nothing cs)))

annotations-given : {q : Told → Kind → Bool} (w : PlainWorld) (c : ℕ) (v : Option PyObjectRef) → Says q kinds.Value (given_annotations w c v)
annotations-given w c (Some v) = ends tt
annotations-given w c None = ends tt

annotations-said : {q : Told → Kind → Bool} (w : PlainWorld) (c : ℕ) → Says q kinds.Value (annotations w c)
annotations-said w c = either (is_heap_at (class_numbered w.classes c)) (annotations-given w c _) (ends tt)

class-dict-given : {q : Told → Kind → Bool} (w : PlainWorld) (c : ℕ) → Says q kinds.Value (class_dict w c)
class-dict-given w c = dict-given w [] (attrs_of (class_numbered w.classes c))

class-read : {q : Told → Kind → Bool} (w : PlainWorld) (p : Property) (c : ℕ) → Says q kinds.Value (class_read w p c)
class-read w property.Class c = ends tt
class-read w property.Name c = text-given w (in_length (name_at w.classes c))
class-read w property.Qualname c = given-text w (given w c (known_text known.Qualname)) (name_at w.classes c)
class-read w property.Module c = given-text w (given w c (known_text known.Module)) builtins
class-read w property.Bases c = classes-given w (bases_of w.classes c)
class-read w property.Dict c = class-dict-given w c
class-read w property.Annotations c = annotations-said w c
class-read w property.Base c = ends tt
class-read w property.Mro c = classes-given w (lin w.classes c)
class-read w property.Flags c = int-given w (Ok (pos (or_zero (flags_at w.classes c))))
class-read w property.TextSignature c = ends tt
class-read w property.InstanceDict c = class-dict-given w c

dict-or : {q : Told → Kind → Bool} (w : PlainWorld) (d : Option PyObjectRef) → Says q kinds.Value (dict_or_fault w d)
dict-or w None = ends tt
dict-or w (Some d) = ends tt

own-dict-said : {q : Told → Kind → Bool} (w : PlainWorld) (o : PyObjectRef) (c : Option ℕ) → Says q kinds.Value (own_dict w o c)
own-dict-said w o (Some c) = class-dict-given w c
own-dict-said w o None = dict-or w (dict_of w o)

pub getter-native : {q : Told → Kind → Bool} (w : PlainWorld) (p : Property) (args : List PyObjectRef) (kw : Bindings) → Says q kinds.Value (getter_say w p args kw)
getter-native w property.Class args kw = takes-one w args kw _ (λ o. ends tt)
getter-native w property.InstanceDict args kw = takes-one w args kw _ (λ o. own-dict-said w o (class_number (datum_at w o)))
getter-native w p args kw = takes-lone-class w args kw (class_read w p) (λ c. class-read w p c)

signature-said : {q : Told → Kind → Bool} (w : PlainWorld) (x : Option Text) → Says q kinds.Value (signature_given w x)
signature-said w None = ends tt
signature-said w (Some x) = text-given w (in_length x)

detail-given : {q : Told → Kind → Bool} (w : PlainWorld) (p : Part) → Says q kinds.Value (part_given w p)
detail-given w (NamePart x) = text-given w (in_length x)
detail-given w (DottedPart c x) = text-given w (in_length (dotted_text w c x))
detail-given w (WholePart c x) = text-given w (in_length (whole_text w c x))
detail-given w (ClassPart c) = ends tt
detail-given w (ObjectPart o) = ends tt
detail-given w (SignaturePart x doc) = signature-said w (signature_of x doc)
detail-given w LaterPart = ends tt

pub getter-of-native : {q : Told → Kind → Bool} (w : PlainWorld) (b : BuiltIn) (d : Detail) (args : List PyObjectRef) (kw : Bindings) → Says q kinds.Value (getter_of_say w b d args kw)
getter-of-native w b d args kw = takes-own (part_of b d) w args _ (λ o p. takes-one w args kw _ (λ a. detail-given w p))

-- setters

unless-refused : {q : Told → Kind → Bool} (w : PlainWorld) (cause : Option Cause) (go : Said) → Says q kinds.Value go → Says q kinds.Value (unless_refused w cause go)
unless-refused w None go p = p
unless-refused w (Some cause) go p = ends tt

annotations-set : {q : Told → Kind → Bool} (w : PlainWorld) (c : ℕ) (x : Text) (v : Option PyObjectRef) → Says q kinds.Value (set_annotations w c x v)
annotations-set w c x (Some v) = ends tt
annotations-set w c x None = there-or w NoAttribute _ _ (λ old. ends tt)

heap-value : {q : Told → Kind → Bool} (w : PlainWorld) (c : ℕ) (v : Option PyObjectRef) (go : PyObjectRef → Said) → ((r : PyObjectRef) → Says q kinds.Value (go r)) → Says q kinds.Value (with_heap_value w c v go)
heap-value w c v go p = either (is_heap_at (class_numbered w.classes c)) (there-or w CannotDelete v go p) (ends tt)

class-dict-set : {q : Told → Kind → Bool} (w : PlainWorld) (v : Option PyObjectRef) → Says q kinds.Value (set_class_dict w v)
class-dict-set w v = there-or w CannotDelete v _ (λ d. ends tt)

class-written : {q : Told → Kind → Bool} (w : PlainWorld) (p : Property) (c : ℕ) (v : Option PyObjectRef) → Says q kinds.Value (class_written w p c v)
class-written w property.Name c v = heap-value w c v (set_name w c) (λ r. there-or w NameType (name_of (datum_at w r)) (renamed w c) (λ x. either (has_null x) (ends tt) (ends tt)))
class-written w property.Qualname c v = heap-value w c v (set_qualname w c) (λ r. there-or w NameType (name_of (datum_at w r)) _ (λ x. ends tt))
class-written w property.Module c v = heap-value w c v _ (λ r. ends tt)
class-written w property.Bases c v = heap-value w c v (set_bases w c) (λ r. there-or w BasesShape (classes_in w (datum_at w r)) (rebased w c) (λ bs. unless-refused w (option_map (λ r. r.0) (refused_rebase w.classes c bs)) _ (ends tt)))
class-written w property.Dict c v = class-dict-set w v
class-written w property.Annotations c v = either (is_heap_at (class_numbered w.classes c)) (annotations-set w c (known_text known.Annotations) v) (ends tt)
class-written w p c v = ends tt

class-of-set : {q : Told → Kind → Bool} (w : PlainWorld) (o : PyObjectRef) (v : Option PyObjectRef) → Says q kinds.Value (set_class w o v)
class-of-set w o v = there-or w CannotDelete v _ (λ r. there-or w NotAClass (class_number (datum_at w r)) (reclassed w o) (λ d. unless-refused w (option_and_then (λ c. refused_class w.classes c d) (class_at w o)) _ (ends tt)))

dict-of-set : {q : Told → Kind → Bool} (w : PlainWorld) (o : PyObjectRef) (c : Option ℕ) (v : Option PyObjectRef) → Says q kinds.Value (set_dict w o c v)
dict-of-set w o (Some c) v = class-dict-set w v
dict-of-set w o None v = there-or w NoDict (dict_of w o) _ (λ old. there-or w CannotDelete v (redicted w o) (λ d. either (is_dict (datum_at w d)) (ends tt) (ends tt)))

pub setter-native : {q : Told → Kind → Bool} (w : PlainWorld) (p : Property) (args : List PyObjectRef) (kw : Bindings) → Says q kinds.Value (setter_say w p args kw)
setter-native w property.Class args kw = takes-one-or-two w args kw (set_class w) (λ o v. class-of-set w o v)
setter-native w property.InstanceDict args kw = takes-one-or-two w args kw _ (λ o v. dict-of-set w o (class_number (datum_at w o)) v)
setter-native w p args kw = takes-class-and-given w args kw (class_written w p) (λ c v. class-written w p c v)

doc-set : {q : Told → Kind → Bool} (w : PlainWorld) (d : Detail) (args : List PyObjectRef) (kw : Bindings) → Says q kinds.Value (set_of_property w d args kw)
doc-set w detail.Doc args kw = takes-own property_in w args _ (λ o p. takes-one-or-two w args kw _ (λ a v. there-or w CannotDelete v (with_doc w o p) (λ r. ends tt)))
doc-set w d args kw = ends tt

pub setter-of-native : {q : Told → Kind → Bool} (w : PlainWorld) (b : BuiltIn) (d : Detail) (args : List PyObjectRef) (kw : Bindings) → Says q kinds.Value (setter_of_say w b d args kw)
setter-of-native w built_in.Property d args kw = doc-set w d args kw
setter-of-native w b d args kw = ends tt
