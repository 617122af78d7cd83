-- The natives of `object` and `type` that ask no task answer of their kinds.
use Rattle.vm_calls.proofs.Below.{Bool, List, None, Option, Some, length, map, nat_le, ℕ, [], PyObjectRef, ObjectNative, TypeNative, OfObject, SelfType, Kind, kind_of_native, repr_of, object_subclass_hook, object_native_say, object_text, or_nothing, type_native_say, keys_made, class_text, keyed, or_no_attributes, dict_made, AList, ADict, Bindings, PlainWorld, Told, is_text, ref, datum_at, class_at, class_number, the_list, the_dict, Entries, lin, subclasses, all_attributes}
use Rattle.std.proofs.Common.{◌∷◌}
use Rattle.py_node.specs.declared.entry.ObjectNative.TheVariants as object
use Rattle.py_node.specs.declared.entry.TypeNative.TheVariants as type
use Rattle.vm_calls.specs.AnswerKinds.Kinds as kinds
use Rattle.vm_calls.proofs.AnswerKinds.Base.{Says, ends}
use Rattle.vm_calls.proofs.AnswerKinds.Said.{either, takes-one, takes-two}
use Rattle.vm_calls.proofs.AnswerKinds.Gives.{object-given, sized-given, text-given}
use Rattle.vm_calls.proofs.AnswerKinds.Own.{there-or, takes-class, takes-lone-class, takes-class-and}

pub keys-given : {q : Told → Kind → Bool} (w : PlainWorld) (es : Entries) (bs : Bindings) → Says q kinds.Value (keys_made (keyed w es bs))
keys-given w es bs = sized-given (keyed w es bs).0 the_list (AList (map (λ e. e.0) (keyed w es bs).1))

pub dict-given : {q : Told → Kind → Bool} (w : PlainWorld) (es : Entries) (bs : Bindings) → Says q kinds.Value (dict_made (keyed w es bs))
dict-given w es bs = sized-given (keyed w es bs).0 the_dict (ADict (keyed w es bs).1)

repr-said : {q : Told → Kind → Bool} (w : PlainWorld) (o : PyObjectRef) (c : Option ℕ) → Says q kinds.Value (repr_of w o c)
repr-said w o None = ends tt
repr-said w o (Some c) = text-given w (object_text w c o.0)

hook-said : {q : Told → Kind → Bool} (w : PlainWorld) (args : List PyObjectRef) → Says q kinds.Value (object_subclass_hook w args)
hook-said w [] = ends tt
hook-said w (o ∷ args) = ends tt

pub object-native : {q : Told → Kind → Bool} (w : PlainWorld) (n : ObjectNative) (args : List PyObjectRef) (kw : Bindings) → Says q (kind_of_native (OfObject n)) (object_native_say w n args kw)
unfolding kind_of_native
object-native w object.Repr args kw = takes-one w args kw _ (λ o. repr-said w o (class_at w o))
object-native w object.Hash args kw = takes-one w args kw _ (λ o. ends tt)
object-native w object.Eq args kw = takes-two w args kw _ (λ a b. ends tt)
object-native w object.Lt args kw = takes-two w args kw _ (λ a b. ends tt)
object-native w object.Le args kw = takes-two w args kw _ (λ a b. ends tt)
object-native w object.Ge args kw = takes-two w args kw _ (λ a b. ends tt)
object-native w object.Gt args kw = takes-two w args kw _ (λ a b. ends tt)
object-native w object.SubclassHook args kw = hook-said w args
object-native w n args kw = ends tt

pub type-native : {q : Told → Kind → Bool} (w : PlainWorld) (n : TypeNative) (args : List PyObjectRef) (kw : Bindings) → Says q kinds.Value (type_native_say w n args kw)
type-native w type.Repr args kw = takes-lone-class w args kw _ (λ c. text-given w (class_text w c))
type-native w type.InstanceCheck args kw = takes-class-and w args kw _ (λ c o. ends tt)
type-native w type.SubclassCheck args kw = takes-class-and w args kw _ (λ c o. there-or w SelfType (class_number (datum_at w o)) _ (λ d. ends tt))
type-native w type.Subclasses args kw = takes-lone-class w args kw _ (λ c. sized-given w the_list (AList (map ref (subclasses w.classes c))))
type-native w type.Dir args kw = takes-lone-class w args kw _ (λ c. keys-given w [] (or_no_attributes (all_attributes is_text w.classes c)))
type-native w type.Mro args kw = takes-lone-class w args kw _ (λ c. sized-given w the_list (AList (map ref (or_nothing (lin w.classes c)))))
type-native w type.Prepare args kw = takes-class w args _ (λ c. either (nat_le (length args) 3) (object-given w the_dict (ADict [])) (ends tt))
type-native w type.SubclassHook args kw = takes-class w args _ (λ c. ends tt)
type-native w n args kw = ends tt
