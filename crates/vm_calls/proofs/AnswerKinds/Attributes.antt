-- The rows of attributes and special methods answer of their kinds.
use Rattle.vm_calls.proofs.Below.{Bool, Err, List, None, Option, Some, false, suc, true, zero, ℕ, PyObjectRef, Raised as Fault, Getattro, Setattro, DescrGet, SlotEntry, Native, Wrapper, OfObject, OfType, OfSuper, Found, kind_of_attribute, set_by_method, set_in_class, set_by, setter, own_taken, own_set, type_set_by, type_set_say, special_found, special_rest, special_say, bind_by, gives, is_data, of_value, find, generic_by, generic_say, maybe, value_for, generic_opt_by, generic_opt_say, of_class, type_get_by, type_get_say, get_in_class, get_by, or_get_attr, get_rest, get_attr_say, not_none, has_attr_say, as_attribute, load_found, load_fast, load_by, load, load_method_say, invoke_by, set_in_dict, generic_set_by, generic_set_say, attribute_say, Bindings, PlainWorld, AttributeJob, DoGetAttr, DoGeneric, DoGenericOpt, DoSetAttr, DoGenericSet, DoTypeGet, DoTypeSet, DoHasAttr, DoSpecial, DoBind, DoLoadMethod, DoInvoke, DoCall, ToAttribute, ToCall, Ended, is_text, datum_at, slot_at, class_object, class_number, special_at, is_fast, start, end, pass, fault, is_attribute_error, on_value, dict_of, has_place, own_value, known_text, Text, own_of, found, is_heap_at}
use Rattle.py_node.specs.declared.entry.ObjectNative.TheVariants as object
use Rattle.py_node.specs.declared.entry.SuperNative.TheVariants as super
use Rattle.py_node.specs.declared.entry.TypeNative.TheVariants as type
use Rattle.py_node.specs.declared.known.Known.TheVariants as known
use Rattle.proto_attr.specs.declared.find.Found.TheVariants as seen
use Rattle.class_model.specs.Class.{class_at as class_numbered}
use Rattle.vm_calls.specs.AnswerKinds.Kinds as kinds
use Rattle.vm_calls.proofs.AnswerKinds.Base.{Fits, Kinded, ended, Says, ends, asks, at_once, on_way, started, forked, asking, passed, one_of, on-value}
use Rattle.vm_calls.proofs.AnswerKinds.Said.{either}
use Rattle.proto_attr.specs.Say.{set_attr_say, bind_say, invoke_say}

-- setting

set-method : (w : PlainWorld) (o : PyObjectRef) (x : Text) (v : Option PyObjectRef) → Says (at_once kinds.DoneOrValue) kinds.DoneOrValue (set_by_method w o x v)
set-method w o x (Some v) = asks tt
set-method w o x None = asks tt

set-class : (w : PlainWorld) (c : Option ℕ) (o : PyObjectRef) (x : Text) (v : Option PyObjectRef) → Says (at_once kinds.DoneOrValue) kinds.DoneOrValue (set_in_class w c o x v)
set-class w None o x v = asks tt
set-class w (Some c) o x v = asks tt

set-said : (w : PlainWorld) (e : Option SlotEntry) (o : PyObjectRef) (x : Text) (v : Option PyObjectRef) → Says (at_once kinds.DoneOrValue) kinds.DoneOrValue (set_by w e o x v)
set-said w (Some (Wrapper s)) o x v = set-method w o x v
set-said w (Some (Native (OfType type.SetAttr))) o x v = set-class w (class_number (datum_at w o)) o x v
set-said w e o x v = asks tt

set-row : (o : PyObjectRef) (x : Text) (v : Option PyObjectRef) → Kinded kinds.DoneOrValue (λ w. set_attr_say w o x v)
set-row o x v = passed kinds.DoneOrValue (λ w. set_by w (slot_at w o Setattro) o x v) (λ w. set-said w (slot_at w o Setattro) o x v)

own-out : (w : PlainWorld) (c : ℕ) (x : Text) (o : Option PyObjectRef) → Says (at_once kinds.Done) kinds.Done (own_taken w c x o)
own-out w c x None = ends tt
own-out w c x (Some old) = ends tt

own-said : (w : PlainWorld) (heap : Bool) (c : ℕ) (x : Text) (v : Option PyObjectRef) → Says (at_once kinds.Done) kinds.Done (own_set w heap c x v)
own-said w false c x v = ends tt
own-said w true c x (Some v) = ends tt
own-said w true c x None = own-out w c x (own_of (λ y. is_text y x) (class_numbered w.classes c))

type-set-said : (w : PlainWorld) (a : Option PyObjectRef) (c : ℕ) (x : Text) (v : Option PyObjectRef) → Says (at_once kinds.Done) kinds.Done (type_set_by w a c x v)
type-set-said w (Some a) c x v = asks tt
type-set-said w None c x v = own-said w (is_heap_at (class_numbered w.classes c)) c x v

type-set-row : (c : ℕ) (x : Text) (v : Option PyObjectRef) → Kinded kinds.Done (λ w. type_set_say w c x v)
type-set-row c x v = passed kinds.Done (λ w. type_set_by w (setter w (special_at w (class_object w c) x)) c x v) (λ w. type-set-said w (setter w (special_at w (class_object w c) x)) c x v)

dict-said : (w : PlainWorld) (d : Option PyObjectRef) (x : Text) (v old : Option PyObjectRef) → Says (at_once kinds.Done) kinds.Done (set_in_dict w d x v old)
dict-said w None x v old = ends tt
dict-said w (Some d) x (Some v) old = either (has_place w d x) (ends tt) (ends tt)
dict-said w (Some d) x None (Some old) = ends tt
dict-said w (Some d) x None None = ends tt

generic-set-said : (w : PlainWorld) (a : Option PyObjectRef) (o : PyObjectRef) (x : Text) (v : Option PyObjectRef) → Says (at_once kinds.Done) kinds.Done (generic_set_by w a o x v)
generic-set-said w (Some a) o x v = asks tt
generic-set-said w None o x v = dict-said w (dict_of w o) x v (own_value w o x)

generic-set-row : (o : PyObjectRef) (x : Text) (v : Option PyObjectRef) → Kinded kinds.Done (λ w. generic_set_say w o x v)
generic-set-row o x v = passed kinds.Done (λ w. generic_set_by w (setter w (special_at w o x)) o x v) (λ w. generic-set-said w (setter w (special_at w o x)) o x v)

-- special methods

special-said : (w : PlainWorld) (m : Option PyObjectRef) (o : PyObjectRef) (args : List PyObjectRef) (kw : Bindings) → Says (on_way (λ n. kinds.Value)) kinds.Value (special_found w m o args kw)
special-said w None o args kw = ends tt
special-said w (Some m) o args kw = either (is_fast w m) (asks tt) (asks tt)

special-rest : (args : List PyObjectRef) (kw : Bindings) (way : ℕ) (r : Ended) → Fits kinds.Value r → Kinded kinds.Value (λ w. special_rest w args kw way r)
special-rest args kw zero r f = ended kinds.Value r f
special-rest args kw (suc n) r f = on-value kinds.Value (λ w b. start (pass w (ToCall (DoCall b args kw))) (end w)) r f (λ b. passed kinds.Value (λ w. pass w (ToCall (DoCall b args kw))) (λ w. asks tt))

special-row : (o : PyObjectRef) (x : Text) (args : List PyObjectRef) (kw : Bindings) → Kinded kinds.Value (λ w. special_say w o x args kw)
special-row o x args kw = forked (λ n. kinds.Value) kinds.Value (λ w. special_found w (special_at w o x) o args kw) (λ w. special_rest w args kw) (λ w. special-said w (special_at w o x) o args kw) (λ way r f. special-rest args kw way r f)

bind-said : (w : PlainWorld) (e : Option SlotEntry) (m : PyObjectRef) (o : Option PyObjectRef) (c : PyObjectRef) → Says (at_once kinds.Value) kinds.Value (bind_by w e m o c)
bind-said w None m o c = ends tt
bind-said w (Some e) m o c = asks tt

bind-row : (m : PyObjectRef) (o : Option PyObjectRef) (c : PyObjectRef) → Kinded kinds.Value (λ w. bind_say w m o c)
bind-row m o c = passed kinds.Value (λ w. bind_by w (slot_at w m DescrGet) m o c) (λ w. bind-said w (slot_at w m DescrGet) m o c)

-- reading

generic-said : (w : PlainWorld) (o : PyObjectRef) (f : Found) → Says (at_once kinds.Value) kinds.Value (generic_by w o f)
generic-said w o (seen.Descriptor a) = asks tt
generic-said w o (seen.Value v) = ends tt
generic-said w o seen.Missing = ends tt

generic-row : (o : PyObjectRef) (x : Text) → Kinded kinds.Value (λ w. generic_say w o x)
generic-row o x = passed kinds.Value (λ w. generic_by w o (find w (special_at w o x) (own_value w o x))) (λ w. generic-said w o (find w (special_at w o x) (own_value w o x)))

generic-opt-said : (w : PlainWorld) (o : PyObjectRef) (f : Found) → Says (at_once kinds.Value) kinds.Maybe (generic_opt_by w o f)
generic-opt-said w o (seen.Descriptor a) = asks tt
generic-opt-said w o (seen.Value v) = ends tt
generic-opt-said w o seen.Missing = ends tt

generic-opt-row : (o : PyObjectRef) (x : Text) (d : Option PyObjectRef) → Kinded kinds.Maybe (λ w. generic_opt_say w o x d)
generic-opt-row o x d =
    started kinds.Value kinds.Maybe (λ w. generic_opt_by w o (find w (special_at w o x) (value_for w o x d))) (λ w r. on_value w r (λ v. end w (maybe (Some v))))
    (λ w. generic-opt-said w o (find w (special_at w o x) (value_for w o x d)))
    (λ r f. on-value kinds.Maybe (λ w v. end w (maybe (Some v))) r f (λ v. ended kinds.Maybe (maybe (Some v)) tt))

class-said : (w : PlainWorld) (c : ℕ) (z : PyObjectRef) → Says (at_once kinds.Value) kinds.Value (of_class w c z)
class-said w c z = either (gives w z) (asks tt) (ends tt)

type-get-said : (w : PlainWorld) (c : ℕ) (a z : Option PyObjectRef) → Says (at_once kinds.Value) kinds.Value (type_get_by w c a z)
type-get-said w c None None = ends tt
type-get-said w c None (Some z) = class-said w c z
type-get-said w c (Some a) None = generic-said w (class_object w c) (of_value w a)
type-get-said w c (Some a) (Some z) = either (is_data w a) (asks tt) (class-said w c z)

type-get-row : (c : ℕ) (x : Text) → Kinded kinds.Value (λ w. type_get_say w c x)
type-get-row c x = passed kinds.Value (λ w. type_get_by w c (special_at w (class_object w c) x) (found is_text w.classes c x)) (λ w. type-get-said w c (special_at w (class_object w c) x) (found is_text w.classes c x))

get-class : (w : PlainWorld) (c : Option ℕ) (o : PyObjectRef) (x : Text) → Says (on_way (λ n. kinds.Value)) kinds.Value (get_in_class w c o x)
get-class w None o x = asks tt
get-class w (Some c) o x = asks tt

get-said : (w : PlainWorld) (e : Option SlotEntry) (o : PyObjectRef) (x : Text) → Says (on_way (λ n. kinds.Value)) kinds.Value (get_by w e o x)
get-said w (Some (Wrapper s)) o x = asks tt
get-said w (Some (Native (OfType type.GetAttribute))) o x = get-class w (class_number (datum_at w o)) o x
get-said w (Some (Native (OfSuper super.GetAttribute))) o x = asks tt
get-said w e o x = asks tt

or-get-said : (w : PlainWorld) (m : Option PyObjectRef) (o : PyObjectRef) (x : Text) (fault : Fault) → Says (at_once kinds.Value) kinds.Value (or_get_attr w m o x fault)
or-get-said w None o x fault = ends tt
or-get-said w (Some m) o x fault = asks tt

get-rest : (o : PyObjectRef) (x : Text) (way : ℕ) (r : Ended) → Fits kinds.Value r → Kinded kinds.Value (λ w. get_rest w o x way r)
get-rest o x (suc n) (Err fault) f =
    one_of kinds.Value (is_attribute_error fault.kind) (λ w. start (or_get_attr w (special_at w o (known_text known.GetAttr)) o x fault) (end w)) (λ w. end w (Err fault))
    (passed kinds.Value (λ w. or_get_attr w (special_at w o (known_text known.GetAttr)) o x fault) (λ w. or-get-said w (special_at w o (known_text known.GetAttr)) o x fault))
    (ended kinds.Value (Err fault) tt)
get-rest o x way r f = ended kinds.Value r f

get-row : (o : PyObjectRef) (x : Text) → Kinded kinds.Value (λ w. get_attr_say w o x)
get-row o x = forked (λ n. kinds.Value) kinds.Value (λ w. get_by w (slot_at w o Getattro) o x) (λ w. get_rest w o x) (λ w. get-said w (slot_at w o Getattro) o x) (λ way r f. get-rest o x way r f)

has-row : (o : PyObjectRef) (x : Text) → Kinded kinds.Truth (λ w. has_attr_say w o x)
has-row o x = asking kinds.Value kinds.Truth (ToAttribute (DoGetAttr o x)) (λ w r. on_value w r (λ v. end w (not_none v))) tt (λ r f. on-value kinds.Truth (λ w v. end w (not_none v)) r f (λ v. ended kinds.Truth (not_none v) tt))

-- methods

load-found : (w : PlainWorld) (o : PyObjectRef) (f : Found) → Says (at_once kinds.Value) kinds.Method (load_found w o f)
load-found w o (seen.Descriptor a) = asks tt
load-found w o (seen.Value v) = ends tt
load-found w o seen.Missing = ends tt

load-own : (w : PlainWorld) (o a : PyObjectRef) (own : Option PyObjectRef) → Says (at_once kinds.Value) kinds.Method (load_fast w o a own)
load-own w o a None = ends tt
load-own w o a (Some v) = ends tt

load-by : (w : PlainWorld) (o : PyObjectRef) (a own : Option PyObjectRef) → Says (at_once kinds.Value) kinds.Method (load_by w o a own)
load-by w o None own = load-found w o (find w None own)
load-by w o (Some a) own = either (is_fast w a) (load-own w o a own) (load-found w o (find w (Some a) own))

load-said : (w : PlainWorld) (e : Option SlotEntry) (o : PyObjectRef) (x : Text) → Says (at_once kinds.Value) kinds.Method (load w e o x)
load-said w (Some (Native (OfObject object.GetAttribute))) o x = load-by w o (special_at w o x) (own_value w o x)
load-said w e o x = asks tt

load-row : (o : PyObjectRef) (x : Text) → Kinded kinds.Method (λ w. load_method_say w o x)
load-row o x =
    started kinds.Value kinds.Method (λ w. load w (slot_at w o Getattro) o x) (λ w r. on_value w r (λ v. end w (as_attribute v)))
    (λ w. load-said w (slot_at w o Getattro) o x)
    (λ r f. on-value kinds.Method (λ w v. end w (as_attribute v)) r f (λ v. ended kinds.Method (as_attribute v) tt))

invoke-said : (w : PlainWorld) (o : Option PyObjectRef) (m : PyObjectRef) (args : List PyObjectRef) (kw : Bindings) → Says (at_once kinds.Value) kinds.Value (invoke_by w o m args kw)
invoke-said w None m args kw = asks tt
invoke-said w (Some o) m args kw = asks tt

invoke-row : (o : Option PyObjectRef) (m : PyObjectRef) (args : List PyObjectRef) (kw : Bindings) → Kinded kinds.Value (λ w. invoke_say w o m args kw)
invoke-row o m args kw = passed kinds.Value (λ w. invoke_by w o m args kw) (λ w. invoke-said w o m args kw)

pub attributes : (job : AttributeJob) → Kinded (kind_of_attribute job) (λ w. attribute_say w job)
unfolding attribute_say
attributes (DoSetAttr o x v) = set-row o x v
attributes (DoTypeSet c x v) = type-set-row c x v
attributes (DoSpecial o x args kw) = special-row o x args kw
attributes (DoBind m o c) = bind-row m o c
attributes (DoGetAttr o x) = get-row o x
attributes (DoGeneric o x) = generic-row o x
attributes (DoGenericOpt o x d) = generic-opt-row o x d
attributes (DoTypeGet c x) = type-get-row c x
attributes (DoLoadMethod o x) = load-row o x
attributes (DoInvoke o m args kw) = invoke-row o m args kw
attributes (DoGenericSet o x v) = generic-set-row o x v
attributes (DoHasAttr o x) = has-row o x
