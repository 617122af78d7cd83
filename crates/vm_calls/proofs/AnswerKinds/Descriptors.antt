-- The rows of descriptors answer of their kinds.
use Rattle.vm_calls.proofs.Below.{Bool, Err, List, None, Ok, Option, Some, cond, eqb, is_some, not, set, ℕ, [], PyObjectRef, Cause, DescrGet, DescrSet, SlotEntry, Native, Wrapper, NativeEntry, OfCallable, OfDescriptor, OfProperty, OfWrapper, OfSuper, PyProperty, MemberKind, MemberGetter, MemberSetter, NoDeleter, NoGetter, NoSetter, SuperCheckFailed, Kind, kind_of_native, kind_of_descriptor, kind_of, is_object_none, class_of_option, function_get, bound_native, object_get, class_get, static_get, native_get, getset_get, class_for, class_method_get, class_method_by, static_method_get, descr_get_by, start_with, descr_get_rest, descr_get_say, getset_set, descr_set_by, descr_set_say, super_get_say, super_init_rest, super_init_say, super_check_say, descriptor_say, or_empty, read_member, member_get, takes, set_member, member_set, call_part, property_get, set_part, property_set, told_start, starting, check_class, super_check, super_get, super_bound, found_after, looked_up, super_attribute, set_super, super_started, Parts, super_parts, super_init, Datum, AMethodDescriptor, AGetSet, AClassMethod, AStaticMethod, AMember, AProperty, ASuper, PlainWorld, DescriptorJob, DoDescrGet, DoDescrSet, DoSuperGet, DoSuperInit, DoSuperCheck, AsValue, AsStart, Ended, ReadObjects, Told, Said, Asks, Ends, is_text, datum_at, class_at, slot_at, bound, type_object, class_number, derives, is_instance, for_objects, for_classes, Row, start, end, done, none, pass, fault, on_value, on_done, native_task, value_at_place, known_text, Text, is_sub}
use Rattle.std.proofs.Common.{◌&&◌, ◌∷◌}
use Rattle.py_node.specs.declared.entry.CallableNative.TheVariants as callable
use Rattle.py_node.specs.declared.entry.DescriptorNative.TheVariants as descriptor
use Rattle.py_node.specs.declared.entry.PropertyNative.TheVariants as property
use Rattle.py_node.specs.declared.entry.SuperNative.TheVariants as super
use Rattle.py_node.specs.declared.entry.WrapperNative.TheVariants as wrapper
use Rattle.py_node.specs.declared.payload.MemberKind.TheVariants as member
use Rattle.py_node.specs.declared.payload.MemberGetter.TheVariants as getter
use Rattle.py_node.specs.declared.payload.MemberSetter.TheVariants as setter
use Rattle.py_node.specs.declared.known.Known.TheVariants as known
use Rattle.vm_calls.specs.AnswerKinds.Kinds as kinds
use Rattle.vm_calls.proofs.AnswerKinds.Base.{So, Fits, within, wider, GoesOn, Kinded, ended, Says, ends, asks, at_once, having_read, stepped, started, passed, on-value, on-done, ended-by, whatever, started_so, either-fits, native-asked, native-given, is_given, IsGiven, given, for_given, named-row, named-end}
use Rattle.vm_calls.proofs.AnswerKinds.Said.{either}
use Rattle.proto_attr.specs.ProtoDescr.Say.{set_by_method}
use Rattle.proto_attr.specs.ProtoDescr.Supers.{is_none, init_by}
use Rattle.class_model.specs.Layout.{place_at}

-- a row that goes on with the answer, and with the objects that it read before it asked, if any
pub read_first : (ok : List PyObjectRef → Kind → Bool) (P : List PyObjectRef → Ended → Type 0) (k : Kind) (said : PlainWorld → Said) (go : PlainWorld → List PyObjectRef → Ended → Row) → ((rs : List PyObjectRef) (i : Kind) (r : Ended) → So (ok rs i) → Fits i r → P rs r) → ((w : PlainWorld) → Says (having_read ok) k (said w)) → ((rs : List PyObjectRef) (r : Ended) → P rs r → Kinded k (λ w. go w rs r)) → Kinded k (λ w. start_with (said w) (go w))
read_first ok P k said go sound s p = stepped k (λ w. start_with (said w) (go w)) (λ w. next (said w) (s w))
  where
    next : (x : Said) → Says (having_read ok) k x → GoesOn (Kinded k) k (λ w. start_with (said w) (go w)) x
    next (Ends u r) (ends h) = h
    next (Asks u [] task) (asks h) = λ r f. p [] r (sound [] (kind_of task) r h f)
    next (Asks u (ReadObjects rs ∷ []) task) (asks h) = λ r f. p rs r (sound rs (kind_of task) r h f)
    next (Asks u learnt task) (asks h) = absurd h

-- what is bound

pub function-said : {q : Told → Kind → Bool} (w : PlainWorld) (m : PyObjectRef) (o : Option PyObjectRef) (c : Option ℕ) → Says q kinds.Value (function_get w m o c)
function-said w m None c = ends tt
function-said w m (Some o) c = either (is_object_none o c) (ends tt) (ends tt)

bound-said : {q : Told → Kind → Bool} (w : PlainWorld) (k : ℕ) (x : Text) (n : NativeEntry) (doc : Option Text) (o : PyObjectRef) → Says q kinds.Value (bound_native w k x n doc o)
bound-said w k x n doc o = ends tt

object-said : {q : Told → Kind → Bool} (w : PlainWorld) (m : PyObjectRef) (bound : PyObjectRef → Said) (o : Option PyObjectRef) (c : Option ℕ) → ((o : PyObjectRef) → Says q kinds.Value (bound o)) → Says q kinds.Value (object_get w m bound o c)
object-said w m bound None c p = ends tt
object-said w m bound (Some o) None p = ends tt
object-said w m bound (Some o) (Some c) p = p o

class-said : {q : Told → Kind → Bool} (w : PlainWorld) (bound : PyObjectRef → Said) (o c : Option PyObjectRef) → ((o : PyObjectRef) → Says q kinds.Value (bound o)) → Says q kinds.Value (class_get w bound o c)
class-said w bound None None p = ends tt
class-said w bound None (Some c) p = p c
class-said w bound (Some o) c p = p (type_object w o)

static-said : {q : Told → Kind → Bool} (w : PlainWorld) (m : PyObjectRef) (o : Option PyObjectRef) → Says q kinds.Value (static_get w m o)
static-said w m None = ends tt
static-said w m (Some o) = ends tt

pub native-said : {q : Told → Kind → Bool} (w : PlainWorld) (d : Option Datum) (m : PyObjectRef) (o c : Option PyObjectRef) → Says q kinds.Value (native_get w d m o c)
native-said w (Some (AMethodDescriptor k x n flags doc)) m o c =
    either (for_objects flags) (object-said w m (bound_native w k x n doc) o (class_of_option w c) (λ o. bound-said w k x n doc o))
    (either (for_classes flags) (class-said w (bound_native w k x n doc) o c (λ o. bound-said w k x n doc o)) (static-said w m o))
native-said w d m o c = ends tt

-- what natives read

-- what gives an object or a number may be asked where nothing is learnt
abbrev pub Takes : (Told → Kind → Bool) → Type 0
Takes q = (i : Kind) → So (is_given i) → So (q [] i)

native-read : {q : Told → Kind → Bool} → Takes q → (w : PlainWorld) (n : NativeEntry) (o : PyObjectRef) → Says q kinds.Value (pass w (native_task n (o ∷ []) []))
native-read t w n o = native-asked w [] n (o ∷ []) [] (t (kind_of_native n) (native-given n))

pub getset-said : {q : Told → Kind → Bool} → Takes q → (w : PlainWorld) (d : Option Datum) (m : PyObjectRef) (o : Option PyObjectRef) → Says q kinds.Value (getset_get w d m o)
getset-said t w (Some (AGetSet k x None set)) m (Some o) = ends tt
getset-said t w (Some (AGetSet k x (Some n) set)) m (Some o) = native-read t w n o
getset-said t w d m o = ends tt

empty-fits : (k : MemberKind) (v : Option PyObjectRef) → Fits kinds.Value (or_empty k v)
empty-fits member.Bool None = tt
empty-fits member.ObjectEx None = tt
empty-fits k (Some v) = tt

member-read : {q : Told → Kind → Bool} → Takes q → (w : PlainWorld) (c : ℕ) (k : MemberKind) (get : MemberGetter) (o : PyObjectRef) → Says q kinds.Value (read_member w c k get o)
member-read t w c k (getter.Getter n) o = native-read t w n o
member-read t w c k (getter.Offset i) o = ends (empty-fits k (value_at_place w o (place_at w.classes c i)))

pub member-said : {q : Told → Kind → Bool} → Takes q → (w : PlainWorld) (d : Option Datum) (m : PyObjectRef) (o : Option PyObjectRef) → Says q kinds.Value (member_get w d m o)
member-said t w (Some (AMember c x k get set qualname doc)) m (Some o) = either (is_instance w o c) (member-read t w c k get o) (ends tt)
member-said t w d m o = ends tt

part-said : {q : Told → Kind → Bool} → Takes q → (w : PlainWorld) (f : Option PyObjectRef) (cause : Cause) (args : List PyObjectRef) → Says q kinds.Value (call_part w f cause args)
part-said t w None cause args = ends tt
part-said t w (Some f) cause args = asks (t kinds.Value tt)

pub property-said : {q : Told → Kind → Bool} → Takes q → (w : PlainWorld) (d : Option Datum) (m : PyObjectRef) (o : Option PyObjectRef) → Says q kinds.Value (property_get w d m o)
property-said t w (Some (AProperty p)) m (Some o) = either (eqb o.0 none.0) (ends tt) (part-said t w p.fget NoGetter (o ∷ []))
property-said t w d m o = ends tt

pub static-method-said : {q : Told → Kind → Bool} (w : PlainWorld) (d : Option Datum) (m : PyObjectRef) → Says q kinds.Value (static_method_get w d m)
static-method-said w (Some (AStaticMethod f)) m = ends tt
static-method-said w d m = ends tt

-- a class method reads its class and what it wraps, and a `super` itself, its class and the object
abbrev pub reading : List PyObjectRef → Kind → Bool
reading (m ∷ t ∷ o ∷ []) i = within i kinds.Start
reading (k ∷ f ∷ []) i = within i kinds.Value
reading rs i = is_given i

abbrev IsRead : List PyObjectRef → Ended → Type 0
IsRead (m ∷ t ∷ o ∷ []) r = Fits kinds.Start r
IsRead (k ∷ f ∷ []) r = Fits kinds.Value r
IsRead rs r = IsGiven r

read-sound : (rs : List PyObjectRef) (i : Kind) (r : Ended) → So (reading rs i) → Fits i r → IsRead rs r
read-sound (m ∷ t ∷ o ∷ []) i r h f = wider i kinds.Start r h f
read-sound (k ∷ x ∷ []) i r h f = wider i kinds.Value r h f
read-sound rs i r h f = given i r h f

abbrev Reading : Told → Kind → Bool
Reading = having_read reading

read-taken : Takes Reading
read-taken i h = h

class-method-said : (w : PlainWorld) (d : Option Datum) (m k : PyObjectRef) → Says Reading kinds.Value (class_method_get w d m k)
class-method-said w (Some (AClassMethod f)) m k = asks tt
class-method-said w d m k = ends tt

super-said : (w : PlainWorld) (d : Option Datum) (m : PyObjectRef) (o : Option PyObjectRef) → Says Reading kinds.Value (super_get w d m o)
super-said w (Some (ASuper t None)) m (Some o) = either (is_none o) (ends tt) (asks tt)
super-said w d m o = ends tt

descr-get-said : (w : PlainWorld) (e : Option SlotEntry) (m : PyObjectRef) (o c : Option PyObjectRef) → Says Reading kinds.Value (descr_get_by w e m o c)
descr-get-said w (Some (Wrapper s)) m o c = asks tt
descr-get-said w (Some (Native (OfCallable callable.GetFunction))) m o c = function-said w m o (class_of_option w c)
descr-get-said w (Some (Native (OfCallable callable.GetMethodDescriptor))) m o c = native-said w (datum_at w m) m o c
descr-get-said w (Some (Native (OfDescriptor descriptor.GetSetGet))) m o c = getset-said read-taken w (datum_at w m) m o
descr-get-said w (Some (Native (OfDescriptor descriptor.MemberGet))) m o c = member-said read-taken w (datum_at w m) m o
descr-get-said w (Some (Native (OfProperty property.Get))) m o c = property-said read-taken w (datum_at w m) m o
descr-get-said w (Some (Native (OfWrapper wrapper.ClassGet))) m o c = class-method-said w (datum_at w m) m (class_for w o c)
descr-get-said w (Some (Native (OfWrapper wrapper.StaticGet))) m o c = static-method-said w (datum_at w m) m
descr-get-said w (Some (Native (OfSuper super.Get))) m o c = super-said w (datum_at w m) m o
descr-get-said w e m o c = ends tt

-- what asks its last is an object, whatever gives an object or a number
pub class-method-by : (w : PlainWorld) (k f : PyObjectRef) (r : Ended) → Fits kinds.Value r → Says for_given kinds.Value (class_method_by w k f r)
class-method-by w k f (Ok (AsValue v)) h = asks tt
class-method-by w k f (Ok a) h = absurd h
class-method-by w k f (Err x) h = ends tt

pub super-bound : {q : Told → Kind → Bool} (w : PlainWorld) (t o : PyObjectRef) (r : Ended) → Fits kinds.Start r → Says q kinds.Value (super_bound w t o r)
super-bound w t o (Ok (AsStart k)) h = ends tt
super-bound w t o (Ok a) h = absurd h
super-bound w t o (Err x) h = ends tt

descr-get-rest : (rs : List PyObjectRef) (r : Ended) → IsRead rs r → Kinded kinds.Value (λ w. descr_get_rest w rs r)
descr-get-rest (k ∷ f ∷ []) r h = named-row (λ w. class_method_by w k f r) (λ w. class-method-by w k f r h)
descr-get-rest (m ∷ t ∷ o ∷ []) r h = named-row (λ w. super_bound w t o r) (λ w. super-bound w t o r h)
descr-get-rest rs r h = named-end r h

descr-get-row : (m : PyObjectRef) (o c : Option PyObjectRef) → Kinded kinds.Value (λ w. descr_get_say w m o c)
descr-get-row m o c = read_first reading IsRead kinds.Value (λ w. descr_get_by w (slot_at w m DescrGet) m o c) (λ w. descr_get_rest w) read-sound (λ w. descr-get-said w (slot_at w m DescrGet) m o c) descr-get-rest

-- what is set

method-set : {k : Kind} (w : PlainWorld) (m o : PyObjectRef) (v : Option PyObjectRef) → Says whatever k (set_by_method w m o v)
method-set w m o (Some v) = asks tt
method-set w m o None = asks tt

pub getset-set : (w : PlainWorld) (d : Option Datum) (o : PyObjectRef) (v : Option PyObjectRef) → Says whatever kinds.Done (getset_set w d o v)
getset-set w (Some (AGetSet k x get None)) o v = ends tt
getset-set w (Some (AGetSet k x get (Some n))) o v = asks tt
getset-set w d o v = ends tt

set-member : (w : PlainWorld) (c : ℕ) (k : MemberKind) (set : MemberSetter) (o : PyObjectRef) (v : Option PyObjectRef) → Says whatever kinds.Done (set_member w c k set o v)
set-member w c k (setter.Setter None) o v = ends tt
set-member w c k (setter.Setter (Some n)) o v = asks tt
set-member w c k (setter.Offset i) o v = either (takes w k v) (ends tt) (ends tt)

pub member-set : (w : PlainWorld) (d : Option Datum) (o : PyObjectRef) (v : Option PyObjectRef) → Says whatever kinds.Done (member_set w d o v)
member-set w (Some (AMember c x k get set qualname doc)) o v = either (is_instance w o c) (set-member w c k set o v) (ends tt)
member-set w d o v = ends tt

part-called : (w : PlainWorld) (f : Option PyObjectRef) (cause : Cause) (args : List PyObjectRef) → Says whatever kinds.Done (call_part w f cause args)
part-called w None cause args = ends tt
part-called w (Some f) cause args = asks tt

part-set : (w : PlainWorld) (p : PyProperty) (o : PyObjectRef) (v : Option PyObjectRef) → Says whatever kinds.Done (set_part w p o v)
part-set w p o (Some v) = part-called w p.fset NoSetter (o ∷ v ∷ [])
part-set w p o None = part-called w p.fdel NoDeleter (o ∷ [])

pub property-set : (w : PlainWorld) (d : Option Datum) (o : PyObjectRef) (v : Option PyObjectRef) → Says whatever kinds.Done (property_set w d o v)
property-set w (Some (AProperty p)) o v = part-set w p o v
property-set w d o v = ends tt

descr-set-said : (w : PlainWorld) (e : Option SlotEntry) (m o : PyObjectRef) (v : Option PyObjectRef) → Says whatever kinds.Done (descr_set_by w e m o v)
descr-set-said w (Some (Wrapper s)) m o v = method-set w m o v
descr-set-said w (Some (Native (OfDescriptor descriptor.GetSetSet))) m o v = getset-set w (datum_at w m) o v
descr-set-said w (Some (Native (OfDescriptor descriptor.MemberSet))) m o v = member-set w (datum_at w m) o v
descr-set-said w (Some (Native (OfProperty property.Set))) m o v = property-set w (datum_at w m) o v
descr-set-said w e m o v = ends tt

descr-set-row : (m o : PyObjectRef) (v : Option PyObjectRef) → Kinded kinds.Done (λ w. descr_set_say w m o v)
descr-set-row m o v =
    started_so kinds.Done (λ w. descr_set_by w (slot_at w m DescrSet) m o v) (λ w r. on_done w r (end w done))
    (λ w. descr-set-said w (slot_at w m DescrSet) m o v) (λ r. on-done kinds.Done (λ w. end w done) r (ended kinds.Done done tt))

-- `super`

looked-said : (w : PlainWorld) (s : PyObjectRef) (x : Text) (o : PyObjectRef) (start : ℕ) (m : Option PyObjectRef) → Says for_given kinds.Value (looked_up w s x o start m)
looked-said w s x o start None = asks tt
looked-said w s x o start (Some m) = either (is_some (slot_at w m DescrGet)) (asks tt) (ends tt)

attribute-said : (w : PlainWorld) (d : Option Datum) (s : PyObjectRef) (x : Text) → Says for_given kinds.Value (super_attribute w d s x)
attribute-said w (Some (ASuper t (Some (o, start)))) s x = either (is_text x (known_text known.Class)) (asks tt) (looked-said w s x o start (found_after w start t x))
attribute-said w d s x = asks tt

super-get-row : (s : PyObjectRef) (x : Text) → Kinded kinds.Value (λ w. super_get_say w s x)
super-get-row s x = named-row (λ w. super_attribute w (datum_at w s) s x) (λ w. attribute-said w (datum_at w s) s x)

-- what a `super` goes on with that is initialised
abbrev init_kinds : List PyObjectRef → Kind
init_kinds (s ∷ t ∷ o ∷ []) = kinds.Start
init_kinds rs = kinds.Done

abbrev init_ok : List PyObjectRef → Kind → Bool
init_ok rs i = within i (init_kinds rs)

set-super : {q : Told → Kind → Bool} (w : PlainWorld) (d : Option Datum) (s : PyObjectRef) (t : ℕ) (bound : Option (PyObjectRef × ℕ)) → Says q kinds.Done (set_super w d s t bound)
set-super w (Some (ASuper c b)) s t bound = ends tt
set-super w d s t bound = ends tt

init-said : (w : PlainWorld) (s : PyObjectRef) (p : Parts) → Says (having_read init_ok) kinds.Done (init_by w s p)
init-said w s (Err x) = ends tt
init-said w s (Ok p) = either (is_none p.1) (set-super w (datum_at w s) s p.0 None) (asks tt)

started-said : (w : PlainWorld) (s t o : PyObjectRef) (r : Ended) → Fits kinds.Start r → Says (at_once kinds.Done) kinds.Done (super_started w s t o r)
started-said w s t o (Ok (AsStart k)) h = set-super w (datum_at w s) s t.0 (Some (o, k))
started-said w s t o (Ok a) h = absurd h
started-said w s t o (Err x) h = ends tt

init-rest : (rs : List PyObjectRef) (r : Ended) → Fits (init_kinds rs) r → Kinded kinds.Done (λ w. super_init_rest w rs r)
init-rest (s ∷ t ∷ o ∷ []) r h = passed kinds.Done (λ w. super_started w s t o r) (λ w. started-said w s t o r h)
init-rest rs r h = ended kinds.Done r h

super-init-row : (s : PyObjectRef) (args : List PyObjectRef) → Kinded kinds.Done (λ w. super_init_say w s args)
super-init-row s args = read_first init_ok (λ rs. Fits (init_kinds rs)) kinds.Done (λ w. super_init w s args) (λ w. super_init_rest w) (λ rs i r h f. wider i (init_kinds rs) r h f) (λ w. init-said w s (super_parts w args)) init-rest

starting-fits : (c : Option ℕ) → Fits kinds.Start (starting c)
starting-fits None = tt
starting-fits (Some c) = tt

told-fits : (w : PlainWorld) (t : ℕ) (c : Option ℕ) → Fits kinds.Start (told_start w t c)
told-fits w t None = tt
told-fits w t (Some k) = either-fits kinds.Start (not (eqb k t) && is_sub w.classes k t) (Ok (AsStart k)) (fault SuperCheckFailed) tt tt

check-said : (w : PlainWorld) (t : ℕ) (o : PyObjectRef) (c d : Option ℕ) → Says (at_once kinds.Value) kinds.Start (cond (derives w c t) (Ends w (starting c)) (check_class w t o d))
check-said w t o c d = either (derives w c t) (ends (starting-fits c)) (either (derives w d t) (ends (starting-fits d)) (asks tt))

super-check-row : (t : ℕ) (o : PyObjectRef) → Kinded kinds.Start (λ w. super_check_say w t o)
super-check-row t o =
    started kinds.Value kinds.Start (λ w. super_check w t o) (λ w r. on_value w r (λ k. end w (told_start w t (class_number (datum_at w k)))))
    (λ w. check-said w t o (class_number (datum_at w o)) (class_at w o))
    (λ r f. on-value kinds.Start (λ w k. end w (told_start w t (class_number (datum_at w k)))) r f (λ k. ended-by kinds.Start (λ w. told_start w t (class_number (datum_at w k))) (λ w. told-fits w t (class_number (datum_at w k)))))

pub descriptors : (job : DescriptorJob) → Kinded (kind_of_descriptor job) (λ w. descriptor_say w job)
unfolding descriptor_say
descriptors (DoDescrGet m o c) = descr-get-row m o c
descriptors (DoDescrSet m o v) = descr-set-row m o v
descriptors (DoSuperGet s x) = super-get-row s x
descriptors (DoSuperInit s args) = super-init-row s args
descriptors (DoSuperCheck t o) = super-check-row t o
