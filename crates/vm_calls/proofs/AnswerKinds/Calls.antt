-- The rows of calls answer of their kinds.
use Rattle.vm_calls.proofs.Below.{Bool, Err, List, None, Ok, Option, Some, cond, eqb, false, not, subst, suc, sym, true, zero, ℕ, [], PyObjectRef, InitNotNone, Call, Init, New, SlotEntry, Native, Wrapper, ObjectNative, NativeEntry, OfObject, OfCallable, OfType, OfWrapper, Tree, Kind, kind_of_native, kind_of_call, kind_of, is_empty, asked_of_native, call_by, call_say, single, left_over, all_filled, when_filled, rest_fits, by_place, body_by, body_say, initialised, type_call_say, new_found, new_by, new_say, init_by, init_rest, init_say, is_abstract, unless_abstract, created, new_of_class, object_new, object_init, unspecified, object_by, object_say, call_job_say, with_self, call_native, Datum, AClass, AFunction, AMethod, ANativeFunction, ABuiltinMethod, AMethodDescriptor, AStaticMethod, Bindings, PlainWorld, CallJob, DoCall, DoBody, DoTypeCall, DoNew, DoInit, DoObject, DoIsTrue, PlainTask, ToCall, ToProtocol, AsValue, AsDone, Ended, Chose, Told, is_text, text_keys, datum_at, slot_at, without_scope, class_object, class_number, nearest_built_in, the_object, start, ask, end, value, none, fault, on_value, on_truth, on_done, truth, is_not_implemented, native_task, native_end, known_text, Text, found, slot, natives_of}
use Rattle.std.proofs.Common.{◌∷◌}
use Rattle.py_node.specs.declared.entry.ObjectNative.TheVariants as object
use Rattle.py_node.specs.declared.entry.CallableNative.TheVariants as callable
use Rattle.py_node.specs.declared.entry.TypeNative.TheVariants as type
use Rattle.py_node.specs.declared.entry.WrapperNative.TheVariants as wrapper
use Rattle.py_node.specs.declared.known.Known.TheVariants as known
use Rattle.vm_calls.specs.AnswerKinds.Kinds as kinds
use Rattle.vm_calls.proofs.AnswerKinds.Base.{So, Fits, wider, Kinded, ended, Says, ends, asks, at_once, on_way, started, forked, asking, finished, passed, one_of, on-value, on-truth, on-done, started_so, native-kind, native-asked, native-given, is_given, for_given, named-row}
use Rattle.vm_calls.proofs.AnswerKinds.Said.{either, takes-one, takes-two, takes-three, takes-text}
use Rattle.vm_calls.proofs.AnswerKinds.Columns.{gives_in, slot-gives, slot-at-gives}
use Rattle.vm_calls.proofs.AnswerKinds.Tables.{new-column, init-column}
use Rattle.vm_calls.proofs.AnswerKinds.Objects.{object-native}
use Rattle.proto_call.specs.Say.{turned}

-- what is asked, if anything, gives an object or a number
abbrev pub Gives : Option PlainTask → Type 0
Gives None = Unit {0}
Gives (Some task) = So (is_given (kind_of task))

native-gives : (n : NativeEntry) (args : List PyObjectRef) (kw : Bindings) → Gives (Some (native_task n args kw))
native-gives n args kw = subst (λ i. So (is_given i)) (sym (native-kind n args kw)) (native-given n)

pub call-gives : (n : NativeEntry) (d : Option Datum) (f : PyObjectRef) (args : List PyObjectRef) (kw : Bindings) → Gives (call_native n d f args kw)
call-gives (OfCallable callable.CallFunction) d f args kw = tt
call-gives (OfCallable callable.CallMethod) (Some (AMethod o m)) f args kw = tt
call-gives (OfCallable callable.CallNativeFunction) (Some (ANativeFunction x n o doc)) f args kw = native-gives n (with_self o args) kw
call-gives (OfCallable callable.CallBuiltinMethod) (Some (ABuiltinMethod x n o c doc)) f args kw = native-gives n (o ∷ args) kw
call-gives (OfCallable callable.CallMethodDescriptor) (Some (AMethodDescriptor c x n flags doc)) f args kw = native-gives n args kw
call-gives (OfType type.Call) (Some (AClass c)) f args kw = tt
call-gives (OfWrapper wrapper.StaticCall) (Some (AStaticMethod m)) f args kw = tt
call-gives n d f args kw = tt

-- a call

asked-said : (w : PlainWorld) (o : Option PlainTask) → Gives o → Says for_given kinds.Value (asked_of_native w o)
asked-said w None h = ends tt
asked-said w (Some task) h = asks h

call-said : (w : PlainWorld) (e : Option SlotEntry) (f : PyObjectRef) (args : List PyObjectRef) (kw : Bindings) → Says for_given kinds.Value (call_by w e f args kw)
call-said w (Some (Native n)) f args kw = asked-said w (call_native n (datum_at w f) f args kw) (call-gives n (datum_at w f) f args kw)
call-said w (Some (Wrapper s)) f args kw = asks tt
call-said w e f args kw = ends tt

call-row : (f : PyObjectRef) (args : List PyObjectRef) (kw : Bindings) → Kinded kinds.Value (λ w. call_say w f args kw)
call-row f args kw = named-row (λ w. call_by w (slot_at w f Call) f args kw) (λ w. call-said w (slot_at w f Call) f args kw)

-- a body

filled-said : (w : PlainWorld) (f : PyObjectRef) (x : Text) (params : List Text) (rest : Bool) (body : Tree) (vars : Option Bindings) → Says (at_once kinds.Value) kinds.Value (when_filled w f x params rest body vars)
filled-said w f x params rest body None = ends tt
filled-said w f x params rest body (Some vars) = either (all_filled vars (single rest params)) (asks tt) (ends tt)

placed-said : (w : PlainWorld) (f : PyObjectRef) (x : Text) (params : List Text) (rest : Bool) (body : Tree) (args : List PyObjectRef) (kw : Bindings) → Says (at_once kinds.Value) kinds.Value (by_place w f x params rest body args kw)
placed-said w f x params false body args kw = either (is_empty (left_over params args)) (filled-said w f x params false body _) (ends tt)
placed-said w f x params true body args kw = either (rest_fits params args) (filled-said _ f x params true body _) (ends tt)

body-said : (w : PlainWorld) (d : Option Datum) (f : PyObjectRef) (args : List PyObjectRef) (kw : Bindings) → Says (at_once kinds.Value) kinds.Value (body_by w d f args kw)
body-said w (Some (AFunction x params rest body c)) f args kw = placed-said w f x params rest body args kw
body-said w d f args kw = ends tt

body-row : (f : PyObjectRef) (args : List PyObjectRef) (kw : Bindings) → Kinded kinds.Value (λ w. body_say w f args kw)
body-row f args kw =
    started kinds.Value kinds.Value (λ w. body_by w (datum_at w f) f args kw) (λ w r. end (without_scope w) r)
    (λ w. body-said w (datum_at w f) f args kw) (λ r h. finished kinds.Value (λ w. end (without_scope w) r) (λ w. ends h))

-- objects are made

type-call-row : (c : ℕ) (args : List PyObjectRef) (kw : Bindings) → Kinded kinds.Value (λ w. type_call_say w c args kw)
type-call-row c args kw =
    asking kinds.Value kinds.Value (ToCall (DoNew c c args kw)) (λ w r. on_value w r (λ o. start (initialised w c args kw o) (λ s. on_done w s (end w (value o))))) tt
    (λ r f. on-value kinds.Value (λ w o. start (initialised w c args kw o) (λ s. on_done w s (end w (value o)))) r f
    (λ o. started_so kinds.Value (λ w. initialised w c args kw o) (λ w s. on_done w s (end w (value o))) (λ w. either _ (ends tt) (asks tt))
    (λ s. on-done kinds.Value (λ w. end w (value o)) s (ended kinds.Value (value o) tt))))

new-found-said : (w : PlainWorld) (f : Option PyObjectRef) (c : ℕ) (args : List PyObjectRef) (kw : Bindings) → Says (at_once kinds.Value) kinds.Value (new_found w f c args kw)
new-found-said w None c args kw = ends tt
new-found-said w (Some f) c args kw = asks tt

new-said : (w : PlainWorld) (e : Option SlotEntry) (c : ℕ) (args : List PyObjectRef) (kw : Bindings) → So (gives_in kinds.Value e) → Says (at_once kinds.Value) kinds.Value (new_by w e c args kw)
new-said w (Some (Native n)) c args kw h = native-asked w [] n (class_object w c ∷ args) kw h
new-said w (Some (Wrapper s)) c args kw h = new-found-said w (found is_text w.classes c (known_text known.New)) c args kw
new-said w e c args kw h = ends tt

new-row : (k c : ℕ) (args : List PyObjectRef) (kw : Bindings) → Kinded kinds.Value (λ w. new_say w k c args kw)
new-row k c args kw = passed kinds.Value (λ w. new_by w (slot text_keys natives_of w.classes k New) c args kw) (λ w. new-said w (slot text_keys natives_of w.classes k New) c args kw (slot-gives kinds.Value New new-column w.classes k))

init-said : (w : PlainWorld) (e : Option SlotEntry) (o : PyObjectRef) (args : List PyObjectRef) (kw : Bindings) → So (gives_in kinds.Value e) → Says (on_way (λ n. kinds.Value)) kinds.DoneOrValue (init_by w e o args kw)
init-said w (Some (Native n)) o args kw h = native-asked w (Chose 0 ∷ []) n (o ∷ args) kw h
init-said w (Some (Wrapper s)) o args kw h = asks tt
init-said w e o args kw h = ends tt

init-rest : (way : ℕ) (r : Ended) → Fits kinds.Value r → Kinded kinds.DoneOrValue (λ w. init_rest w way r)
init-rest zero r f = ended kinds.DoneOrValue r (wider kinds.Value kinds.DoneOrValue r tt f)
init-rest (suc n) r f =
    on-value kinds.DoneOrValue (λ w v. cond (eqb v.0 none.0) (end w (value v)) (end w (fault InitNotNone))) r f
    (λ v. one_of kinds.DoneOrValue (eqb v.0 none.0) (λ w. end w (value v)) (λ w. end w (fault InitNotNone)) (ended kinds.DoneOrValue (value v) tt) (ended kinds.DoneOrValue (fault InitNotNone) tt))

init-row : (o : PyObjectRef) (args : List PyObjectRef) (kw : Bindings) → Kinded kinds.DoneOrValue (λ w. init_say w o args kw)
init-row o args kw = forked (λ n. kinds.Value) kinds.DoneOrValue (λ w. init_by w (slot_at w o Init) o args kw) (λ w. init_rest w) (λ w. init-said w (slot_at w o Init) o args kw (slot-at-gives kinds.Value Init init-column w o)) (λ way r f. init-rest way r f)

-- the natives of `object`

abbrev Objectly : Told → Kind → Bool
Objectly = at_once kinds.DoneOrValue

created-said : (w : PlainWorld) (b : Option ℕ) (c : ℕ) → Says Objectly kinds.Value (created w b c)
created-said w None c = ends tt
created-said w (Some b) c = either (not (eqb b the_object)) (ends tt) (unless (is_abstract w (found is_text w.classes c (known_text known.Abstractmethods))))
  where
    unless : (b : Bool) → Says Objectly kinds.Value (unless_abstract w b c)
    unless true = ends tt
    unless false = ends tt

class-new : (w : PlainWorld) (c : Option ℕ) → Says Objectly kinds.Value (new_of_class w c)
class-new w None = ends tt
class-new w (Some c) = created-said w (nearest_built_in w.classes c) c

object-new : (w : PlainWorld) (args : List PyObjectRef) → Says Objectly kinds.Value (object_new w args)
object-new w [] = ends tt
object-new w (c ∷ args) = class-new w (class_number (datum_at w c))

object-init : (w : PlainWorld) (args : List PyObjectRef) → Says Objectly kinds.Value (object_init w args)
object-init w [] = ends tt
object-init w (o ∷ args) = ends tt

unspecified-said : (w : PlainWorld) (o : PyObjectRef) (x : Text) → Says Objectly kinds.Value (unspecified w o x)
unspecified-said w o [] = asks tt
unspecified-said w o (b ∷ bs) = ends tt

pub native-end : (r : Ended) → Fits kinds.DoneOrValue r → Kinded kinds.Value (λ w. native_end w r)
native-end (Ok AsDone) f = ended kinds.Value (value none) tt
native-end (Ok (AsValue v)) f = ended kinds.Value (value v) tt
native-end (Ok a) f = absurd f
native-end (Err x) f = ended kinds.Value (Err x) tt

turned-row : (x : PyObjectRef) → Kinded kinds.Value (λ w. turned w x)
turned-row x =
    one_of kinds.Value (is_not_implemented x) (λ w. end w (value x)) (λ w. ask w (ToProtocol (DoIsTrue x)) (λ r. on_truth w r (λ b. end w (value (truth (not b))))))
    (ended kinds.Value (value x) tt)
    (asking kinds.Truth kinds.Value (ToProtocol (DoIsTrue x)) (λ w r. on_truth w r (λ b. end w (value (truth (not b))))) tt
    (λ r f. on-truth kinds.Value (λ w b. end w (value (truth (not b)))) r f (λ b. ended kinds.Value (value (truth (not b))) tt)))

object-like : (n : ObjectNative) (args : List PyObjectRef) (kw : Bindings) → ((w : PlainWorld) → Says Objectly kinds.Value (object_by w n args kw)) → Kinded kinds.Value (λ w. start (object_by w n args kw) (native_end w))
object-like n args kw p = started kinds.DoneOrValue kinds.Value (λ w. object_by w n args kw) (λ w. native_end w) p (λ r f. native-end r f)

object-row : (n : ObjectNative) (args : List PyObjectRef) (kw : Bindings) → Kinded (kind_of_native (OfObject n)) (λ w. object_say w n args kw)
unfolding kind_of_native
object-row object.New args kw = object-like object.New args kw (λ w. object-new w args)
object-row object.Init args kw = object-like object.Init args kw (λ w. object-init w args)
object-row object.InitSubclass args kw = object-like object.InitSubclass args kw (λ w. takes-one w args kw _ (λ o. ends tt))
object-row object.GetAttribute args kw = object-like object.GetAttribute args kw (λ w. takes-two w args kw _ (λ o n. takes-text w n _ (λ x. asks tt)))
object-row object.SetAttr args kw = object-like object.SetAttr args kw (λ w. takes-three w args kw _ (λ o n v. takes-text w n _ (λ x. asks tt)))
object-row object.DelAttr args kw = object-like object.DelAttr args kw (λ w. takes-two w args kw _ (λ o n. takes-text w n _ (λ x. asks tt)))
object-row object.Str args kw = object-like object.Str args kw (λ w. takes-one w args kw _ (λ o. asks tt))
object-row object.Format args kw = object-like object.Format args kw (λ w. takes-two w args kw _ (λ o s. takes-text w s _ (λ x. unspecified-said w o x)))
object-row object.Dir args kw = object-like object.Dir args kw (λ w. takes-one w args kw _ (λ o. asks tt))
object-row object.Ne args kw =
    started kinds.Value kinds.Value (λ w. object_by w object.Ne args kw) (λ w r. on_value w r (turned w)) (λ w. takes-two w args kw _ (λ o p. asks tt))
    (λ r f. on-value kinds.Value (λ w. turned w) r f turned-row)
object-row object.Hash args kw = finished kinds.Number (λ w. object_say w object.Hash args kw) (λ w. object-native w object.Hash args kw)
object-row n args kw = finished _ (λ w. object_say w n args kw) (λ w. object-native w n args kw)

pub calls : (job : CallJob) → Kinded (kind_of_call job) (λ w. call_job_say w job)
unfolding call_job_say
calls (DoCall f args kw) = call-row f args kw
calls (DoBody f args kw) = body-row f args kw
calls (DoTypeCall c args kw) = type-call-row c args kw
calls (DoNew k c args kw) = new-row k c args kw
calls (DoInit o args kw) = init-row o args kw
calls (DoObject n args kw) = object-row n args kw
