-- What the rows of calls say.
use Rattle.proto_call.specs.Below.{ℕ, zero, suc, Bool, true, false, cond, not, eqb, List, [], Option, Some, None, is_some, is_none, length, map, nat_le, PyObjectRef, AbstractMethods, ArgCount, CannotCreate, FormatSpec, InitNotNone, NoSpecial, NotCallable, SelfType, TooLong, UnexpectedKeyword, UnsafeNew, Call, Init, New, SlotEntry, Native, Wrapper, ObjectNative, Eq, value_of, with_value, Text, Tree, Started, known_text, found, slot, natives_of, Datum, AnObject, AFunction, ATuple, AList, PlainWorld, Bindings, DoEval, CallJob, DoCall, DoBody, DoTypeCall, DoNew, DoInit, DoObject, DoGeneric, DoGenericSet, DoSpecial, DoCmp, DoIsTrue, DoRepr, DoStr, DoDir, PlainTask, ToEval, ToAttribute, ToCall, ToCompare, ToProtocol, ToObject, Ended, Chose, Said, Asks, Ends, is_text, datum_at, slot_at, text_keys, with_node, next_node, with_scope, without_scope, class_object, class_number, is_instance, nearest_built_in, filled, with_one, with_two, with_three, with_text, native_end, named_end, the_object, the_type, the_tuple, native_task, show, call_native, Row, start, fork, ask, pass, end, value, done, fault, elsewhere, none, truth, is_not_implemented, on_value, on_truth, on_done, most_items}
use Rattle.std.specs.Prelude.{◌&&◌, ◌||◌, ◌∷◌}
use Rattle.py_node.specs.declared.entry.ObjectNative.TheVariants as object
use Rattle.py_node.specs.declared.known.Known.TheVariants as known
use Rattle.proto_call.specs.ObjectNatives.{object_native_say}

abbrev pub is_empty : {A : Type 0} → List A → Bool
is_empty [] = true
is_empty (x ∷ xs) = false

-- Call

-- what is asked, where the native entry is one of these. No class has another one
abbrev pub asked_of_native : PlainWorld → Option PlainTask → Said
asked_of_native w None = Ends w elsewhere
asked_of_native w (Some task) = pass w task

abbrev pub call_by : PlainWorld → Option SlotEntry → PyObjectRef → List PyObjectRef → Bindings → Said
call_by w (Some (Native n)) f args kw = asked_of_native w (call_native n (datum_at w f) f args kw)
call_by w (Some (Wrapper s)) f args kw = pass w (ToAttribute (DoSpecial f (known_text known.Call) args kw))
call_by w _ f args kw = Ends w (fault NotCallable)

abbrev pub call_say : PlainWorld → PyObjectRef → List PyObjectRef → Bindings → Row
call_say w f args kw = start (call_by w (slot_at w f Call) f args kw) (named_end w)

-- Body

abbrev pub is_member : List Text → Text → Bool
is_member [] x = false
is_member (y ∷ ys) x = is_text y x || is_member ys x

-- the parameters but the last
abbrev pub but_last : {A : Type 0} → List A → List A
but_last [] = []
but_last (x ∷ []) = []
but_last (x ∷ (y ∷ ys)) = x ∷ but_last (y ∷ ys)

abbrev pub last_of : List Text → Text
last_of [] = []
last_of (x ∷ []) = x
last_of (x ∷ (y ∷ ys)) = last_of (y ∷ ys)

-- the parameters that take one argument each: all, or all but the last where that takes the rest
abbrev pub single : {A : Type 0} → Bool → List A → List A
single rest params = cond rest (but_last params) params

-- the arguments past the parameters
abbrev pub left_over : List Text → List PyObjectRef → List PyObjectRef
left_over [] args = args
left_over (x ∷ xs) [] = []
left_over (x ∷ xs) (v ∷ vs) = left_over xs vs

abbrev pub value_at : Bindings → Text → Option PyObjectRef
value_at vars x = value_of (λ y. is_text y x) vars

-- keywords fill parameters that have no value yet
abbrev pub with_keywords : List Text → Bindings → Bindings → Option Bindings
with_keywords params vars [] = Some vars
with_keywords params vars (k ∷ kw) =
    cond (is_member params k.0 && is_none (value_at vars k.0)) (with_keywords params (with_value is_text vars k.0 k.1) kw) None

abbrev pub all_filled : Bindings → List Text → Bool
all_filled vars [] = true
all_filled vars (x ∷ xs) = is_some (value_at vars x) && all_filled vars xs

abbrev pub value_text : PlainWorld → Option PyObjectRef → Text
value_text w None = []
value_text w (Some v) = show w v

-- the text of a parameter's value
abbrev pub shown : PlainWorld → Bindings → Text → Text
shown w vars x = value_text w (value_at vars x)

abbrev pub started : PlainWorld → Text → List Text → Bindings → Started
started w x params vars = record { name = x; args = map (shown w vars) params }

-- every parameter has a value: the body's scope opens, its start is noted, and it is evaluated
abbrev pub opened : PlainWorld → PyObjectRef → Text → List Text → Tree → Bindings → Said
opened w f x params body vars = pass (with_scope w (record { func = f; vars = vars }) (started w x params vars)) (ToEval (DoEval body))

abbrev pub when_filled : PlainWorld → PyObjectRef → Text → List Text → Bool → Tree → Option Bindings → Said
when_filled w f x params rest body None = Ends w (fault UnexpectedKeyword)
when_filled w f x params rest body (Some vars) =
    cond (all_filled vars (single rest params)) (opened w f x params body vars) (Ends w (fault ArgCount))

abbrev pub by_keywords : PlainWorld → PyObjectRef → Text → List Text → Bool → Tree → Bindings → Bindings → Said
by_keywords w f x params rest body vars kw = when_filled w f x params rest body (with_keywords (single rest params) vars kw)

abbrev pub rest_fits : List Text → List PyObjectRef → Bool
rest_fits params args = nat_le (length (left_over (but_last params) args)) most_items

-- the arguments that are left over are a new tuple, for the parameter that takes the rest, which has no more items than
-- there may be; without one there may be none
abbrev pub by_place : PlainWorld → PyObjectRef → Text → List Text → Bool → Tree → List PyObjectRef → Bindings → Said
by_place w f x params false body args kw =
    cond (is_empty (left_over params args)) (by_keywords w f x params false body (filled [] params args) kw) (Ends w (fault ArgCount))
by_place w f x params true body args kw =
    cond (rest_fits params args)
    (by_keywords (with_node w the_tuple (ATuple (left_over (but_last params) args))) f x params true body
    (with_value is_text (filled [] (but_last params) args) (last_of params) (next_node w the_tuple)) kw)
    (Ends w (fault TooLong))

abbrev pub body_by : PlainWorld → Option Datum → PyObjectRef → List PyObjectRef → Bindings → Said
body_by w (Some (AFunction x params rest body c)) f args kw = by_place w f x params rest body args kw
body_by w _ f args kw = Ends w (fault NotCallable)

-- the scope is taken away however the body ends
abbrev pub body_say : PlainWorld → PyObjectRef → List PyObjectRef → Bindings → Row
body_say w f args kw = start (body_by w (datum_at w f) f args kw) (λ r. end (without_scope w) r)

-- TypeCall

-- the new object is initialised, unless `type` was asked for a class, or the object isn't one of the class
abbrev pub initialised : PlainWorld → ℕ → List PyObjectRef → Bindings → PyObjectRef → Said
initialised w c args kw o = cond ((eqb c the_type && is_empty kw) || not (is_instance w o c)) (Ends w (value o)) (pass w (ToCall (DoInit o args kw)))

abbrev pub type_call_say : PlainWorld → ℕ → List PyObjectRef → Bindings → Row
type_call_say w c args kw =
    ask w (ToCall (DoNew c c args kw)) (λ r. on_value w r (λ o. start (initialised w c args kw o) (λ s. on_done w s (end w (value o)))))

-- New

abbrev pub new_found : PlainWorld → Option PyObjectRef → ℕ → List PyObjectRef → Bindings → Said
new_found w None c args kw = Ends w (fault NoSpecial)
new_found w (Some f) c args kw = pass w (ToCall (DoCall f (class_object w c ∷ args) kw))

abbrev pub new_by : PlainWorld → Option SlotEntry → ℕ → List PyObjectRef → Bindings → Said
new_by w (Some (Native n)) c args kw = pass w (native_task n (class_object w c ∷ args) kw)
new_by w (Some (Wrapper s)) c args kw = new_found w (found is_text w.classes c (known_text known.New)) c args kw
new_by w _ c args kw = Ends w (fault CannotCreate)

abbrev pub new_say : PlainWorld → ℕ → ℕ → List PyObjectRef → Bindings → Row
new_say w k c args kw = start (new_by w (slot text_keys natives_of w.classes k New) c args kw) (end w)

-- Init

abbrev pub init_by : PlainWorld → Option SlotEntry → PyObjectRef → List PyObjectRef → Bindings → Said
init_by w (Some (Native n)) o args kw = Asks w (Chose 0 ∷ []) (native_task n (o ∷ args) kw)
init_by w (Some (Wrapper s)) o args kw = Asks w (Chose 1 ∷ []) (ToAttribute (DoSpecial o (known_text known.Init) args kw))
init_by w _ o args kw = Ends w done

-- a method that initialises must give None
abbrev pub init_rest : PlainWorld → ℕ → Ended → Row
init_rest w zero r = end w r
init_rest w (suc n) r = on_value w r (λ v. cond (eqb v.0 none.0) (end w (value v)) (end w (fault InitNotNone)))

abbrev pub init_say : PlainWorld → PyObjectRef → List PyObjectRef → Bindings → Row
init_say w o args kw = fork (init_by w (slot_at w o Init) o args kw) (init_rest w)

-- the natives of `object`

abbrev pub has_items : Option Datum → Bool
has_items (Some (ATuple rs)) = not (is_empty rs)
has_items (Some (AList rs)) = not (is_empty rs)
has_items _ = false

abbrev pub is_abstract : PlainWorld → Option PyObjectRef → Bool
is_abstract w None = false
is_abstract w (Some r) = has_items (datum_at w r)

abbrev pub unless_abstract : PlainWorld → Bool → ℕ → Said
unless_abstract w true c = Ends w (fault AbstractMethods)
unless_abstract w false c = Ends (with_node w c AnObject) (value (next_node w c))

-- a new object of a class, whose objects must be plain ones, and which may leave no method abstract
abbrev pub created : PlainWorld → Option ℕ → ℕ → Said
created w None c = Ends w (fault UnsafeNew)
created w (Some b) c =
    cond (not (eqb b the_object)) (Ends w (fault UnsafeNew)) (unless_abstract w (is_abstract w (found is_text w.classes c (known_text known.Abstractmethods))) c)

abbrev pub new_of_class : PlainWorld → Option ℕ → Said
new_of_class w None = Ends w (fault SelfType)
new_of_class w (Some c) = created w (nearest_built_in w.classes c) c

abbrev pub object_new : PlainWorld → List PyObjectRef → Said
object_new w [] = Ends w (fault ArgCount)
object_new w (c ∷ args) = new_of_class w (class_number (datum_at w c))

-- any arguments will do
abbrev pub object_init : PlainWorld → List PyObjectRef → Said
object_init w [] = Ends w (fault ArgCount)
object_init w (o ∷ args) = Ends w (value none)

-- the class alone, and no keyword
abbrev pub object_init_subclass : PlainWorld → List PyObjectRef → Bindings → Said
object_init_subclass w args kw = with_one w args kw (λ c. Ends w (value none))

-- an attribute by its name, as objects read and set it
abbrev pub object_get_attribute : PlainWorld → List PyObjectRef → Bindings → Said
object_get_attribute w args kw = with_two w args kw (λ o n. with_text w n (λ x. pass w (ToAttribute (DoGeneric o x))))

abbrev pub object_set_attr : PlainWorld → List PyObjectRef → Bindings → Said
object_set_attr w args kw = with_three w args kw (λ o n v. with_text w n (λ x. pass w (ToAttribute (DoGenericSet o x (Some v)))))

-- an attribute by its name, as objects take it out
abbrev pub object_del_attr : PlainWorld → List PyObjectRef → Bindings → Said
object_del_attr w args kw = with_two w args kw (λ o n. with_text w n (λ x. pass w (ToAttribute (DoGenericSet o x None))))

-- the text of an object is that by which it is represented, unless its class says otherwise
abbrev pub object_str : PlainWorld → List PyObjectRef → Bindings → Said
object_str w args kw = with_one w args kw (λ o. pass w (ToObject (DoRepr o)))

-- by default no specification is known
abbrev pub unspecified : PlainWorld → PyObjectRef → Text → Said
unspecified w o [] = pass w (ToObject (DoStr o))
unspecified w o (b ∷ bs) = Ends w (fault FormatSpec)

abbrev pub object_format : PlainWorld → List PyObjectRef → Bindings → Said
object_format w args kw = with_two w args kw (λ o s. with_text w s (unspecified w o))

abbrev pub object_dir : PlainWorld → List PyObjectRef → Bindings → Said
object_dir w args kw = with_one w args kw (λ o. pass w (ToObject (DoDir o)))

-- two objects are not equal where what the first one's class says of their being equal doesn't count as true, if it says anything
abbrev pub object_ne : PlainWorld → List PyObjectRef → Bindings → Said
object_ne w args kw = with_two w args kw (λ o p. pass w (ToCompare (DoCmp o p Eq)))

abbrev pub turned : PlainWorld → PyObjectRef → Row
turned w x =
    cond (is_not_implemented x) (end w (value x)) (ask w (ToProtocol (DoIsTrue x)) (λ r. on_truth w r (λ b. end w (value (truth (not b))))))

-- those that ask no task say what they end with
abbrev pub object_by : PlainWorld → ObjectNative → List PyObjectRef → Bindings → Said
object_by w object.New args kw = object_new w args
object_by w object.Init args kw = object_init w args
object_by w object.InitSubclass args kw = object_init_subclass w args kw
object_by w object.GetAttribute args kw = object_get_attribute w args kw
object_by w object.SetAttr args kw = object_set_attr w args kw
object_by w object.DelAttr args kw = object_del_attr w args kw
object_by w object.Str args kw = object_str w args kw
object_by w object.Format args kw = object_format w args kw
object_by w object.Dir args kw = object_dir w args kw
object_by w object.Ne args kw = object_ne w args kw
object_by w n args kw = object_native_say w n args kw

-- how those go on that asked a task
abbrev pub object_rest : PlainWorld → ObjectNative → Ended → Row
object_rest w object.Ne r = on_value w r (turned w)
object_rest w n r = native_end w r

abbrev pub object_say : PlainWorld → ObjectNative → List PyObjectRef → Bindings → Row
object_say w n args kw = start (object_by w n args kw) (object_rest w n)

unfoldable pub call_job_say : PlainWorld → CallJob → Row
call_job_say w (DoCall f args kw) told = call_say w f args kw told
call_job_say w (DoBody f args kw) told = body_say w f args kw told
call_job_say w (DoTypeCall c args kw) told = type_call_say w c args kw told
call_job_say w (DoNew k c args kw) told = new_say w k c args kw told
call_job_say w (DoInit o args kw) told = init_say w o args kw told
call_job_say w (DoObject n args kw) told = object_say w n args kw told
