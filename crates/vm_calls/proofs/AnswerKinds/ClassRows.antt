-- The rows of the creation of classes answer with objects.
use Rattle.vm_calls.proofs.Below.{Bool, Err, List, None, Ok, Option, Result, Some, cond, eqb, false, is_some, length, true, ℕ, [], not, PyObjectRef, Cause, SetNameCalled, MroEntries, BasesNotTypes, NullInName, TypeArgs, New, TypeNative, refused_layout, hook as class_hook, namespace, Space, completed, dicted, name_hook, bind_hook, bind_hooks, call_hook, unless_raised, call_hooks, without_metaclass, init_subclass, own_values, tell, whole_class, refusal, made_unless, with_slots, with_names, by_slots, with_namespace, on_layout, winner, by_winner, classes_of, by_classes, by_bases, tuple_of, by_parts, from_three, three_of, by_one, no_class, make_class_say, type_new_of, type_new, class_in, called_with, type_call, type_by, class_job_say, value_of, has_null, Bindings, PlainWorld, DoBind, DoCall, DoNew, ClassJob, DoMakeClass, DoType, ToAttribute, ToCall, Ended, Made, Said, Asks, Ends, is_text, text_keys, ref, datum_at, type_object, class_number, nearest_built_in, the_object, the_type, Row, start, end, value, pass, fault, is_attribute_error, on_value, on_done, noting, native_end, known_text, Text, natives_of, found_past, entry}
use Rattle.std.proofs.Common.{◌∷◌, ◌&&◌}
use Rattle.py_node.specs.declared.entry.TypeNative.TheVariants as type
use Rattle.py_node.specs.declared.known.Known.TheVariants as known
use Rattle.proto_call.specs.ClassMake.Say.{one_of as one_argument, dict_of as dict_in, is_class as is_of_class, with_self as with_type, Entries, text_of, made, on_bases}
use Rattle.vm_calls.specs.AnswerKinds.Kinds as kinds
use Rattle.vm_calls.proofs.AnswerKinds.Base.{Family, GoesOn, Kinded, ended, Says, ends, asks, at_once, stepped, goes-on, started, read_objects_once, read_names_once, on-value, on-done, started_so, either-fits}
use Rattle.vm_calls.proofs.AnswerKinds.Said.{either, takes-two, takes-three, takes-text}
use Rattle.vm_calls.proofs.AnswerKinds.Objects.{type-native}
use Rattle.vm_calls.proofs.AnswerKinds.Calls.{native-end}

-- a class that was made is told of

bound-hooks : (hs : Bindings) (go : PlainWorld → Bindings → Row) → ((bs : Bindings) → Kinded kinds.Value (λ w. go w bs)) → Kinded kinds.Value (λ w. bind_hooks w hs (go w))
bound-hooks [] go p = p []
bound-hooks (a ∷ more) go p = read_objects_once kinds.Value (λ w. name_hook w a.1) (λ w ms. bind_hook w a.0 a.1 ms (bind_hooks w more) (go w)) (λ ms. hooked ms (bound-hooks more go p) (λ b. bound-hooks more (λ w bs. go w ((a.0, b) ∷ bs)) (λ bs. p ((a.0, b) ∷ bs))))
  where
    hooked : (ms : List PyObjectRef) → Kinded kinds.Value (λ w. bind_hooks w more (go w)) → ((b : PyObjectRef) → Kinded kinds.Value (λ w. bind_hooks w more (λ bs. go w ((a.0, b) ∷ bs)))) → Kinded kinds.Value (λ w. bind_hook w a.0 a.1 ms (bind_hooks w more) (go w))
    hooked [] q h = q
    hooked (m ∷ ms) q h =
        started kinds.Value kinds.Value (λ w. Asks w [] (ToAttribute (DoBind m (Some a.1) (type_object w a.1)))) (λ w r. on_value w r (λ b. bind_hooks w more (λ bs. go w ((a.0, b) ∷ bs))))
        (λ w. asks tt) (λ r f. on-value kinds.Value (λ w b. bind_hooks w more (λ bs. go w ((a.0, b) ∷ bs))) r f h)

unless-raised : (go : Family) (r : Ended) → Kinded kinds.Value go → Kinded kinds.Value (λ w. unless_raised w r (go w))
unless-raised go (Ok a) p = p
unless-raised go (Err x) p = ended kinds.Value (fault SetNameCalled) tt

called-hooks : (class : PyObjectRef) (bs : Bindings) (go : Family) → Kinded kinds.Value go → Kinded kinds.Value (λ w. call_hooks w class bs (go w))
called-hooks class [] go p = p
called-hooks class (b ∷ bs) go p =
    started_so kinds.Value (λ w. call_hook w class b.0 b.1) (λ w r. unless_raised w r (call_hooks w class bs (go w)))
    (λ w. asks tt) (λ r. unless-raised (λ w. call_hooks w class bs (go w)) r (called-hooks class bs go p))

hook-said : (w : PlainWorld) (class : PyObjectRef) (m : Option PyObjectRef) → Says (at_once kinds.Value) kinds.Value (class_hook w class m)
hook-said w class None = ends tt
hook-said w class (Some m) = asks tt

init-row : (class : PyObjectRef) (kw : Bindings) → Kinded kinds.Value (λ w. init_subclass w class kw)
init-row class kw =
    started kinds.Value kinds.Value (λ w. class_hook w class (found_past is_text w.classes class.0 (known_text known.InitSubclass))) (λ w r. on_value w r (λ b. start (pass w (ToCall (DoCall b [] (without_metaclass kw)))) (λ s. on_done w s (end w (value class)))))
    (λ w. hook-said w class (found_past is_text w.classes class.0 (known_text known.InitSubclass)))
    (λ r f. on-value kinds.Value (λ w b. start (pass w (ToCall (DoCall b [] (without_metaclass kw)))) (λ s. on_done w s (end w (value class)))) r f
    (λ b. started_so kinds.Value (λ w. pass w (ToCall (DoCall b [] (without_metaclass kw)))) (λ w s. on_done w s (end w (value class))) (λ w. asks tt)
    (λ s. on-done kinds.Value (λ w. end w (value class)) s (ended kinds.Value (value class) tt))))

tell-row : (class : PyObjectRef) (kw : Bindings) → Kinded kinds.Value (λ w. tell w class kw)
tell-row class kw =
    read_names_once kinds.Value (λ w. own_values w class.0) (λ w values. bind_hooks w values (λ bs. call_hooks w class bs (init_subclass w class kw)))
    (λ values. bound-hooks values (λ w bs. call_hooks w class bs (init_subclass w class kw)) (λ bs. called-hooks class bs (λ w. init_subclass w class kw) (init-row class kw)))

-- the class is made

module _ (c : ℕ) (args : List PyObjectRef) (kw : Bindings) where
  abbrev Making : Family
  Making w = make_class_say w c args kw

  abbrev Makes : Said → Type 0
  Makes s = GoesOn (Kinded kinds.Value) kinds.Value Making s

  noted : (class : PyObjectRef) (s : Said) → GoesOn (Kinded kinds.Value) kinds.Value (λ w. tell w class kw) s → Makes (noting (Made class) s)
  noted class (Ends u r) q = q
  noted class (Asks u learnt task) q = q

  made-said : (cause : Option Cause) (meta : ℕ) (name : Text) (bases : List ℕ) (slots : Option (List Text)) (s : Space) → Makes (made_unless cause meta name bases slots kw s)
  unfolding made_unless
  made-said (Some cause) meta name bases slots s = tt
  made-said None meta name bases slots s =
      let class = ref (length s.0.nodes) in
      noted class (tell (whole_class s.0 meta name bases s.1 slots) class kw []) (goes-on kinds.Value (λ w. tell w class kw) (tell-row class kw) (whole_class s.0 meta name bases s.1 slots))

  slots-said : (meta : ℕ) (name : Text) (bases : List ℕ) (slots : Option (List Text)) (s : Space) → Makes (with_slots meta name bases slots kw s)
  slots-said meta name bases slots s = made-said (refusal (dicted bases slots s).0 bases (dicted bases slots s).1) meta name bases slots (dicted bases slots s)

  names-said : (names : Option (List Text)) (meta : ℕ) (name : Text) (bases : List ℕ) (s : Space) → Makes (with_names names meta name bases kw s)
  names-said None meta name bases s = tt
  names-said (Some names) meta name bases s = slots-said meta name bases (Some names) s

  by-slots : (o : Option PyObjectRef) (meta : ℕ) (name : Text) (bases : List ℕ) (s : Space) → Makes (by_slots o meta name bases kw s)
  by-slots None meta name bases s = slots-said meta name bases None s
  by-slots (Some r) meta name bases s = names-said _ meta name bases s

  all-made : (meta : ℕ) (name : Text) (bases : List ℕ) (s : Space) → Makes (made meta name bases kw s)
  unfolding made
  all-made meta name bases s = by-slots (value_of (λ y. is_text y (known_text known.Slots)) s.1) meta name bases s

  namespace-said : (w : PlainWorld) (meta : ℕ) (name : Text) (bases : List ℕ) (attrs : Option Bindings) → Makes (with_namespace w meta name bases attrs kw)
  namespace-said w meta name bases None = tt
  namespace-said w meta name bases (Some attrs) = all-made meta name bases (completed name (w, attrs))

  layout-said : (w : PlainWorld) (cause : Option Cause) (meta : ℕ) (name : Text) (bases : List ℕ) (es : Entries) → Makes (on_layout w cause meta name bases es kw)
  layout-said w (Some cause) meta name bases es = tt
  layout-said w None meta name bases es = namespace-said w meta name bases (namespace w es)

  either-makes : (b : Bool) (x y : Said) → Makes x → Makes y → Makes (cond b x y)
  either-makes true x y p q = p
  either-makes false x y p q = q

  bases-said : (w : PlainWorld) (meta : ℕ) (name : Text) (bases : List ℕ) (es : Entries) → Makes (on_bases w meta name bases es kw)
  bases-said w meta name bases es = layout-said w (refused_layout w.classes bases) meta name bases es

  new-asked : (w : PlainWorld) (d : ℕ) → Makes (pass w (ToCall (DoNew d d args kw)))
  new-asked w d = λ r f. ended kinds.Value r f

  winner-said : (w : PlainWorld) (meta : ℕ) (won : Option ℕ) (name : Text) (bases : List ℕ) (es : Entries) → Makes (by_winner w meta won name bases es args kw)
  winner-said w meta None name bases es = tt
  winner-said w meta (Some d) name bases es = either-makes (not (eqb d meta) && is_some (entry text_keys natives_of w.classes d New)) (pass w (ToCall (DoNew d d args kw))) (on_bases w d name bases es kw) (new-asked w d) (bases-said w d name bases es)

  no-class : (r : Ended) → Kinded kinds.Value (λ w. no_class w r)
  no-class (Ok a) = ended kinds.Value (fault MroEntries) tt
  no-class (Err x) = ended kinds.Value (cond (is_attribute_error x.kind) (fault BasesNotTypes) (Err x)) (either-fits kinds.Value (is_attribute_error x.kind) (fault BasesNotTypes) (Err x) tt tt)

  classes-said : (w : PlainWorld) (meta : ℕ) (name : Text) (bs : List PyObjectRef) (cs : Result (List ℕ) PyObjectRef) (es : Entries) → Makes (by_classes w meta name bs cs es args kw)
  classes-said w meta name bs (Err b) es = (λ r f. no-class r)
  classes-said w meta name bs (Ok cs) es = winner-said w meta (winner w meta bs) name cs es

  by-bases : (w : PlainWorld) (meta : ℕ) (name : Text) (bs : List PyObjectRef) (es : Entries) → Makes (by_bases w meta name bs es args kw)
  by-bases w meta name [] es = bases-said w meta name (the_object ∷ []) es
  by-bases w meta name (b ∷ bs) es = classes-said w meta name (b ∷ bs) (classes_of w (b ∷ bs)) es

  parts-said : (w : PlainWorld) (meta : ℕ) (name : Option Text) (bases : Option (List PyObjectRef)) (es : Option Entries) → Makes (by_parts w meta name bases es args kw)
  parts-said w meta (Some name) (Some bases) (Some es) = either-makes (has_null name) (Ends w (fault NullInName)) (by_bases w meta name bases es args kw) tt (by-bases w meta name bases es)
  parts-said w meta name bases es = tt

  three-said : (w : PlainWorld) (meta : ℕ) (p : Option (PyObjectRef × (PyObjectRef × PyObjectRef))) → Makes (from_three w meta p args kw)
  three-said w meta None = tt
  three-said w meta (Some (n, (b, d))) = parts-said w meta (text_of (datum_at w n)) (tuple_of (datum_at w b)) (dict_in (datum_at w d))

  one-said : (w : PlainWorld) (meta : ℕ) (o : Option PyObjectRef) → Makes (by_one w meta o args kw)
  one-said w meta (Some o) = either-makes (eqb meta the_type) (Ends w (value (type_object w o))) (Ends w (fault TypeArgs)) tt tt
  one-said w meta None = three-said w meta (three_of args)

  make-row : Kinded kinds.Value (λ w. make_class_say w c args kw)
  make-row = stepped kinds.Value (λ w. make_class_say w c args kw) (λ w. one-said w c (one_argument args kw))

-- the natives of `type`

heir-said : (w : PlainWorld) (c : Option ℕ) (args : List PyObjectRef) (kw : Bindings) → Says (at_once kinds.DoneOrValue) kinds.Value (type_new_of w c args kw)
heir-said w None args kw = ends tt
heir-said w (Some c) args kw = either (is_of_class (nearest_built_in w.classes c) the_type) (asks tt) (ends tt)

new-said : (w : PlainWorld) (args : List PyObjectRef) (kw : Bindings) → Says (at_once kinds.DoneOrValue) kinds.Value (type_new w args kw)
new-said w [] kw = ends tt
new-said w (c ∷ args) kw = heir-said w (class_number (datum_at w c)) args kw

class-in : (w : PlainWorld) (c : Option ℕ) (go : ℕ → Said) → ((c : ℕ) → Says (at_once kinds.DoneOrValue) kinds.Value (go c)) → Says (at_once kinds.DoneOrValue) kinds.Value (class_in w c go)
class-in w None go p = ends tt
class-in w (Some c) go p = p c

self-taken : (w : PlainWorld) (args : List PyObjectRef) (go : ℕ → Said) → ((c : ℕ) → Says (at_once kinds.DoneOrValue) kinds.Value (go c)) → Says (at_once kinds.DoneOrValue) kinds.Value (with_type w args go)
self-taken w [] go p = ends tt
self-taken w (o ∷ args) go p = class-in w (class_number (datum_at w o)) go p

called-said : (w : PlainWorld) (c : Option ℕ) (args : List PyObjectRef) (kw : Bindings) → Says (at_once kinds.DoneOrValue) kinds.Value (called_with w c args kw)
called-said w None args kw = ends tt
called-said w (Some c) args kw = asks tt

call-said : (w : PlainWorld) (args : List PyObjectRef) (kw : Bindings) → Says (at_once kinds.DoneOrValue) kinds.Value (type_call w args kw)
call-said w [] kw = ends tt
call-said w (c ∷ args) kw = called-said w (class_number (datum_at w c)) args kw

type-said : (w : PlainWorld) (n : TypeNative) (args : List PyObjectRef) (kw : Bindings) → Says (at_once kinds.DoneOrValue) kinds.Value (type_by w n args kw)
type-said w type.New args kw = new-said w args kw
type-said w type.GetAttribute args kw = self-taken w args _ (λ c. takes-two w args kw _ (λ o n. takes-text w n _ (λ x. asks tt)))
type-said w type.SetAttr args kw = self-taken w args _ (λ c. takes-three w args kw _ (λ o n v. takes-text w n _ (λ x. asks tt)))
type-said w type.DelAttr args kw = self-taken w args _ (λ c. takes-two w args kw _ (λ o n. takes-text w n _ (λ x. asks tt)))
type-said w type.Call args kw = call-said w args kw
type-said w n args kw = type-native w n args kw

pub class-rows : (job : ClassJob) → Kinded kinds.Value (λ w. class_job_say w job)
unfolding class_job_say
class-rows (DoMakeClass c args kw) = make-row c args kw
class-rows (DoType n args kw) = started kinds.DoneOrValue kinds.Value (λ w. type_by w n args kw) (λ w. native_end w) (λ w. type-said w n args kw) (λ r f. native-end r f)
