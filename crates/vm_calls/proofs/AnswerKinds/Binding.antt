-- The natives that call an object, bind it, set in it or make one answer of their kinds.
use Rattle.vm_calls.proofs.Below.{Bool, Err, List, None, Ok, Option, Some, cond, false, true, ℕ, [], PyObjectRef, BuiltIn, Detail, NativeEntry, Setting, Way, with_kind as of_kind, wrapped_in as wrapped_callable, call_native, class_of_option, class_for, class_method_get, class_method_by, start_with, super_bound, super_get, Kind, kind_of_native, kind_of, is_function, is_method_descriptor, called_task, asked_of_kind, call_by_name, get_by_name, is_getset, is_member, is_property, is_super, is_class_method, is_static_method, is_of_kind, function_get_by_name, native_get_by_name, getset_get_by_name, member_get_by_name, property_get_by_name, super_get_by_name, class_method_by_name, static_method_by_name, set_as, set_so, delete_so, none_said, set_by_name, delete_by_name, super_attribute_by_name, super_init_by_name, made_by, new_by_name, class_of_wrapper, wrapper_new, wrapper_rest, none_end, way_rest, part_of_wrapped, with_get, marked_in, mark_with, mark_by_name, Datum, AClassMethod, ASuper, Bindings, PlainWorld, PlainTask, AsValue, AsDone, Ended, ReadObjects, Told, Said, Asks, Ends, datum_at, next_node, class_number, Row, end, value, none, truth, named_end, is_sub}
use Rattle.std.proofs.Common.{◌∷◌}
use Rattle.py_node.specs.declared.entry.Detail.TheVariants as detail
use Rattle.proto_attr.specs.declared.native_calls.way.Kind.{Kind as Bound}
use Rattle.proto_attr.specs.declared.native_calls.way.Kind.TheVariants as kind
use Rattle.proto_attr.specs.declared.native_calls.way.Setting.TheVariants as setting
use Rattle.proto_attr.specs.declared.native_calls.way.Wrapper.{Wrapper}
use Rattle.proto_attr.specs.declared.native_calls.way.Way.TheVariants as way
use Rattle.proto_attr.specs.NativeCalls.Say.{kind_of as setting_kind}
use Rattle.vm_calls.specs.AnswerKinds.Kinds as kinds
use Rattle.vm_calls.proofs.AnswerKinds.Base.{Fits, within, wider, Family, GoesOn, Kinded, ended, Says, ends, asks, at_once, stepped, on-done, whatever, IsGiven, given, for_given, named-row, named-end}
use Rattle.vm_calls.proofs.AnswerKinds.Said.{either, no-keywords, takes-one, takes-two, takes-text}
use Rattle.vm_calls.proofs.AnswerKinds.Own.{takes-own, takes-heir}
use Rattle.vm_calls.proofs.AnswerKinds.Descriptors.{function-said, native-said, Takes, getset-said, member-said, property-said, static-method-said, class-method-by, super-bound, getset-set, member-set, property-set}
use Rattle.vm_calls.proofs.AnswerKinds.Calls.{Gives, call-gives}
use Rattle.proto_attr.specs.NativeCalls.Say.{by_way}
use Rattle.proto_attr.specs.NativeCalls.Parts.{or_not_abstract}

-- what they take

kind-taken : {q : Told → Kind → Bool} {k : Kind} (w : PlainWorld) (is : Option Datum → Bool) (args : List PyObjectRef) (go : PyObjectRef → List PyObjectRef → Said) → ((m : PyObjectRef) (rest : List PyObjectRef) → Says q k (go m rest)) → Says q k (of_kind w is args go)
kind-taken w is [] go p = ends tt
kind-taken w is (m ∷ args) go p = either (is (datum_at w m)) (p m args) (ends tt)

get-taken : {q : Told → Kind → Bool} {k : Kind} (w : PlainWorld) (args : List PyObjectRef) (kw : Bindings) (go : PyObjectRef → Option PyObjectRef → Said) → ((o : PyObjectRef) (c : Option PyObjectRef) → Says q k (go o c)) → Says q k (with_get w args kw go)
get-taken w (o ∷ []) kw go p = no-keywords w kw (go o None) (p o None)
get-taken w (o ∷ c ∷ []) kw go p = no-keywords w kw (go o (Some c)) (p o (Some c))
get-taken w args kw go p = ends tt

by-name : {q : Told → Kind → Bool} {k : Kind} (w : PlainWorld) (is : Option Datum → Bool) (args : List PyObjectRef) (kw : Bindings) (go : PyObjectRef → PyObjectRef → Option PyObjectRef → Said) → ((m o : PyObjectRef) (c : Option PyObjectRef) → Says q k (go m o c)) → Says q k (get_by_name w is args kw go)
by-name w is args kw go p = kind-taken w is args (λ m rest. with_get w rest kw (go m)) (λ m rest. get-taken w rest kw (go m) (p m))

-- how a row goes on that read no object before it asked, or just two, or three

once-row : (j k : Kind) (said : PlainWorld → Said) (go : PlainWorld → List PyObjectRef → Ended → Row) → ((w : PlainWorld) → Says (at_once j) k (said w)) → ((r : Ended) → Fits j r → Kinded k (λ w. go w [] r)) → Kinded k (λ w. start_with (said w) (go w))
once-row j k said go s p = stepped k (λ w. start_with (said w) (go w)) (λ w. next (said w) (s w))
  where
    next : (x : Said) → Says (at_once j) k x → GoesOn (Kinded k) k (λ w. start_with (said w) (go w)) x
    next (Ends u r) (ends h) = h
    next (Asks u [] task) (asks h) = (λ r f. p r (wider (kind_of task) j r h f))
    next (Asks u (x ∷ xs) task) (asks h) = absurd h

given-row : (said : PlainWorld → Said) (go : PlainWorld → List PyObjectRef → Ended → Row) → ((w : PlainWorld) → Says for_given kinds.Value (said w)) → ((r : Ended) → IsGiven r → Kinded kinds.Value (λ w. go w [] r)) → Kinded kinds.Value (λ w. start_with (said w) (go w))
given-row said go s p = stepped kinds.Value (λ w. start_with (said w) (go w)) (λ w. next (said w) (s w))
  where
    next : (x : Said) → Says for_given kinds.Value x → GoesOn (Kinded kinds.Value) kinds.Value (λ w. start_with (said w) (go w)) x
    next (Ends u r) (ends h) = h
    next (Asks u [] task) (asks h) = λ r f. p r (given (kind_of task) r h f)
    next (Asks u (x ∷ xs) task) (asks h) = absurd h

takes : Takes for_given
takes i h = h

any-row : (k : Kind) (said : PlainWorld → Said) (go : PlainWorld → List PyObjectRef → Ended → Row) → ((w : PlainWorld) → Says whatever k (said w)) → ((r : Ended) → Kinded k (λ w. go w [] r)) → Kinded k (λ w. start_with (said w) (go w))
any-row k said go s p = stepped k (λ w. start_with (said w) (go w)) (λ w. next (said w) (s w))
  where
    next : (x : Said) → Says whatever k x → GoesOn (Kinded k) k (λ w. start_with (said w) (go w)) x
    next (Ends u r) (ends h) = h
    next (Asks u [] task) (asks h) = (λ r f. p r)
    next (Asks u (x ∷ xs) task) (asks h) = absurd h

abbrev two_read : Told → Kind → Bool
two_read (ReadObjects (a ∷ b ∷ []) ∷ []) i = within i kinds.Value
two_read _ i = false

two-row : (said : PlainWorld → Said) (go : PlainWorld → List PyObjectRef → Ended → Row) → ((w : PlainWorld) → Says two_read kinds.Value (said w)) → ((a b : PyObjectRef) (r : Ended) → Fits kinds.Value r → Kinded kinds.Value (λ w. go w (a ∷ b ∷ []) r)) → Kinded kinds.Value (λ w. start_with (said w) (go w))
two-row said go s p = stepped kinds.Value (λ w. start_with (said w) (go w)) (λ w. next (said w) (s w))
  where
    next : (x : Said) → Says two_read kinds.Value x → GoesOn (Kinded kinds.Value) kinds.Value (λ w. start_with (said w) (go w)) x
    next (Ends u r) (ends h) = h
    next (Asks u (ReadObjects (a ∷ b ∷ []) ∷ []) task) (asks h) = (λ r f. p a b r (wider (kind_of task) kinds.Value r h f))
    next (Asks u learnt task) (asks h) = absurd h

abbrev three_read : Told → Kind → Bool
three_read (ReadObjects (a ∷ b ∷ c ∷ []) ∷ []) i = within i kinds.Start
three_read _ i = false

three-row : (said : PlainWorld → Said) (go : PlainWorld → List PyObjectRef → Ended → Row) → ((w : PlainWorld) → Says three_read kinds.Value (said w)) → ((a b c : PyObjectRef) (r : Ended) → Fits kinds.Start r → Kinded kinds.Value (λ w. go w (a ∷ b ∷ c ∷ []) r)) → Kinded kinds.Value (λ w. start_with (said w) (go w))
three-row said go s p = stepped kinds.Value (λ w. start_with (said w) (go w)) (λ w. next (said w) (s w))
  where
    next : (x : Said) → Says three_read kinds.Value x → GoesOn (Kinded kinds.Value) kinds.Value (λ w. start_with (said w) (go w)) x
    next (Ends u r) (ends h) = h
    next (Asks u (ReadObjects (a ∷ b ∷ c ∷ []) ∷ []) task) (asks h) = (λ r f. p a b c r (wider (kind_of task) kinds.Start r h f))
    next (Asks u learnt task) (asks h) = absurd h

-- what is bound

class-bound : (w : PlainWorld) (d : Option Datum) (m k : PyObjectRef) → Says two_read kinds.Value (class_method_get w d m k)
class-bound w (Some (AClassMethod f)) m k = asks tt
class-bound w d m k = ends tt

super-asked : (w : PlainWorld) (d : Option Datum) (m : PyObjectRef) (o : Option PyObjectRef) → Says three_read kinds.Value (super_get w d m o)
super-asked w (Some (ASuper t None)) m (Some o) = either _ (ends tt) (asks tt)
super-asked w d m o = ends tt

done-end : (r : Ended) → Fits kinds.Done r → Kinded kinds.Value (λ w. named_end w r)
done-end (Ok AsDone) f = ended kinds.Value (value none) tt
done-end (Ok a) f = absurd f
done-end (Err x) f = ended kinds.Value (Err x) tt

-- what is set

none-said : {j : Kind} (s : Said) → Says whatever j s → Says whatever kinds.Value (none_said s)
none-said (Ends u (Ok a)) (ends h) = ends tt
none-said (Ends u (Err x)) (ends h) = ends tt
none-said (Asks u learnt task) (asks h) = asks h

set-as : (w : PlainWorld) (k : Setting) (m o : PyObjectRef) (v : Option PyObjectRef) → Says whatever kinds.Done (set_as w k m o v)
set-as w setting.GetSet m o v = getset-set w (datum_at w m) o v
set-as w setting.Member m o v = member-set w (datum_at w m) o v
set-as w setting.Property m o v = property-set w (datum_at w m) o v

mark-said : (w : PlainWorld) (f v : Option PyObjectRef) → Says whatever kinds.Value (mark_with w f v)
mark-said w f None = ends tt
mark-said w None (Some v) = ends tt
mark-said w (Some f) (Some v) = asks tt

none-end : (r : Ended) → Kinded kinds.Value (λ w. none_end w r)
none-end r = on-done kinds.Value (λ w. end w (value none)) r (ended kinds.Value (value none) tt)

wrapped-row : (b : Wrapper) (c : ℕ) (f : PyObjectRef) (r : Ended) → Fits kinds.Value r → Kinded kinds.Value (λ w. wrapper_rest w b c f r)
wrapped-row b c f (Err x) h = stepped kinds.Value (λ w. wrapper_rest w b c f (Err x)) (λ w. tt)
wrapped-row b c f (Ok (AsValue doc)) h = stepped kinds.Value (λ w. wrapper_rest w b c f (Ok (AsValue doc))) (λ w s x. on-done kinds.Value (λ v. end v (value (next_node w c))) s (ended kinds.Value (value (next_node w c)) tt))
wrapped-row b c f (Ok a) h = absurd h

not-abstract : (r : Ended) → Fits kinds.Value r → Kinded kinds.Value (λ w. or_not_abstract w r)
not-abstract (Err x) f = ended kinds.Value (value (truth false)) tt
not-abstract (Ok a) f = ended kinds.Value (Ok a) f

made-said : (w : PlainWorld) (k c : Option ℕ) (args : List PyObjectRef) (kw : Bindings) → Says for_given kinds.Value (made_by w k c args kw)
made-said w (Some k) (Some c) args kw = either (is_sub w.classes c k) (asks tt) (ends tt)
made-said w k c args kw = ends tt

new-said : (w : PlainWorld) (args : List PyObjectRef) (kw : Bindings) → Says for_given kinds.Value (new_by_name w args kw)
new-said w (k ∷ c ∷ args) kw = made-said w (class_number (datum_at w k)) (class_number (datum_at w c)) args kw
new-said w args kw = ends tt

part-asked : (w : PlainWorld) (b : Wrapper) (d : Detail) (args : List PyObjectRef) (kw : Bindings) → Says for_given kinds.Value (part_of_wrapped w b d args kw)
part-asked w b d args kw = takes-own (wrapped_callable b) w args _ (λ o f. takes-one w args kw _ (λ a. asks tt))

marked-asked : (w : PlainWorld) (b : Wrapper) (args : List PyObjectRef) (kw : Bindings) → Says (at_once kinds.Value) kinds.Value (part_of_wrapped w b detail.IsAbstract args kw)
marked-asked w b args kw = takes-own (wrapped_callable b) w args _ (λ o f. takes-one w args kw _ (λ a. asks tt))

abbrev Going : Way → NativeEntry → List PyObjectRef → Bindings → Family
Going y n args kw = λ w. start_with (by_way w y n args kw) (λ rs r. way_rest w rs y r)

pub bind-row : (b : Bound) (n : NativeEntry) (args : List PyObjectRef) (kw : Bindings) → Kinded kinds.Value (Going (way.Binds b) n args kw)
bind-row kind.Function n args kw = given-row (λ w. function_get_by_name w args kw) (λ w rs r. way_rest w rs (way.Binds kind.Function) r) (λ w. by-name w is_function args kw _ (λ m o c. function-said w m (Some o) (class_of_option w c))) named-end
bind-row kind.Native n args kw = given-row (λ w. native_get_by_name w args kw) (λ w rs r. way_rest w rs (way.Binds kind.Native) r) (λ w. by-name w is_method_descriptor args kw _ (λ m o c. native-said w (datum_at w m) m (Some o) c)) named-end
bind-row kind.GetSet n args kw = given-row (λ w. getset_get_by_name w args kw) (λ w rs r. way_rest w rs (way.Binds kind.GetSet) r) (λ w. by-name w is_getset args kw _ (λ m o c. getset-said takes w (datum_at w m) m (Some o))) named-end
bind-row kind.Member n args kw = given-row (λ w. member_get_by_name w args kw) (λ w rs r. way_rest w rs (way.Binds kind.Member) r) (λ w. by-name w is_member args kw _ (λ m o c. member-said takes w (datum_at w m) m (Some o))) named-end
bind-row kind.Property n args kw = given-row (λ w. property_get_by_name w args kw) (λ w rs r. way_rest w rs (way.Binds kind.Property) r) (λ w. by-name w is_property args kw _ (λ m o c. property-said takes w (datum_at w m) m (Some o))) named-end
bind-row kind.StaticMethod n args kw = given-row (λ w. static_method_by_name w args kw) (λ w rs r. way_rest w rs (way.Binds kind.StaticMethod) r) (λ w. by-name w is_static_method args kw _ (λ m o c. static-method-said w (datum_at w m) m)) named-end
bind-row kind.ClassMethod n args kw =
    two-row (λ w. class_method_by_name w args kw) (λ w rs r. way_rest w rs (way.Binds kind.ClassMethod) r) (λ w. by-name w is_class_method args kw _ (λ m o c. class-bound w (datum_at w m) m (class_for w (Some o) c)))
    (λ k f r h. named-row (λ w. class_method_by w k f r) (λ w. class-method-by w k f r h))
bind-row kind.Super n args kw =
    three-row (λ w. super_get_by_name w args kw) (λ w rs r. way_rest w rs (way.Binds kind.Super) r) (λ w. by-name w is_super args kw _ (λ m o c. super-asked w (datum_at w m) m (Some o)))
    (λ m t o r h. named-row (λ w. super_bound w t o r) (λ w. super-bound w t o r h))

pub set-row : (k : Setting) (n : NativeEntry) (args : List PyObjectRef) (kw : Bindings) → Kinded kinds.Value (Going (way.Sets k) n args kw)
set-row k n args kw = any-row kinds.Value (λ w. set_by_name w k args kw) (λ w rs r. way_rest w rs (way.Sets k) r) (λ w. none-said (set_so w k args kw) (kind-taken w (is_of_kind (setting_kind k)) args _ (λ m rest. takes-two w rest kw _ (λ o v. set-as w k m o (Some v))))) none-end

pub delete-row : (k : Setting) (n : NativeEntry) (args : List PyObjectRef) (kw : Bindings) → Kinded kinds.Value (Going (way.Deletes k) n args kw)
delete-row k n args kw = any-row kinds.Value (λ w. delete_by_name w k args kw) (λ w rs r. way_rest w rs (way.Deletes k) r) (λ w. none-said (delete_so w k args kw) (kind-taken w (is_of_kind (setting_kind k)) args _ (λ m rest. takes-one w rest kw _ (λ o. set-as w k m o None)))) none-end

pub looks-row : (n : NativeEntry) (args : List PyObjectRef) (kw : Bindings) → Kinded kinds.Value (Going way.Looks n args kw)
looks-row n args kw = given-row (λ w. super_attribute_by_name w args kw) (λ w rs r. way_rest w rs way.Looks r) (λ w. kind-taken w is_super args _ (λ s rest. takes-one w rest kw _ (λ x. takes-text w x _ (λ x. asks tt)))) named-end

pub starts-row : (n : NativeEntry) (args : List PyObjectRef) (kw : Bindings) → Kinded kinds.Value (Going way.Starts n args kw)
starts-row n args kw = once-row kinds.Done kinds.Value (λ w. super_init_by_name w args kw) (λ w rs r. way_rest w rs way.Starts r) (λ w. kind-taken w is_super args _ (λ s rest. no-keywords w kw _ (asks tt))) done-end

pub reads-row : (b : Wrapper) (d : Detail) (n : NativeEntry) (args : List PyObjectRef) (kw : Bindings) → Kinded kinds.Value (Going (way.Reads b d) n args kw)
reads-row b d n args kw = given-row (λ w. part_of_wrapped w b d args kw) (λ w rs r. way_rest w rs (way.Reads b d) r) (λ w. part-asked w b d args kw) named-end

pub marked-row : (b : Wrapper) (n : NativeEntry) (args : List PyObjectRef) (kw : Bindings) → Kinded kinds.Value (Going (way.Marked b) n args kw)
marked-row b n args kw = once-row kinds.Value kinds.Value (λ w. part_of_wrapped w b detail.IsAbstract args kw) (λ w rs r. way_rest w rs (way.Marked b) r) (λ w. marked-asked w b args kw) not-abstract

pub marks-row : (b : BuiltIn) (n : NativeEntry) (args : List PyObjectRef) (kw : Bindings) → Kinded kinds.Value (Going (way.Marks b) n args kw)
marks-row b n args kw = any-row kinds.Value (λ w. none_said (mark_by_name w b args kw)) (λ w rs r. way_rest w rs (way.Marks b) r) (λ w. none-said (mark_by_name w b args kw) (takes-own (marked_in b) w args _ (λ o f. get-taken w args kw _ (λ a v. mark-said w f v)))) none-end

pub wraps-row : (b : Wrapper) (n : NativeEntry) (args : List PyObjectRef) (kw : Bindings) → Kinded kinds.Value (Going (way.Wraps b) n args kw)
wraps-row b n args kw =
    two-row (λ w. wrapper_new w (class_of_wrapper b) args kw) (λ w rs r. way_rest w rs (way.Wraps b) r) (λ w. takes-heir w (class_of_wrapper b) args _ (λ c. takes-two w args kw _ (λ k f. asks tt)))
    (λ k f r h. wrapped-row b k.0 f r h)

pub makes-row : (n : NativeEntry) (args : List PyObjectRef) (kw : Bindings) → Kinded kinds.Value (Going way.Makes n args kw)
makes-row n args kw = given-row (λ w. new_by_name w args kw) (λ w rs r. way_rest w rs way.Makes r) (λ w. new-said w args kw) named-end

-- a native that calls answers with an object, whatever it asks gives an object or a number

asked-of : (w : PlainWorld) (o : Option PlainTask) → Gives o → Says for_given kinds.Value (asked_of_kind w o)
asked-of w None h = ends tt
asked-of w (Some task) h = asks h

unless-gives : (b : Bool) (o : Option PlainTask) → Gives o → Gives (cond b None o)
unless-gives true o h = tt
unless-gives false o h = h

named-said : (w : PlainWorld) (n : NativeEntry) (args : List PyObjectRef) (kw : Bindings) → Says for_given kinds.Value (call_by_name w n args kw)
named-said w n [] kw = ends tt
named-said w n (f ∷ args) kw = asked-of w (called_task w n f args kw) (unless-gives _ (call_native n (datum_at w f) f args kw) (call-gives n (datum_at w f) f args kw))

pub calls-row : (n : NativeEntry) (args : List PyObjectRef) (kw : Bindings) → Kinded kinds.Value (Going way.Calls n args kw)
calls-row n args kw = given-row (λ w. call_by_name w n args kw) (λ w rs r. way_rest w rs way.Calls r) (λ w. named-said w n args kw) named-end
