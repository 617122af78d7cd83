-- The natives that make, show, hash, compare and repeat what has parts answer of their kinds.
use Rattle.vm_calls.proofs.Below.{Bool, Err, List, None, Ok, Option, Result, Some, cond, eqb, false, inl, inr, length, not, pos, refl, set, true, zip, ℕ, ℤ, [], PyObjectRef, SelfType, Raised as Fault, NativeEntry, OfList, CompareNative, Or, items_at, Container as Shown, Turns, Repeated, in_length, object_made, on_count, sequence_for, list_repeated, with_own, there_or, property_in, parts_at, hash_task, repr_task, hashed_on, hash_row, tuple_hash, text_at, texts_at, container_text, text_ends, text_row, container_repr, wrapper_text, wrapper_ends, wrapper_by, wrapper_repr, ends_with, decided_or, turns_of, by_turns, items_compared, with_items, both_read, with_same, with_both, sequences_by, sequences_say, values_compared, dicts_equal, dict_compared, dicts_by, dicts_say, with_name as named_datum, or_false, abstract_of, getter_at, setter_at, or_not_abstract, property_abstract, name_known, kept_name, member_name, dotted, named_so, named_by, name_given, name_rest, member_qualname, Kind, kind_of, with_one_at_most, first, str_new_by, str_made, str_rest, str_new, tuple_new_by, tuple_rest, tuple_new, list_filled, list_init_by, list_rest, list_init, int_new, int_of_class, int_made_of, int_rest, int_new_say, bool_new, bool_new_say, entry_of, repeat_of, repeat_by_name, list_stood, repeat_stood, repeat_by_kind, as_said, argument, with_read, with_own_and, number, Datum, ANumber, AText, ATuple, AList, AMember, AProperty, Bindings, PlainWorld, DoGetAttr, DoBinary, DoIdEq, DoSeqLt, DoSeqGt, ToAttribute, ToOperator, ToCompare, AsValue, Ended, ReadObjects, Told, Said, Asks, Ends, datum_at, number_of, with_datum, the_int, the_str, Row, ask, end, value, none, elsewhere, is_attribute_error, on_value, on_truth, truth, noting, read_objects, with_one, known_text, Text}
use Rattle.std.proofs.Common.{◌++◌, ◌∷◌, ◌≡◌, ◌⊎◌}
use Rattle.py_node.specs.declared.built_in.BuiltIn.TheVariants as built_in
use Rattle.py_node.specs.declared.entry.CompareNative.TheVariants as compare
use Rattle.py_node.specs.declared.known.Known.TheVariants as known
use Rattle.row_kit.specs.TakeContainers.{is_of as is_container}
use Rattle.row_kit.specs.declared.take_containers.Kind.{Kind as Container}
use Rattle.row_kit.specs.declared.take_containers.Kind.TheVariants as kind
use Rattle.native_containers.specs.declared.native_conversions.wrapped.Wrapper.{Wrapper}
use Rattle.native_containers.specs.declared.native_compare.way.Way.{Way}
use Rattle.native_containers.specs.declared.native_compare.way.Way.TheVariants as way
use Rattle.native_containers.specs.declared.native_compare.way.Turns.TheVariants as turn
use Rattle.native_containers.specs.NativeConversions.Texts.{kind_of as shown_kind, wrapped_in}
use Rattle.native_containers.specs.NativeCompare.Containers.{answered as way_answered, in_turn as pairs_in_turn, asked as way_asked}
use Rattle.proto_attr.specs.NativeDetails.Say.{listed, joined, abstract_by, is_abstract}
use Rattle.vm_calls.specs.AnswerKinds.Kinds as kinds
use Rattle.vm_calls.proofs.AnswerKinds.Base.{Fits, within, wider, Family, GoesOn, Kinded, ended, Says, ends, asks, at_once, never, stepped, goes-on, started, asking, finished, passed, one_of, read_objects_once, on-value, on-truth, on-maybe, either-fits}
use Rattle.vm_calls.proofs.AnswerKinds.Said.{either, no-keywords, takes-one, takes-two}
use Rattle.vm_calls.proofs.AnswerKinds.Gives.{object-given, text-given}
use Rattle.vm_calls.proofs.AnswerKinds.Own.{there-or, takes-own, takes-heir}
use Rattle.vm_calls.proofs.AnswerKinds.Entries.{on-objects, each-value, each-number}
use Rattle.vm_calls.proofs.AnswerKinds.Containers.{container-taken}
use Rattle.vm_calls.proofs.AnswerKinds.Operators.{count-said, times-said, list-said, native-repeated}
use Rattle.vm_calls.proofs.AnswerKinds.Sequences.{tested-row, one-taken}
use Rattle.proto_ops.specs.NativeRepeats.Say.{repeat_rest}

said-row : (k : Kind) (said : PlainWorld → Said) → ((w : PlainWorld) → Says never k (said w)) → Kinded k (λ w. as_said (said w))
said-row k said s = finished k (λ w. as_said (said w)) s

-- objects that were read before the first ask
abbrev having : Kind → Told → Kind → Bool
having j (ReadObjects rs ∷ []) i = within i j
having j _ i = false

read-row : (j k : Kind) (said : PlainWorld → Said) (go : PlainWorld → List PyObjectRef → Ended → Row) → ((w : PlainWorld) → Says (having j) k (said w)) → ((rs : List PyObjectRef) (r : Ended) → Fits j r → Kinded k (λ w. go w rs r)) → Kinded k (λ w. with_read (said w) (go w))
read-row j k said go s p = stepped k (λ w. with_read (said w) (go w)) (λ w. next (said w) (s w))
  where
    next : (x : Said) → Says (having j) k x → GoesOn (Kinded k) k (λ w. with_read (said w) (go w)) x
    next (Ends u r) (ends h) = h
    next (Asks u (ReadObjects rs ∷ []) task) (asks h) = (λ r f. p rs r (wider (kind_of task) j r h f))
    next (Asks u learnt task) (asks h) = absurd h

one-at-most : {q : Told → Kind → Bool} {k : Kind} (w : PlainWorld) (args : List PyObjectRef) (kw : Bindings) (without : Said) (go : PyObjectRef → Said) → Says q k without → ((a : PyObjectRef) → Says q k (go a)) → Says q k (with_one_at_most w args kw without go)
one-at-most w (o ∷ []) kw without go p h = no-keywords w kw without p
one-at-most w (o ∷ a ∷ []) kw without go p h = no-keywords w kw (go a) (h a)
one-at-most w args kw without go p h = ends tt

-- makers

pub str-new : (args : List PyObjectRef) (kw : Bindings) → Kinded kinds.Value (λ w. str_new w args kw)
str-new args kw =
    read-row kinds.Value kinds.Value (λ w. str_new_by w args kw) (λ w. str_rest w)
    (λ w. takes-heir w built_in.Str args _ (λ c. one-at-most w args kw _ _ (object-given w c (AText [])) (λ a. asks tt)))
    (λ rs r f. on-value kinds.Value (λ w v. as_said (str_made w (first rs).0 v)) r f
    (λ v. said-row kinds.Value (λ w. str_made w (first rs).0 v) (λ w. either (eqb (first rs).0 the_str) (ends tt) (object-given w (first rs).0 (AText (text_at w v))))))

pub tuple-new : (args : List PyObjectRef) (kw : Bindings) → Kinded kinds.Value (λ w. tuple_new w args kw)
tuple-new args kw =
    read-row kinds.Objects kinds.Value (λ w. tuple_new_by w args kw) (λ w. tuple_rest w)
    (λ w. takes-heir w built_in.Tuple args _ (λ c. one-at-most w args kw _ _ (object-given w c (ATuple [])) (λ a. asks tt)))
    (λ rs r f. on-objects kinds.Value (λ w is. as_said (object_made w (first rs).0 (ATuple is))) r f
    (λ is. said-row kinds.Value (λ w. object_made w (first rs).0 (ATuple is)) (λ w. object-given w (first rs).0 (ATuple is))))

filled-said : {q : Told → Kind → Bool} (w : PlainWorld) (o : PyObjectRef) (rs : List PyObjectRef) → Says q kinds.Value (list_filled w o rs)
filled-said w o rs = ends tt

pub list-init : (args : List PyObjectRef) (kw : Bindings) → Kinded kinds.Value (λ w. list_init w args kw)
list-init args kw =
    read-row kinds.Objects kinds.Value (λ w. list_init_by w args kw) (λ w. list_rest w)
    (λ w. container-taken kind.List w args _ (λ o. one-at-most w args kw _ _ (filled-said w o []) (λ a. asks tt)))
    (λ rs r f. on-objects kinds.Value (λ w is. as_said (list_filled w (first rs) is)) r f
    (λ is. said-row kinds.Value (λ w. list_filled w (first rs) is) (λ w. filled-said w (first rs) is)))

int-of-class : (w : PlainWorld) (c : ℕ) (z : Option ℤ) → Says never kinds.Value (int_of_class w c z)
int-of-class w c None = ends tt
int-of-class w c (Some z) = object-given w c (ANumber z)

pub int-new : (args : List PyObjectRef) (kw : Bindings) → Kinded kinds.Value (λ w. int_new_say w args kw)
int-new args kw =
    read-row kinds.Value kinds.Value (λ w. int_new w args kw) (λ w. int_rest w)
    (λ w. takes-heir w built_in.Int args _ (λ c. one-at-most w args kw _ _ (object-given w c (ANumber (pos 0))) (λ a. asks tt)))
    (λ rs r f. on-value kinds.Value (λ w i. as_said (int_made_of w (first rs).0 i)) r f
    (λ i. said-row kinds.Value (λ w. int_made_of w (first rs).0 i) (λ w. either (eqb (first rs).0 the_int) (ends tt) (int-of-class w (first rs).0 (number_of (datum_at w i))))))

pub bool-new : (args : List PyObjectRef) (kw : Bindings) → Kinded kinds.Value (λ w. bool_new_say w args kw)
bool-new args kw =
    started kinds.Truth kinds.Value (λ w. bool_new w args kw) (λ w r. on_truth w r (λ b. end w (value (truth b))))
    (λ w. takes-heir w built_in.Bool args _ (λ c. one-at-most w args kw _ _ (ends tt) (λ a. asks tt)))
    (λ r f. on-truth kinds.Value (λ w b. end w (value (truth b))) r f (λ b. ended kinds.Value (value (truth b)) tt))

-- texts and hashes

pub tuple-hash : (args : List PyObjectRef) (kw : Bindings) → Kinded kinds.Number (λ w. tuple_hash w args kw)
tuple-hash args kw =
    one-taken kinds.Number kind.Tuple args kw (λ w o. read_objects (parts_at w o) (hash_row w (pos 1)))
    (λ o. read_objects_once kinds.Number (λ w. parts_at w o) (λ w. hash_row w (pos 1)) (λ rs. each-number kinds.Number hash_task hashed_on (λ r. tt) (pos 1) rs (λ w z. end w (number z)) (λ z. ended kinds.Number (number z) tt)))

pub container-repr : (c : Shown) (args : List PyObjectRef) (kw : Bindings) → Kinded kinds.Value (λ w. container_repr w c args kw)
container-repr c args kw =
    one-taken kinds.Value (shown_kind c) args kw (λ w o. read_objects (parts_at w o) (text_row w c []))
    (λ o. read_objects_once kinds.Value (λ w. parts_at w o) (λ w. text_row w c []) (λ rs. each-value kinds.Value repr_task (λ r. tt) rs (λ w ws. as_said (text_ends w c ([] ++ ws)))
    (λ ws. said-row kinds.Value (λ w. text_ends w c ([] ++ ws)) (λ w. text-given w (in_length (container_text c (texts_at w ([] ++ ws))))))))

pub wrapper-repr : (b : Wrapper) (args : List PyObjectRef) (kw : Bindings) → Kinded kinds.Value (λ w. wrapper_repr w b args kw)
wrapper-repr b args kw =
    started kinds.Value kinds.Value (λ w. wrapper_by w b args kw) (λ w r. on_value w r (λ v. as_said (wrapper_ends w b v)))
    (λ w. takes-own (wrapped_in b) w args _ (λ o m. takes-one w args kw _ (λ p. asks tt)))
    (λ r f. on-value kinds.Value (λ w v. as_said (wrapper_ends w b v)) r f
    (λ v. said-row kinds.Value (λ w. wrapper_ends w b v) (λ w. text-given w (in_length (wrapper_text b (text_at w v))))))

-- comparisons

truth-row : (b : Bool) → Kinded kinds.Value (λ w. ends_with w b)
truth-row b = ended kinds.Value (value (truth b)) tt

decided-row : (go : Family) (o : Option PyObjectRef) → Kinded kinds.Value go → Kinded kinds.Value (λ w. decided_or w (go w) o)
decided-row go (Some b) p = ended kinds.Value (value b) tt
decided-row go None p = p

pair-row : (y : Way) (last : Bool) (a b : PyObjectRef) (go : Family) → Kinded kinds.Value go → Kinded kinds.Value (λ w. ask w (ToCompare (way_asked y a b)) (λ r. way_answered w y last r (go w)))
pair-row way.Equal last a b go p =
    asking kinds.Truth kinds.Value (ToCompare (DoIdEq a b)) (λ w r. way_answered w way.Equal last r (go w)) tt
    (λ r f. on-truth kinds.Value (λ w equal. cond equal (go w) (ends_with w (not last))) r f (λ equal. one_of kinds.Value equal go (λ w. ends_with w (not last)) p (truth-row (not last))))
pair-row way.Less last a b go p =
    asking kinds.Maybe kinds.Value (ToCompare (DoSeqLt a b)) (λ w r. way_answered w way.Less last r (go w)) tt
    (λ r f. on-maybe kinds.Value (λ w. decided_or w (go w)) r f (λ o. decided-row go o p))
pair-row way.Greater last a b go p =
    asking kinds.Maybe kinds.Value (ToCompare (DoSeqGt a b)) (λ w r. way_answered w way.Greater last r (go w)) tt
    (λ r f. on-maybe kinds.Value (λ w. decided_or w (go w)) r f (λ o. decided-row go o p))

pairs-row : (y : Way) (last : Bool) (ps : List (PyObjectRef × PyObjectRef)) → Kinded kinds.Value (λ w. pairs_in_turn w y last ps)
pairs-row y last [] = truth-row last
pairs-row y last (p ∷ ps) = pair-row y last p.0 p.1 (λ w. pairs_in_turn w y last ps) (pairs-row y last ps)

turns-row : (t : Turns) (ps : List (PyObjectRef × PyObjectRef)) → Kinded kinds.Value (λ w. by_turns w t ps)
turns-row (turn.Each y last) ps = pairs-row y last ps
turns-row (turn.Told b) ps = truth-row b
turns-row turn.Missing ps = ended kinds.Value elsewhere tt

compared-row : (n : CompareNative) (xs ys : List PyObjectRef) → Kinded kinds.Value (λ w. items_compared w n xs ys)
compared-row n xs ys = turns-row (turns_of n (length xs) (length ys)) (zip xs ys)

-- what is said ends, or is the comparison of two that were read
data Compares (n : CompareNative) : Said → Type 0 where
  over : {s : Said} → Says never kinds.Value s → Compares n s
  both : (w : PlainWorld) (xs ys : List PyObjectRef) → Compares n (both_read w n xs ys)

with-items : (n : CompareNative) (said : PlainWorld → Said) → ((w : PlainWorld) → Compares n (said w)) → Kinded kinds.Value (λ w. with_items (said w) (items_compared w n))
with-items n said h = stepped kinds.Value (λ w. with_items (said w) (items_compared w n)) (λ w. at (said w) (h w))
  where
    ended-so : (s : Said) → Says never kinds.Value s → GoesOn (Kinded kinds.Value) kinds.Value (λ w. with_items (said w) (items_compared w n)) s
    ended-so (Ends u r) (ends f) = f
    ended-so (Asks u learnt task) (asks f) = absurd f

    noted : (xs ys : List PyObjectRef) (s : Said) → GoesOn (Kinded kinds.Value) kinds.Value (λ w. items_compared w n xs ys) s → GoesOn (Kinded kinds.Value) kinds.Value (λ w. with_items (said w) (items_compared w n)) (noting (ReadObjects xs) (noting (ReadObjects ys) s))
    noted xs ys (Ends u r) q = q
    noted xs ys (Asks u learnt task) q = q

    at : (s : Said) → Compares n s → GoesOn (Kinded kinds.Value) kinds.Value (λ w. with_items (said w) (items_compared w n)) s
    at s (over p) = ended-so s p
    at s (both w xs ys) = noted xs ys (items_compared w n xs ys []) (goes-on kinds.Value (λ w. items_compared w n xs ys) (compared-row n xs ys) w)

compares-either : {n : CompareNative} {x y : Said} (b : Bool) → Compares n x → Compares n y → Compares n (cond b x y)
compares-either true p q = p
compares-either false p q = q

both-taken : {n : CompareNative} (c : Container) (w : PlainWorld) (args : List PyObjectRef) (kw : Bindings) (go : PyObjectRef → PyObjectRef → Said) → ((o a : PyObjectRef) → Compares n (go o a)) → Compares n (with_own_and c w args kw go)
both-taken c w [] kw go p = over (ends tt)
both-taken c w (o ∷ []) kw go p = compares-either (is_container c (datum_at w o)) (over (ends tt)) (over (ends tt))
both-taken c w (o ∷ (a ∷ [])) [] go p = compares-either (is_container c (datum_at w o)) (p o a) (over (ends tt))
both-taken c w (o ∷ (a ∷ [])) (x ∷ kw) go p = compares-either (is_container c (datum_at w o)) (over (ends tt)) (over (ends tt))
both-taken c w (o ∷ (a ∷ (b ∷ args))) kw go p = compares-either (is_container c (datum_at w o)) (over (ends tt)) (over (ends tt))

same-taken : {n : CompareNative} (c : Container) (w : PlainWorld) (args : List PyObjectRef) (kw : Bindings) (go : PyObjectRef → PyObjectRef → Said) → ((o a : PyObjectRef) → Compares n (go o a)) → Compares n (with_both c w args kw go)
same-taken c w args kw go p = both-taken c w args kw (λ o a. with_same c w a (go o a)) (λ o a. compares-either (is_container c (datum_at w a)) (p o a) (over (ends tt)))

pub sequences-row : (c : Container) (n : CompareNative) (args : List PyObjectRef) (kw : Bindings) → Kinded kinds.Value (λ w. sequences_say c w n args kw)
sequences-row c n args kw = with-items n (λ w. sequences_by c w n args kw) (λ w. same-taken c w args kw (λ o a. both_read w n (items_at w o) (items_at w a)) (λ o a. both w (items_at w o) (items_at w a)))

values-compared : (n : CompareNative) (w : PlainWorld) (differ : Bool) (xs : List PyObjectRef) (ys : Option (List PyObjectRef)) → Compares n (values_compared w n differ xs ys)
values-compared n w differ xs (Some ys) = both w xs ys
values-compared n w differ xs None = over (ends tt)

dicts-equal : (n : CompareNative) (w : PlainWorld) (differ : Bool) (d e : PyObjectRef) → Compares n (dicts_equal w n differ d e)
dicts-equal n w differ d e = compares-either _ (values-compared n w differ _ _) (over (ends tt))

dict-compared : (n : CompareNative) (w : PlainWorld) (d e : PyObjectRef) → Compares n (dict_compared w n d e)
dict-compared compare.Eq w d e = dicts-equal compare.Eq w false d e
dict-compared compare.Ne w d e = dicts-equal compare.Ne w true d e
dict-compared compare.All w d e = over (ends tt)
dict-compared n w d e = over (ends tt)

pub dicts-row : (n : CompareNative) (args : List PyObjectRef) (kw : Bindings) → Kinded kinds.Value (λ w. dicts_say w n args kw)
dicts-row n args kw = with-items n (λ w. dicts_by w n args kw) (λ w. same-taken kind.Dict w args kw (dict_compared w n) (λ d e. dict-compared n w d e))

-- repeats

repeat-of : (w : PlainWorld) (d : Option Datum) (args : List PyObjectRef) (kw : Bindings) → Says (having kinds.Value) kinds.Value (repeat_of w d args kw)
repeat-of w None args kw = ends tt
repeat-of w (Some d) args kw = takes-two w args kw _ (λ o k. asks tt)

repeat-by-name : (w : PlainWorld) (n : NativeEntry) (args : List PyObjectRef) (kw : Bindings) → Says (having kinds.Value) kinds.Value (repeat_by_name w n args kw)
repeat-by-name w n [] kw = ends tt
repeat-by-name w n (o ∷ args) kw = repeat-of w (sequence_for n (datum_at w o)) (o ∷ args) kw

list-stood : (w : PlainWorld) (n : NativeEntry) (o : PyObjectRef) (rs : List PyObjectRef) (z : ℤ) (d : Option Datum) → Says never kinds.Value (list_stood w n o rs z d)
list-stood w n o rs z (Some (AList now)) = times-said w z rs (list_repeated w n o) (λ ys. list-said w n o ys)
list-stood w n o rs z d = ends tt

repeat-stood : (w : PlainWorld) (n : NativeEntry) (o : PyObjectRef) (rs : List PyObjectRef) (z : ℤ) → Says never kinds.Value (repeat_stood w n o rs z)
repeat-stood w (OfList n) o rs z = list-stood w (OfList n) o rs z (datum_at w o)
repeat-stood w n o rs z = native-repeated w n o z

repeat-rest : (n : NativeEntry) (rs : List PyObjectRef) (r : Ended) → Fits kinds.Value r → Kinded kinds.Value (λ w. repeat_rest w n rs r)
repeat-rest n [] r f = ended kinds.Value r f
repeat-rest n (o ∷ rs) r f = finished kinds.Value (λ w. on_count w r (λ z. as_said (repeat_stood w n o rs z))) (λ w. count-said w r (λ z. as_said (repeat_stood w n o rs z)) f (λ z. repeat-stood w n o rs z))

pub repeat-row : (k : Option Repeated) (args : List PyObjectRef) (kw : Bindings) → Kinded kinds.Value (λ w. repeat_by_kind w k args kw)
repeat-row None args kw = ended kinds.Value elsewhere tt
repeat-row (Some k) args kw = read-row kinds.Value kinds.Value (λ w. repeat_by_name w (entry_of k) args kw) (λ w. repeat_rest w (entry_of k)) (λ w. repeat-by-name w (entry_of k) args kw) (λ rs r f. repeat-rest (entry_of k) rs r f)

-- details

abstract-of : (fs : List PyObjectRef) (go : PlainWorld → PyObjectRef → Row) → ((v : PyObjectRef) → Kinded kinds.Value (λ w. go w v)) → Kinded kinds.Value (λ w. abstract_of w fs (go w))
abstract-of [] go p = p (truth false)
abstract-of (f ∷ fs) go p = asking kinds.Value kinds.Value (ToAttribute (DoGetAttr f (known_text known.Isabstractmethod))) (λ w r. go w (or_false r)) tt (λ r h. p (or_false r))

not-abstract : (r : Ended) → Fits kinds.Value r → Kinded kinds.Value (λ w. or_not_abstract w r)
not-abstract (Err x) f = ended kinds.Value (value (truth false)) tt
not-abstract (Ok a) f = ended kinds.Value (Ok a) f

abstract-row : (getters setters : PlainWorld → List PyObjectRef) → Kinded kinds.Value (λ w. abstract_by w (getters w) (setters w))
abstract-row getters setters =
    read_objects_once kinds.Value getters (λ w gs. abstract_of w gs (λ x. read_objects (setters w) (λ ss. abstract_of w ss (λ s. joined w s x))))
    (λ gs. abstract-of gs (λ w x. read_objects (setters w) (λ ss. abstract_of w ss (λ s. joined w s x)))
    (λ x. read_objects_once kinds.Value setters (λ w ss. abstract_of w ss (λ s. joined w s x))
    (λ ss. abstract-of ss (λ w s. joined w s x)
    (λ s. asking kinds.Value kinds.Value (ToOperator (DoBinary Or s x)) (λ w. or_not_abstract w) tt (λ r f. not-abstract r f)))))

abstract-tested : (w : PlainWorld) (args : List PyObjectRef) (kw : Bindings) → (with_own property_in w args (λ o p. with_one w args kw (λ a. abstract_by w (listed p.fget) (listed p.fset) [])) ≡ is_abstract w (argument args 0) []) ⊎ Says never kinds.Value (with_own property_in w args (λ o p. with_one w args kw (λ a. abstract_by w (listed p.fget) (listed p.fset) [])))
abstract-tested w [] kw = inr (ends tt)
abstract-tested w (o ∷ []) [] = alone (datum_at w o)
  where
    alone : (d : Option Datum) → (there_or w SelfType (property_in d) (λ p. abstract_by w (listed p.fget) (listed p.fset) []) ≡ abstract_by w (getter_at d) (setter_at d) []) ⊎ Says never kinds.Value (there_or w SelfType (property_in d) (λ p. abstract_by w (listed p.fget) (listed p.fset) []))
    alone (Some (AProperty p)) = inl refl
    alone d = inr (ends tt)
abstract-tested w (o ∷ []) (x ∷ kw) = inr (there-or w SelfType (property_in (datum_at w o)) _ (λ p. ends tt))
abstract-tested w (o ∷ (a ∷ args)) kw = inr (there-or w SelfType (property_in (datum_at w o)) _ (λ p. ends tt))

pub property-abstract : (args : List PyObjectRef) (kw : Bindings) → Kinded kinds.Value (λ w. property_abstract w args kw)
property-abstract args kw =
    tested-row kinds.Value (λ w. with_own property_in w args (λ o p. with_one w args kw (λ a. abstract_by w (listed p.fget) (listed p.fset) []))) (λ w. is_abstract w (argument args 0))
    (abstract-row (λ w. getter_at (datum_at w (argument args 0))) (λ w. setter_at (datum_at w (argument args 0)))) (λ w. abstract-tested w args kw)

name-known : (w : PlainWorld) (m : PyObjectRef) (c : ℕ) (x : Option Text) → Says (having kinds.Value) kinds.Value (name_known w m c x)
name-known w m c (Some x) = text-given w (in_length x)
name-known w m c None = asks tt

named-so : (w : PlainWorld) (m : PyObjectRef) (d : Datum) (y : Result Text Fault) → Says (at_once kinds.Value) kinds.Value (named_so w m d y)
named-so w m d (Err x) = ends tt
named-so w m d (Ok y) = text-given (with_datum w m (named_datum y d)) (Ok y)

named-by : (w : PlainWorld) (m : PyObjectRef) (d : Option Datum) (q : PyObjectRef) → Says (at_once kinds.Value) kinds.Value (named_by w m d q)
named-by w m (Some (AMember c x k get set qualname doc)) q = named-so w m (AMember c x k get set qualname doc) (dotted x (datum_at w q))
named-by w m d q = ends tt

name-given : (m : PyObjectRef) (r : Ended) → Fits kinds.Value r → Kinded kinds.Value (λ w. name_given w m r)
name-given m (Err x) f = ended kinds.Value (cond (is_attribute_error x.kind) (value none) (Err x)) (either-fits kinds.Value (is_attribute_error x.kind) (value none) (Err x) tt tt)
name-given m (Ok (AsValue q)) f = passed kinds.Value (λ w. named_by w m (datum_at w m) q) (λ w. named-by w m (datum_at w m) q)
name-given m (Ok a) f = absurd f

name-rest : (rs : List PyObjectRef) (r : Ended) → Fits kinds.Value r → Kinded kinds.Value (λ w. name_rest w rs r)
name-rest (m ∷ []) r f = name-given m r f
name-rest rs r f = ended kinds.Value r f

pub member-qualname : (args : List PyObjectRef) (kw : Bindings) → Kinded kinds.Value (λ w. member_qualname w args kw)
member-qualname args kw =
    read-row kinds.Value kinds.Value (λ w. member_name w args kw) (λ w. name_rest w)
    (λ w. takes-own kept_name w args _ (λ m c. takes-one w args kw _ (λ a. name-known w m c.0 c.1))) (λ rs r f. name-rest rs r f)
