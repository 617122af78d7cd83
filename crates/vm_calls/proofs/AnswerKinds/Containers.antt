-- The natives of containers that end at once answer of their kinds.
use Rattle.vm_calls.proofs.Below.{Bool, List, None, Option, Some, false, fold, is_some, length, nat_le, true, [], PyObjectRef, MissingKey, TupleNative, ListNative, DictNative, IteratorNative, OfTuple, OfList, OfDict, unless_long, with_like, with_joined, tuple_say, list_changed, list_say, value_under, dict_changed, ends_none, key_taken, dict_updated, names_set, dict_filled, iterator_say, with_lone, with_own_and, with_own_and_two, with_key, with_dict_and_key, with_default, items_at, entries_at, Kind, kind_of_native, keys_of, values_of, pairs_made, ATuple, AList, Bindings, PlainWorld, Ended, Told, Said, datum_at, with_node, next_node, the_tuple, the_list, value, none, fault, most_items, truth, Entries, has_place, with_entries, with_value_in, with_entry, with_one, with_two, with_three, key_at}
use Rattle.std.proofs.Common.{◌++◌, ◌==◌, ◌∷◌}
use Rattle.py_node.specs.declared.entry.TupleNative.TheVariants as tuple
use Rattle.py_node.specs.declared.entry.ListNative.TheVariants as list
use Rattle.py_node.specs.declared.entry.DictNative.TheVariants as dict
use Rattle.py_node.specs.declared.entry.IteratorNative.TheVariants as iterator
use Rattle.row_kit.specs.declared.take_containers.Kind.{Kind as Container}
use Rattle.row_kit.specs.declared.take_containers.Kind.TheVariants as kind
use Rattle.native_containers.specs.Say.{given_or as value_or, dict_say}
use Rattle.native_containers.specs.Take.{with_own as with_container, with_kind}
use Rattle.row_kit.specs.TakeContainers.{is_of as is_container}
use Rattle.vm_calls.specs.AnswerKinds.Kinds as kinds
use Rattle.vm_calls.proofs.AnswerKinds.Base.{Fits, Says, ends}
use Rattle.vm_calls.proofs.AnswerKinds.Said.{either, takes-one, takes-two, takes-three}
use Rattle.vm_calls.proofs.AnswerKinds.Gives.{object-given, iterator-given}

kind-taken : {q : Told → Kind → Bool} {k : Kind} (c : Container) (w : PlainWorld) (o : PyObjectRef) (go : Said) → Says q k go → Says q k (with_kind c w o go)
kind-taken c w o go p = either (is_container c (datum_at w o)) p (ends tt)

pub container-taken : {q : Told → Kind → Bool} {k : Kind} (c : Container) (w : PlainWorld) (args : List PyObjectRef) (go : PyObjectRef → Said) → ((o : PyObjectRef) → Says q k (go o)) → Says q k (with_container c w args go)
container-taken c w [] go p = ends tt
container-taken c w (o ∷ args) go p = kind-taken c w o (go o) (p o)

pub lone-taken : {q : Told → Kind → Bool} {k : Kind} (c : Container) (w : PlainWorld) (args : List PyObjectRef) (kw : Bindings) (go : PyObjectRef → Said) → ((o : PyObjectRef) → Says q k (go o)) → Says q k (with_lone c w args kw go)
lone-taken c w args kw go p = container-taken c w args (λ o. with_one w args kw (λ a. go o)) (λ o. takes-one w args kw (λ a. go o) (λ a. p o))

pub own-and-taken : {q : Told → Kind → Bool} {k : Kind} (c : Container) (w : PlainWorld) (args : List PyObjectRef) (kw : Bindings) (go : PyObjectRef → PyObjectRef → Said) → ((o a : PyObjectRef) → Says q k (go o a)) → Says q k (with_own_and c w args kw go)
own-and-taken c w args kw go p = container-taken c w args (λ o. with_two w args kw (λ a b. go o b)) (λ o. takes-two w args kw (λ a b. go o b) (λ a b. p o b))

pub own-and-two-taken : {q : Told → Kind → Bool} {k : Kind} (c : Container) (w : PlainWorld) (args : List PyObjectRef) (kw : Bindings) (go : PyObjectRef → PyObjectRef → PyObjectRef → Said) → ((o a b : PyObjectRef) → Says q k (go o a b)) → Says q k (with_own_and_two c w args kw go)
own-and-two-taken c w args kw go p = container-taken c w args (λ o. with_three w args kw (λ a b d. go o b d)) (λ o. takes-three w args kw (λ a b d. go o b d) (λ a b d. p o b d))

key-taken : {q : Told → Kind → Bool} {k : Kind} (w : PlainWorld) (r : PyObjectRef) (go : Said) → Says q k go → Says q k (with_key w r go)
key-taken w r go p = either (is_some (key_at w r)) p (ends tt)

dict-and-key : {q : Told → Kind → Bool} {k : Kind} (w : PlainWorld) (args : List PyObjectRef) (kw : Bindings) (go : PyObjectRef → PyObjectRef → Said) → ((d r : PyObjectRef) → Says q k (go d r)) → Says q k (with_dict_and_key w args kw go)
dict-and-key w args kw go p = own-and-taken kind.Dict w args kw (λ d r. with_key w r (go d r)) (λ d r. key-taken w r (go d r) (p d r))

pub unless-long : {A : Type 0} {q : Told → Kind → Bool} {k : Kind} (w : PlainWorld) (xs : List A) (go : Said) → Says q k go → Says q k (unless_long w xs go)
unless-long w xs go p = either (nat_le (length xs) most_items) p (ends tt)

joined-taken : {q : Told → Kind → Bool} {k : Kind} (c : Container) (w : PlainWorld) (args : List PyObjectRef) (kw : Bindings) (go : List PyObjectRef → Said) → ((rs : List PyObjectRef) → Says q k (go rs)) → Says q k (with_joined c w args kw go)
joined-taken c w args kw go p =
    own-and-taken c w args kw (λ o a. with_like c w a (unless_long w (items_at w o ++ items_at w a) (go (items_at w o ++ items_at w a))))
    (λ o a. either (is_container c (datum_at w a)) (unless-long w (items_at w o ++ items_at w a) (go (items_at w o ++ items_at w a)) (p (items_at w o ++ items_at w a))) (ends tt))

pub tuple-native : {q : Told → Kind → Bool} (w : PlainWorld) (n : TupleNative) (args : List PyObjectRef) (kw : Bindings) → Says q (kind_of_native (OfTuple n)) (tuple_say w n args kw)
unfolding kind_of_native
tuple-native w tuple.Length args kw = lone-taken kind.Tuple w args kw _ (λ o. ends tt)
tuple-native w tuple.Iter args kw = lone-taken kind.Tuple w args kw _ (λ o. iterator-given w o)
tuple-native w tuple.Add args kw = joined-taken kind.Tuple w args kw _ (λ rs. object-given w the_tuple (ATuple rs))
tuple-native w n args kw = ends tt

pub list-changed : {q : Told → Kind → Bool} (w : PlainWorld) (o : PyObjectRef) (rs : List PyObjectRef) → Says q kinds.Value (list_changed w o rs)
list-changed w o rs = unless-long w rs _ (ends tt)

pub list-native : {q : Told → Kind → Bool} (w : PlainWorld) (n : ListNative) (args : List PyObjectRef) (kw : Bindings) → Says q (kind_of_native (OfList n)) (list_say w n args kw)
unfolding kind_of_native
list-native w list.Length args kw = lone-taken kind.List w args kw _ (λ o. ends tt)
list-native w list.Iter args kw = lone-taken kind.List w args kw _ (λ o. iterator-given w o)
list-native w list.Add args kw = joined-taken kind.List w args kw _ (λ rs. object-given w the_list (AList rs))
list-native w list.Append args kw = own-and-taken kind.List w args kw _ (λ o a. list-changed w o (items_at w o ++ a ∷ []))
list-native w n args kw = ends tt

value-or : {q : Told → Kind → Bool} (w : PlainWorld) (v : Option PyObjectRef) (other : Ended) → Fits kinds.Value other → Says q kinds.Value (value_or w v other)
value-or w (Some v) other h = ends tt
value-or w None other h = ends h

dict-changed : {q : Told → Kind → Bool} (w : PlainWorld) (d : PyObjectRef) (es : Entries) (go : PlainWorld → Said) → ((u : PlainWorld) → Says q kinds.Value (go u)) → Says q kinds.Value (dict_changed w d es go)
dict-changed w d es go p = unless-long w es (go (with_entries w d es)) (p (with_entries w d es))

key-out : {q : Told → Kind → Bool} (w : PlainWorld) (d r : PyObjectRef) (v : Option PyObjectRef) → Says q kinds.Value (key_taken w d r v)
key-out w d r (Some old) = ends tt
key-out w d r None = ends tt

pub pairs-given : {q : Told → Kind → Bool} (w : PlainWorld) (rs : List PyObjectRef) (es : Entries) → Says q kinds.Value (pairs_made w rs es)
pairs-given w rs [] = object-given w the_list (AList rs)
pairs-given w rs (e ∷ es) = pairs-given (with_node w the_tuple (ATuple (e.0 ∷ e.1 ∷ []))) (rs ++ next_node w the_tuple ∷ []) es

updated : {q : Told → Kind → Bool} (w : PlainWorld) (d o : PyObjectRef) (go : PlainWorld → Said) → ((u : PlainWorld) → Says q kinds.Value (go u)) → Says q kinds.Value (dict_updated w d o go)
updated w d o go p = kind-taken kind.Dict w o _ (dict-changed w d (fold (with_entry w) (entries_at w d) (entries_at w o)) go p)

names-set : {q : Told → Kind → Bool} (w : PlainWorld) (d : PyObjectRef) (bs : Bindings) → Says q kinds.Value (names_set w d bs)
names-set w d [] = ends tt
names-set w d (b ∷ bs) = either (has_place w d b.0) (names-set (with_value_in w d b.0 b.1) d bs) (ends tt)

filled : {q : Told → Kind → Bool} (w : PlainWorld) (d : PyObjectRef) (args : List PyObjectRef) (kw : Bindings) → Says q kinds.Value (dict_filled w d args kw)
filled w d (a ∷ []) kw = names-set w d kw
filled w d (a ∷ o ∷ []) kw = updated w d o (λ u. names_set u d kw) (λ u. names-set u d kw)
filled w d args kw = ends tt

default-taken : {q : Told → Kind → Bool} (w : PlainWorld) (args : List PyObjectRef) (kw : Bindings) (go : PyObjectRef → PyObjectRef → Said) → ((r v : PyObjectRef) → Says q kinds.Value (go r v)) → Says q kinds.Value (with_default w args kw go)
default-taken w args kw go p = either (length args == 3) (takes-three w args kw (λ a r v. go r v) (λ a r v. p r v)) (takes-two w args kw (λ a r. go r none) (λ a r. p r none))

truth-fits : (b : Bool) → Fits kinds.TruthValue (value (truth b))
truth-fits true = tt
truth-fits false = tt

pub dict-native : {q : Told → Kind → Bool} (w : PlainWorld) (n : DictNative) (args : List PyObjectRef) (kw : Bindings) → Says q (kind_of_native (OfDict n)) (dict_say w n args kw)
unfolding kind_of_native
dict-native w dict.Init args kw = container-taken kind.Dict w args _ (λ d. filled w d args kw)
dict-native w dict.Repr args kw = ends tt
dict-native w dict.Length args kw = lone-taken kind.Dict w args kw _ (λ d. ends tt)
dict-native w dict.GetItem args kw = dict-and-key w args kw _ (λ d r. value-or w (value_under w d r) (fault MissingKey) tt)
dict-native w dict.SetItem args kw = own-and-two-taken kind.Dict w args kw _ (λ d r v. key-taken w r _ (dict-changed w d (with_entry w (entries_at w d) (r, v)) ends_none (λ u. ends tt)))
dict-native w dict.DelItem args kw = dict-and-key w args kw _ (λ d r. key-out w d r (value_under w d r))
dict-native w dict.Contains args kw = dict-and-key w args kw _ (λ d r. ends (truth-fits (is_some (value_under w d r))))
dict-native w dict.Iter args kw = lone-taken kind.Dict w args kw _ (λ d. iterator-given (with_node w the_list (AList (keys_of (entries_at w d)))) (next_node w the_list))
dict-native w dict.Keys args kw = lone-taken kind.Dict w args kw _ (λ d. object-given w the_list (AList (keys_of (entries_at w d))))
dict-native w dict.Values args kw = lone-taken kind.Dict w args kw _ (λ d. object-given w the_list (AList (values_of (entries_at w d))))
dict-native w dict.Items args kw = lone-taken kind.Dict w args kw _ (λ d. pairs-given w [] (entries_at w d))
dict-native w dict.Get args kw = container-taken kind.Dict w args _ (λ d. default-taken w args kw _ (λ r v. key-taken w r _ (value-or w (value_under w d r) (value v) tt)))
dict-native w dict.Update args kw = own-and-taken kind.Dict w args kw _ (λ d o. updated w d o ends_none (λ u. ends tt))

pub iterator-native : {q : Told → Kind → Bool} (w : PlainWorld) (n : IteratorNative) (args : List PyObjectRef) (kw : Bindings) → Says q kinds.Value (iterator_say w n args kw)
iterator-native w iterator.Iter args kw = lone-taken kind.Iterator w args kw _ (λ o. ends tt)
iterator-native w iterator.Next args kw = ends tt
