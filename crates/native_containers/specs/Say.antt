-- What the natives of tuples, lists, dicts and iterators say that ask no task.
use Rattle.native_containers.specs.Below.{pos, cond, nat_le, is_some, length, fold, List, [], Option, Some, None, PyObjectRef, ArgCount, ConcatType, MissingKey, TooLong, TupleNative, ListNative, DictNative, IteratorNative, value_of, Entries, has_place, is_like, with_entry, with_entries, with_value_in, without_value_for, the_list, with_datum, AList, PlainWorld, Bindings, Ended, Said, Ends, value, none, truth, most_items, fault, elsewhere, datum_at, with_node, next_node, number_told, iterator_made, Kind, is_of, items_at, entries_at, tuple_made, list_made, keys_of, values_of, pairs_made}
use Rattle.std.specs.Prelude.{◌∷◌, ◌++◌}
use Rattle.py_node.specs.declared.entry.TupleNative.TheVariants as tuple
use Rattle.py_node.specs.declared.entry.ListNative.TheVariants as list
use Rattle.py_node.specs.declared.entry.DictNative.TheVariants as dict
use Rattle.py_node.specs.declared.entry.IteratorNative.TheVariants as iterator
use Rattle.row_kit.specs.declared.take_containers.Kind.TheVariants as kind
use Rattle.native_containers.specs.Take.{with_kind, with_own, with_lone, with_own_and, with_own_and_two, with_key, with_dict_and_key, with_default}

-- a container of more items than most would be too long
abbrev pub unless_long : {A : Type 0} → PlainWorld → List A → Said → Said
unless_long w xs go = cond (nat_le (length xs) most_items) go (Ends w (fault TooLong))

-- how many there are
abbrev pub counted : {A : Type 0} → PlainWorld → List A → Said
counted w xs = number_told w (pos (length xs))

-- tuples and lists

-- only objects of one kind are joined
abbrev pub with_like : Kind → PlainWorld → PyObjectRef → Said → Said
with_like k w a go = cond (is_of k (datum_at w a)) go (Ends w (fault ConcatType))

-- the items of two objects of a kind, those of the second after those of the first
abbrev pub with_joined : Kind → PlainWorld → List PyObjectRef → Bindings → (List PyObjectRef → Said) → Said
with_joined k w args kw go =
    with_own_and k w args kw (λ o a. with_like k w a (unless_long w (items_at w o ++ items_at w a) (go (items_at w o ++ items_at w a))))

abbrev pub tuple_say : PlainWorld → TupleNative → List PyObjectRef → Bindings → Said
tuple_say w tuple.Length args kw = with_lone kind.Tuple w args kw (λ o. counted w (items_at w o))
tuple_say w tuple.Iter args kw = with_lone kind.Tuple w args kw (iterator_made w)
tuple_say w tuple.Add args kw = with_joined kind.Tuple w args kw (tuple_made w)
tuple_say w _ args kw = Ends w elsewhere

-- a list with other items
abbrev pub list_changed : PlainWorld → PyObjectRef → List PyObjectRef → Said
list_changed w o rs = unless_long w rs (Ends (with_datum w o (AList rs)) (value none))

abbrev pub list_say : PlainWorld → ListNative → List PyObjectRef → Bindings → Said
list_say w list.Length args kw = with_lone kind.List w args kw (λ o. counted w (items_at w o))
list_say w list.Iter args kw = with_lone kind.List w args kw (iterator_made w)
list_say w list.Add args kw = with_joined kind.List w args kw (list_made w)
list_say w list.Append args kw = with_own_and kind.List w args kw (λ o a. list_changed w o (items_at w o ++ a ∷ []))
list_say w _ args kw = Ends w elsewhere

-- dicts

-- the value that a dict has under a key
abbrev pub value_under : PlainWorld → PyObjectRef → PyObjectRef → Option PyObjectRef
value_under w d k = value_of (is_like w k) (entries_at w d)

-- ends with an object, or else so
abbrev pub given_or : PlainWorld → Option PyObjectRef → Ended → Said
given_or w (Some v) other = Ends w (value v)
given_or w None other = Ends w other

-- a dict with other entries
abbrev pub dict_changed : PlainWorld → PyObjectRef → Entries → (PlainWorld → Said) → Said
dict_changed w d es go = unless_long w es (go (with_entries w d es))

abbrev pub ends_none : PlainWorld → Said
ends_none w = Ends w (value none)

-- the key that is there is taken out, with its value
abbrev pub key_taken : PlainWorld → PyObjectRef → PyObjectRef → Option PyObjectRef → Said
key_taken w d k (Some old) = ends_none (with_entries w d (without_value_for (is_like w k) (entries_at w d)))
key_taken w d k None = Ends w (fault MissingKey)

-- an iterator over a new list
abbrev pub list_iterated : PlainWorld → List PyObjectRef → Said
list_iterated w rs = iterator_made (with_node w the_list (AList rs)) (next_node w the_list)

-- each key of another dict gets its value there
abbrev pub dict_updated : PlainWorld → PyObjectRef → PyObjectRef → (PlainWorld → Said) → Said
dict_updated w d o go =
    with_kind kind.Dict w o (dict_changed w d (fold (with_entry w) (entries_at w d) (entries_at w o)) go)

-- each keyword is set in a dict, one after another. One that is no key there gets a new text
abbrev pub names_set : PlainWorld → PyObjectRef → Bindings → Said
names_set w d [] = ends_none w
names_set w d (b ∷ bs) = cond (has_place w d b.0) (names_set (with_value_in w d b.0 b.1) d bs) (Ends w (fault TooLong))

-- from another dict, if there is one, and then from keywords
abbrev pub dict_filled : PlainWorld → PyObjectRef → List PyObjectRef → Bindings → Said
dict_filled w d (a ∷ []) kw = names_set w d kw
dict_filled w d (a ∷ o ∷ []) kw = dict_updated w d o (λ u. names_set u d kw)
dict_filled w d _ kw = Ends w (fault ArgCount)

abbrev pub dict_say : PlainWorld → DictNative → List PyObjectRef → Bindings → Said
dict_say w dict.Init args kw = with_own kind.Dict w args (λ d. dict_filled w d args kw)
dict_say w dict.Repr args kw = Ends w elsewhere
dict_say w dict.Length args kw = with_lone kind.Dict w args kw (λ d. counted w (entries_at w d))
dict_say w dict.GetItem args kw = with_dict_and_key w args kw (λ d k. given_or w (value_under w d k) (fault MissingKey))
dict_say w dict.SetItem args kw =
    with_own_and_two kind.Dict w args kw (λ d k v. with_key w k (dict_changed w d (with_entry w (entries_at w d) (k, v)) ends_none))
dict_say w dict.DelItem args kw = with_dict_and_key w args kw (λ d k. key_taken w d k (value_under w d k))
dict_say w dict.Contains args kw = with_dict_and_key w args kw (λ d k. Ends w (value (truth (is_some (value_under w d k)))))
dict_say w dict.Iter args kw = with_lone kind.Dict w args kw (λ d. list_iterated w (keys_of (entries_at w d)))
dict_say w dict.Keys args kw = with_lone kind.Dict w args kw (λ d. list_made w (keys_of (entries_at w d)))
dict_say w dict.Values args kw = with_lone kind.Dict w args kw (λ d. list_made w (values_of (entries_at w d)))
dict_say w dict.Items args kw = with_lone kind.Dict w args kw (λ d. pairs_made w [] (entries_at w d))
dict_say w dict.Get args kw =
    with_own kind.Dict w args (λ d. with_default w args kw (λ k v. with_key w k (given_or w (value_under w d k) (value v))))
dict_say w dict.Update args kw = with_own_and kind.Dict w args kw (λ d o. dict_updated w d o ends_none)

-- iterators

abbrev pub iterator_say : PlainWorld → IteratorNative → List PyObjectRef → Bindings → Said
iterator_say w iterator.Iter args kw = with_lone kind.Iterator w args kw (λ o. Ends w (value o))
iterator_say w iterator.Next args kw = Ends w elsewhere
