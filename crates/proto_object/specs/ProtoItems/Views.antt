-- What the rows of a mapping's keys, values and items say.
use Rattle.proto_object.specs.Below.{Bool, true, false, cond, [], Option, Some, None, Ok, Err, PyObjectRef, NonIterableMethod, Known, known_text, Entries, the_list, the_dict, AList, PlainWorld, DoLoadMethod, DoInvoke, DoGetIter, ToAttribute, ToProtocol, AsFunction, AsAttribute, Ended, Said, Ends, Row, start, ask, pass, end, value, fault, on_value, make, entries_at, list_made, pairs_made, keys_of, values_of, all_items, is_exactly}
use Rattle.py_node.specs.declared.known.Known.TheVariants as known

-- a method that was loaded: the object that goes before its arguments, if any, and what is called
abbrev pub on_method : PlainWorld → Ended → (Option PyObjectRef → PyObjectRef → Row) → Row
on_method w (Ok (AsFunction o f)) go = go (Some o) f
on_method w (Ok (AsAttribute f)) go = go None f
on_method w other go = end w other

-- goes on with an iterator. Whatever fault there was, a method gave no iterable
abbrev pub on_iterable : PlainWorld → Ended → (PyObjectRef → Row) → Row
on_iterable w (Err x) go = end w (fault NonIterableMethod)
on_iterable w r go = on_value w r go

-- what the method gave, where that is a list; else a new list of its items
abbrev pub listed_by : PlainWorld → PyObjectRef → Said
listed_by w r = cond (is_exactly w r the_list) (Ends w (value r)) (pass w (ToProtocol (DoGetIter r)))

abbrev pub listed : PlainWorld → PyObjectRef → Row
listed w r = start (listed_by w r) (λ s. on_iterable w s (λ it. all_items w it [] (λ rs. make w the_list (AList rs))))

-- a dict is listed at once, and another object by its method of the name
abbrev pub view_by : PlainWorld → Bool → Known → (Entries → Said) → PyObjectRef → Said
view_by w true x made o = made (entries_at w o)
view_by w false x made o = pass w (ToAttribute (DoLoadMethod o (known_text x)))

abbrev pub view_say : PlainWorld → Known → (Entries → Said) → PyObjectRef → Row
view_say w x made o =
    start (view_by w (is_exactly w o the_dict) x made o) (λ r. on_method w r (λ target f.
    ask w (ToAttribute (DoInvoke target f [] [])) (λ s. on_value w s (listed w))))

abbrev pub keys_say : PlainWorld → PyObjectRef → Row
keys_say w o = view_say w known.Keys (λ es. list_made w (keys_of es)) o

abbrev pub values_say : PlainWorld → PyObjectRef → Row
values_say w o = view_say w known.Values (λ es. list_made w (values_of es)) o

abbrev pub items_say : PlainWorld → PyObjectRef → Row
items_say w o = view_say w known.Items (pairs_made w []) o
