-- What the rows of iterations say: their beginning, their next item, all items, and what is asked of each item.
use Rattle.proto_object.specs.Below.{ℕ, zero, suc, pos, Bool, true, false, cond, is_some, [], Option, Some, None, Result, Ok, Err, PyObjectRef, IndexRange, NotFound, NotIterable, NotIterator, Kind, StopIteration, Iter, Iternext, SeqItem, SeqContains, SlotEntry, Native, PlainWorld, DoIsTrue, DoGetIter, ToProtocol, AsExhausted, Ended, Chose, Said, Asks, Ends, Row, start, fork, ask, pass, end, value, fault, fits_index, on_value, slot_at, iterator_made, items_at, truth_of, says, number, objects, all_items, each_equal, entered, is_plain}
use Rattle.std.specs.Prelude.{◌+◌, ◌∷◌}
use Rattle.py_node.specs.declared.known.Known.TheVariants as known

-- an iteration begins with what the object's class says of it, which must have a next item, or else goes over the object's items by their places
abbrev pub get_iter_by : PlainWorld → Option SlotEntry → Bool → PyObjectRef → Said
get_iter_by w (Some e) seq o = pass w (entered e known.Iter o [])
get_iter_by w None true o = iterator_made w o
get_iter_by w None false o = Ends w (fault NotIterable)

abbrev pub iterator_only : PlainWorld → PyObjectRef → Row
iterator_only w it = end w (cond (is_some (slot_at w it Iternext)) (value it) (fault NotIterator))

abbrev pub get_iter_say : PlainWorld → PyObjectRef → Row
get_iter_say w o = start (get_iter_by w (slot_at w o Iter) (is_some (slot_at w o SeqItem)) o) (λ r. on_value w r (iterator_only w))

-- the next item. StopIteration is the end of the iteration
abbrev pub next_by : PlainWorld → Option SlotEntry → PyObjectRef → Said
next_by w None o = Ends w (fault NotIterator)
next_by w (Some e) o = pass w (entered e known.Next o [])

abbrev pub is_stop : Kind → Bool
is_stop StopIteration = true
is_stop _ = false

abbrev pub next_rest : PlainWorld → Ended → Row
next_rest w (Ok a) = end w (Ok a)
next_rest w (Err x) = end w (cond (is_stop x.kind) (Ok AsExhausted) (Err x))

abbrev pub next_say : PlainWorld → PyObjectRef → Row
next_say w o = start (next_by w (slot_at w o Iternext) o) (next_rest w)

abbrev pub collect_by : PlainWorld → Bool → PyObjectRef → Said
collect_by w true o = Ends w (objects (items_at w o))
collect_by w false o = pass w (ToProtocol (DoGetIter o))

abbrev pub collect_say : PlainWorld → PyObjectRef → Row
collect_say w o =
    start (collect_by w (is_plain w o) o) (λ r. on_value w r (λ it. all_items w it [] (λ rs. end w (objects rs))))

-- whether something is contained is said by the class, or else the items are asked in order
abbrev pub contains_by : PlainWorld → Option SlotEntry → PyObjectRef → PyObjectRef → Said
contains_by w None o x = Asks w (Chose 2 ∷ []) (ToProtocol (DoGetIter o))
contains_by w (Some (Native n)) o x = Asks w (Chose 0 ∷ []) (entered (Native n) known.Contains o (x ∷ []))
contains_by w (Some e) o x = Asks w (Chose 1 ∷ []) (entered e known.Contains o (x ∷ []))

-- a native answers True or False
abbrev pub as_truth : Option Bool → PyObjectRef → Ended
as_truth (Some b) r = says b
as_truth None r = value r

abbrev pub until_true : ℕ → Bool → Result ℕ Ended
until_true n b = cond b (Err (says true)) (Ok n)

abbrev pub contains_rest : PlainWorld → PyObjectRef → ℕ → Ended → Row
contains_rest w x zero r = on_value w r (λ v. end w (as_truth (truth_of v) v))
contains_rest w x (suc zero) r = on_value w r (λ v. start (pass w (ToProtocol (DoIsTrue v))) (end w))
contains_rest w x (suc (suc n)) r = on_value w r (λ it. each_equal w it x until_true (λ m. says false) 0)

abbrev pub contains_say : PlainWorld → PyObjectRef → PyObjectRef → Row
contains_say w o x = fork (contains_by w (slot_at w o SeqContains) o x) (contains_rest w x)

-- a number of items, which may be too great to be told
abbrev pub counted : ℕ → Ended
counted n = cond (fits_index (pos n)) (number (pos n)) (fault IndexRange)

-- how many items are equal to an object
abbrev pub one_more : ℕ → Bool → Result ℕ Ended
one_more n b = Ok (cond b (n + 1) n)

abbrev pub count_say : PlainWorld → PyObjectRef → PyObjectRef → Row
count_say w o x =
    ask w (ToProtocol (DoGetIter o)) (λ r. on_value w r (λ it. each_equal w it x one_more counted 0))

-- where the first item stands that is equal to an object
abbrev pub until_found : ℕ → Bool → Result ℕ Ended
until_found n b = cond b (Err (counted n)) (Ok (n + 1))

abbrev pub find_say : PlainWorld → PyObjectRef → PyObjectRef → Row
find_say w o x =
    ask w (ToProtocol (DoGetIter o)) (λ r. on_value w r (λ it. each_equal w it x until_found (λ n. fault NotFound) 0))
