-- What the comparisons of tuples, lists and dicts say, which ask those of their items. Both are read at the start.
use Rattle.native_containers.specs.Below.{ℕ, Bool, true, false, cond, not, length, nat_le, nat_lt, List, [], zip, Option, Some, None, option_map, option_and_then, PyObjectRef, CompareNative, PlainWorld, Bindings, CompareJob, DoIdEq, DoSeqLt, DoSeqGt, ToCompare, ReadObjects, Ended, Said, Ends, datum_at, Row, ask, end, value, truth, not_implemented, elsewhere, on_truth, on_maybe, read_objects, Kind, is_of, items_at, entries_at, keys_of, values_of}
use Rattle.std.specs.Prelude.{◌==◌, ◌∷◌}
use Rattle.py_node.specs.declared.entry.CompareNative.TheVariants as compare
use Rattle.row_kit.specs.declared.take_containers.Kind.TheVariants as kind
use Rattle.native_containers.specs.Take.{with_own_and}
use Rattle.native_containers.specs.Say.{value_under}
use Rattle.native_containers.specs.declared.native_compare.way.Way.{Way}
use Rattle.native_containers.specs.declared.native_compare.way.Way.TheVariants.{Equal, Less, Greater}
use Rattle.native_containers.specs.declared.native_compare.way.Turns.{Turns}
use Rattle.native_containers.specs.declared.native_compare.way.Turns.TheVariants.{Each, Told, Missing}

abbrev pub Objects : Type 0
Objects = List PyObjectRef

-- the items of two sequences that stand in the same place
abbrev pub Pairs : Type 0
Pairs = List (PyObjectRef × PyObjectRef)

abbrev pub ends_with : PlainWorld → Bool → Row
ends_with w b = end w (value (truth b))

-- what two items are asked
abbrev pub asked : Way → PyObjectRef → PyObjectRef → CompareJob
asked Equal x y = DoIdEq x y
asked Less x y = DoSeqLt x y
asked Greater x y = DoSeqGt x y

-- ends with what decides, if anything does
abbrev pub decided_or : PlainWorld → Row → Option PyObjectRef → Row
decided_or w go (Some b) = end w (value b)
decided_or w go None = go

-- two items that are not equal end a comparison that gives this at last. Else it goes on
abbrev pub answered : PlainWorld → Way → Bool → Ended → Row → Row
answered w Equal last r go = on_truth w r (λ equal. cond equal go (ends_with w (not last)))
answered w way last r go = on_maybe w r (decided_or w go)

-- items are asked in turn, and where none decide this is given
abbrev pub in_turn : PlainWorld → Way → Bool → Pairs → Row
in_turn w way last [] = ends_with w last
in_turn w way last (p ∷ ps) = ask w (ToCompare (asked way p.0 p.1)) (λ r. answered w way last r (in_turn w way last ps))

-- how sequences of so many items are compared. Only those of one length can be equal; of two that have the same items as long as both go on, the shorter one is less
abbrev pub turns_of : CompareNative → ℕ → ℕ → Turns
turns_of compare.Eq n m = cond (n == m) (Each Equal true) (Told false)
turns_of compare.Ne n m = cond (n == m) (Each Equal false) (Told true)
turns_of compare.Lt n m = Each Less (nat_lt n m)
turns_of compare.Le n m = Each Less (nat_le n m)
turns_of compare.Ge n m = Each Greater (nat_le m n)
turns_of compare.Gt n m = Each Greater (nat_lt m n)
turns_of compare.All n m = Missing

abbrev pub by_turns : PlainWorld → Turns → Pairs → Row
by_turns w (Each way last) ps = in_turn w way last ps
by_turns w (Told b) ps = ends_with w b
by_turns w Missing ps = end w elsewhere

-- a comparison of two sequences of items
abbrev pub items_compared : PlainWorld → CompareNative → Objects → Objects → Row
items_compared w n xs ys = by_turns w (turns_of n (length xs) (length ys)) (zip xs ys)

-- does this, and goes on with the objects of two that were read
abbrev pub with_items : Said → (Objects → Objects → Row) → Row
with_items said go (ReadObjects xs ∷ (ReadObjects ys ∷ more)) = go xs ys more
with_items said go _ = said

abbrev pub both_read : PlainWorld → CompareNative → Objects → Objects → Said
both_read w n xs ys = read_objects xs (λ xs. read_objects ys (items_compared w n xs)) []

-- of an object of another kind nothing is said
abbrev pub with_same : Kind → PlainWorld → PyObjectRef → Said → Said
with_same k w a go = cond (is_of k (datum_at w a)) go (Ends w (value not_implemented))

-- two objects of a kind
abbrev pub with_both : Kind → PlainWorld → Objects → Bindings → (PyObjectRef → PyObjectRef → Said) → Said
with_both k w args kw go = with_own_and k w args kw (λ o a. with_same k w a (go o a))

abbrev pub sequences_by : Kind → PlainWorld → CompareNative → Objects → Bindings → Said
sequences_by k w n args kw = with_both k w args kw (λ o a. both_read w n (items_at w o) (items_at w a))

abbrev pub sequences_say : Kind → PlainWorld → CompareNative → Objects → Bindings → Row
sequences_say k w n args kw = with_items (sequences_by k w n args kw) (items_compared w n)

-- the values that a dict has under some keys, unless it lacks one
abbrev pub values_under : PlainWorld → PyObjectRef → Objects → Option Objects
values_under w d [] = Some []
values_under w d (k ∷ ks) = option_and_then (λ v. option_map (λ vs. v ∷ vs) (values_under w d ks)) (value_under w d k)

-- dicts of the same keys are equal where their values are, in the order of the first
abbrev pub values_compared : PlainWorld → CompareNative → Bool → Objects → Option Objects → Said
values_compared w n differ xs (Some ys) = both_read w n xs ys
values_compared w n differ xs None = Ends w (value (truth differ))

abbrev pub dicts_equal : PlainWorld → CompareNative → Bool → PyObjectRef → PyObjectRef → Said
dicts_equal w n differ d e =
    cond (length (entries_at w d) == length (entries_at w e))
    (values_compared w n differ (values_of (entries_at w d)) (values_under w e (keys_of (entries_at w d))))
    (Ends w (value (truth differ)))

-- dicts have no order
abbrev pub dict_compared : PlainWorld → CompareNative → PyObjectRef → PyObjectRef → Said
dict_compared w compare.Eq d e = dicts_equal w compare.Eq false d e
dict_compared w compare.Ne d e = dicts_equal w compare.Ne true d e
dict_compared w compare.All d e = Ends w elsewhere
dict_compared w n d e = Ends w (value not_implemented)

abbrev pub dicts_by : PlainWorld → CompareNative → Objects → Bindings → Said
dicts_by w n args kw = with_both kind.Dict w args kw (dict_compared w n)

abbrev pub dicts_say : PlainWorld → CompareNative → Objects → Bindings → Row
dicts_say w n args kw = with_items (dicts_by w n args kw) (items_compared w n)
