-- What the native says that gives the next item of an iterator.
use Rattle.native_containers.specs.Below.{ℕ, suc, pos, nat_lt, Bool, true, false, cond, slice_get, List, [], Option, Some, None, Ok, Err, chars, encode_utf8, PyObjectRef, IterEnd, IndexError, StopIteration, SequenceIterator, known_text, the_int, the_str, with_datum, Datum, AnIterator, ANumber, AText, ATuple, AList, PlainWorld, Bindings, DoSpecial, ToAttribute, AsValue, Ended, Said, Ends, Row, start, pass, end, value, fault, datum_at, with_node, next_node}
use Rattle.std.specs.Prelude.{◌-◌, ◌^◌, ◌∷◌}
use Rattle.py_node.specs.declared.raised.Kind.{Kind}
use Rattle.py_node.specs.declared.known.Known.TheVariants as known
use Rattle.row_kit.specs.declared.take_containers.Kind.TheVariants as kind
use Rattle.native_containers.specs.Asking.{taking_one}
use Rattle.native_containers.specs.declared.native_items.next.Found.{Found}
use Rattle.native_containers.specs.declared.native_items.next.Found.TheVariants.{Nothing, Item, Character, Unknown}

abbrev pub iterator_in : Option Datum → Option SequenceIterator
iterator_in (Some (AnIterator i)) = Some i
iterator_in _ = None

-- an iterator at another place, or ended
abbrev pub with_place : PlainWorld → PyObjectRef → SequenceIterator → Option ℕ → PlainWorld
with_place w o i n = with_datum w o (AnIterator (record i { place = n }))

-- the place after another, as far as 64 bits go
abbrev pub next_place : ℕ → Option ℕ
next_place n = cond (nat_lt n (2 ^ 64 - 1)) (Some (suc n)) None

abbrev pub item_found : Option PyObjectRef → Found
item_found None = Nothing
item_found (Some r) = Item r

abbrev pub char_found : Option ℕ → Found
char_found None = Nothing
char_found (Some c) = Character c

-- a text, a tuple or a list has its items by their places. Another object is asked
abbrev pub found_in : ℕ → Option Datum → Found
found_in n (Some (AText x)) = char_found (slice_get (chars x) n)
found_in n (Some (ATuple rs)) = item_found (slice_get rs n)
found_in n (Some (AList rs)) = item_found (slice_get rs n)
found_in n _ = Unknown

-- an item moves the place on by one. Without one the iterator has ended
abbrev pub moved_past : PlainWorld → PyObjectRef → SequenceIterator → ℕ → PyObjectRef → Said
moved_past w o i n r = Ends (with_place w o i (next_place n)) (value r)

-- an object is asked for the item of a new number
abbrev pub next_in : PlainWorld → PyObjectRef → SequenceIterator → ℕ → Found → Said
next_in w o i n Nothing = Ends (with_place w o i None) (fault IterEnd)
next_in w o i n (Item r) = moved_past w o i n r
next_in w o i n (Character c) = moved_past (with_node w the_str (AText (encode_utf8 c))) o i n (next_node w the_str)
next_in w o i n Unknown =
    pass (with_node w the_int (ANumber (pos n))) (ToAttribute (DoSpecial i.object (known_text known.GetItem) (next_node w the_int ∷ []) []))

abbrev pub next_from : PlainWorld → PyObjectRef → SequenceIterator → Option ℕ → Said
next_from w o i None = Ends w (fault IterEnd)
next_from w o i (Some n) = next_in w o i n (found_in n (datum_at w i.object))

abbrev pub next_by : PlainWorld → PyObjectRef → Option SequenceIterator → Said
next_by w o None = Ends w (fault IterEnd)
next_by w o (Some i) = next_from w o i i.place

-- IndexError and StopIteration are the end, and any fault leaves the iterator ended. An iterator that ended meanwhile stays so
abbrev pub is_end : Kind → Bool
is_end IndexError = true
is_end StopIteration = true
is_end _ = false

abbrev pub moved : PlainWorld → PyObjectRef → SequenceIterator → Option ℕ → PlainWorld
moved w o i None = w
moved w o i (Some n) = with_place w o i (next_place n)

abbrev pub next_rest : PlainWorld → PyObjectRef → Option SequenceIterator → Ended → Row
next_rest w o (Some i) (Ok (AsValue v)) = end (moved w o i i.place) (value v)
next_rest w o (Some i) (Err x) = end (with_place w o i None) (cond (is_end x.kind) (fault IterEnd) (Err x))
next_rest w o _ r = end w r

abbrev pub next_item : PlainWorld → PyObjectRef → Row
next_item w o = start (next_by w o (iterator_in (datum_at w o))) (next_rest w o (iterator_in (datum_at w o)))

abbrev pub iterator_next : PlainWorld → List PyObjectRef → Bindings → Row
iterator_next w args kw = taking_one kind.Iterator w args kw (next_item w)
