-- What the natives say that read and set the items of texts, tuples and lists.
use Rattle.native_containers.specs.Below.{ℕ, suc, Bool, true, false, is_some, length, take, drop, slice_get, slice_set, slice_range, List, [], Option, Some, None, option_map, Ok, chars, encode_utf8_all, PyObjectRef, IndexOut, PySlice, Text, with_datum, AList, PlainWorld, Bindings, DoIdEq, DoIndex, DoCollect, ToCompare, ToProtocol, AsObjects, Ended, Answered, ReadObjects, Told, Said, Asks, Ends, Row, pass, value, truth, fault, read_objects, on_value, datum_at, number_of, text_made, Kind, items_at, tuple_made, list_made, text_of, on_objects, any_of, is_plain, as_said, argument}
use Rattle.std.specs.Prelude.{◌∷◌, ◌++◌}
use Rattle.row_kit.specs.declared.take_containers.Kind.TheVariants as kind
use Rattle.native_containers.specs.Say.{unless_long, list_changed}
use Rattle.native_containers.specs.NativeTexts.Say.{or_no_text, with_text_and}
use Rattle.native_containers.specs.NativeItems.Places.{part, place_at, put_part, slice_at}
use Rattle.native_containers.specs.Asking.{taking_two, taking_three}

-- goes on with the place among so many items that an object leads to
abbrev pub placed : PlainWorld → Option ℕ → (ℕ → Said) → Said
placed w None go = Ends w (fault IndexOut)
placed w (Some i) go = go i

abbrev pub at_place : PlainWorld → ℕ → Ended → (ℕ → Said) → Row
at_place w n r go = on_value w r (λ i. as_said (placed w (place_at w n i) go))

-- a list's items are those that stood in it at the start. Where nothing of a script is asked meanwhile they need not be read before
abbrev pub stood : PlainWorld → Bool → PyObjectRef → Told
stood w true o = []
stood w false o = ReadObjects (items_at w o) ∷ []

abbrev pub as_stood : PlainWorld → PyObjectRef → Said → (List PyObjectRef → Ended → Row) → Row
as_stood w o said go (ReadObjects rs ∷ (Answered r ∷ more)) = go rs r more
as_stood w o said go (Answered r ∷ more) = go (items_at w o) r more
as_stood w o said go _ = said

abbrev pub is_number : PlainWorld → PyObjectRef → Bool
is_number w k = is_some (number_of (datum_at w k))

abbrev pub index_asked : PlainWorld → PyObjectRef → PyObjectRef → Said
index_asked w o k = Asks w (stood w (is_number w k) o) (ToProtocol (DoIndex k))

-- an item, or a part as a new object of the kind

abbrev pub item_ends : PlainWorld → Option PyObjectRef → Said
item_ends w None = Ends w (fault IndexOut)
item_ends w (Some r) = Ends w (value r)

abbrev pub item_asked : PlainWorld → (List PyObjectRef → Said) → Option PySlice → PyObjectRef → PyObjectRef → Said
item_asked w made (Some s) o k = made (part w s (items_at w o))
item_asked w made None o k = index_asked w o k

abbrev pub item_got : PlainWorld → List PyObjectRef → Ended → Row
item_got w rs r = at_place w (length rs) r (λ i. item_ends w (slice_get rs i))

abbrev pub get_item : PlainWorld → (List PyObjectRef → Said) → PyObjectRef → PyObjectRef → Row
get_item w made o k = as_stood w o (item_asked w made (slice_at w k) o k) (item_got w)

abbrev pub tuple_get_item : PlainWorld → List PyObjectRef → Bindings → Row
tuple_get_item w args kw = taking_two kind.Tuple w args kw (get_item w (tuple_made w))

abbrev pub list_get_item : PlainWorld → List PyObjectRef → Bindings → Row
list_get_item w args kw = taking_two kind.List w args kw (get_item w (list_made w))

-- a character, or a part, of a text as a new text
abbrev pub chars_at : PlainWorld → PyObjectRef → List ℕ
chars_at w o = chars (or_no_text (text_of (datum_at w o)))

abbrev pub chars_made : PlainWorld → List ℕ → Said
chars_made w cs = text_made w (Ok (encode_utf8_all cs))

abbrev pub char_asked : PlainWorld → Option PySlice → Text → PyObjectRef → Said
char_asked w (Some s) x k = chars_made w (part w s (chars x))
char_asked w None x k = pass w (ToProtocol (DoIndex k))

abbrev pub character_at : PlainWorld → List ℕ → PyObjectRef → Option Text
character_at w cs i = option_map (λ n. encode_utf8_all (slice_range cs n (suc n))) (place_at w (length cs) i)

abbrev pub character_made : PlainWorld → Option Text → Said
character_made w None = Ends w (fault IndexOut)
character_made w (Some x) = text_made w (Ok x)

abbrev pub char_rest : PlainWorld → List ℕ → Ended → Row
char_rest w cs r = on_value w r (λ i. as_said (character_made w (character_at w cs i)))

abbrev pub answered : Said → (Ended → Row) → Row
answered said go (Answered r ∷ more) = go r more
answered said go _ = said

abbrev pub str_get_item : PlainWorld → List PyObjectRef → Bindings → Row
str_get_item w args kw =
    answered (with_text_and w args kw (λ x k. char_asked w (slice_at w k) x k)) (char_rest w (chars_at w (argument args 0)))

-- an item of a list is set, or a part of it to the items of an iteration
abbrev pub set_asked : PlainWorld → Option PySlice → PyObjectRef → PyObjectRef → PyObjectRef → Said
set_asked w (Some s) o k v = Asks w (stood w (is_plain w v) o) (ToProtocol (DoCollect v))
set_asked w None o k v = index_asked w o k

abbrev pub part_set : PlainWorld → Option PySlice → PyObjectRef → List PyObjectRef → List PyObjectRef → Said
part_set w None o rs vs = Ends w (fault IndexOut)
part_set w (Some s) o rs vs = list_changed w o (put_part w s rs vs)

abbrev pub set_rest : PlainWorld → PyObjectRef → PyObjectRef → PyObjectRef → List PyObjectRef → Ended → Row
set_rest w o k v rs (Ok (AsObjects vs)) = as_said (part_set w (slice_at w k) o rs vs)
set_rest w o k v rs r = at_place w (length rs) r (λ i. list_changed w o (slice_set rs i v))

abbrev pub set_item : PlainWorld → PyObjectRef → PyObjectRef → PyObjectRef → Row
set_item w o k v = as_stood w o (set_asked w (slice_at w k) o k v) (set_rest w o k v)

abbrev pub list_set_item : PlainWorld → List PyObjectRef → Bindings → Row
list_set_item w args kw = taking_three kind.List w args kw (set_item w)

-- an item of a list is taken out, or a part of it
abbrev pub del_asked : PlainWorld → Option PySlice → PyObjectRef → PyObjectRef → Said
del_asked w (Some s) o k = list_changed w o (put_part w s (items_at w o) [])
del_asked w None o k = index_asked w o k

abbrev pub del_rest : PlainWorld → PyObjectRef → List PyObjectRef → Ended → Row
del_rest w o rs r = at_place w (length rs) r (λ i. list_changed w o (take i rs ++ drop (suc i) rs))

abbrev pub del_item : PlainWorld → PyObjectRef → PyObjectRef → Row
del_item w o k = as_stood w o (del_asked w (slice_at w k) o k) (del_rest w o)

abbrev pub list_del_item : PlainWorld → List PyObjectRef → Bindings → Row
list_del_item w args kw = taking_two kind.List w args kw (del_item w)

-- whether an item is the object, or equal to it
abbrev pub is_among : PlainWorld → PyObjectRef → List PyObjectRef → Row
is_among w x = any_of w (λ r. ToCompare (DoIdEq r x)) (λ b. value (truth b))

abbrev pub look_for : PlainWorld → PyObjectRef → PyObjectRef → Row
look_for w o x = read_objects (items_at w o) (is_among w x)

abbrev pub contains : Kind → PlainWorld → List PyObjectRef → Bindings → Row
contains k w args kw = taking_two k w args kw (look_for w)

-- a list gets the items of an iteration after its own, and is the answer
abbrev pub list_extended : PlainWorld → PyObjectRef → List PyObjectRef → Said
list_extended w o rs = unless_long w rs (Ends (with_datum w o (AList rs)) (value o))

abbrev pub extend_rest : PlainWorld → PyObjectRef → List PyObjectRef → Ended → Row
extend_rest w o rs r = on_objects w r (λ vs. as_said (list_extended w o (rs ++ vs)))

abbrev pub extend : PlainWorld → PyObjectRef → PyObjectRef → Row
extend w o v = as_stood w o (Asks w (stood w (is_plain w v) o) (ToProtocol (DoCollect v))) (extend_rest w o)

abbrev pub list_extend : PlainWorld → List PyObjectRef → Bindings → Row
list_extend w args kw = taking_two kind.List w args kw (extend w)
