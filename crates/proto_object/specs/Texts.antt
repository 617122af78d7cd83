-- What the rows of hashes, texts and lists of names say.
use Rattle.proto_object.specs.Below.{ℕ, ℤ, Bool, true, false, cond, eqb, not, is_some, List, [], map, filter, Option, Some, None, Ok, PyObjectRef, Cause, Unhashable, HashType, ReprType, StrType, FormatType, Hash, Repr, SlotEntry, known_text, value_of, Text, all_attributes, Entries, dict_of, is_key, the_int, the_str, the_list, special_at, AList, PlainWorld, Bindings, DoSpecial, DoStr, ToAttribute, ToObject, AsValue, Ended, Said, Ends, Row, start, pass, end, value, none, fault, on_value, is_text, class_at, datum_at, number_of, slot_at, sized_made, entries_at, keys_of, number_hash, keyed, or_no_attributes, text_of, number, entered, is_exactly}
use Rattle.std.specs.Prelude.{◌&&◌, ◌∷◌, ◌++◌}
use Rattle.py_node.specs.declared.entry.SlotEntry.TheVariants as entry
use Rattle.py_node.specs.declared.known.Known.TheVariants as known

-- a hash is that of the class's entry, unless the class says by None, or by the mark of its slot, that there is none
abbrev pub is_none : Option PyObjectRef → Bool
is_none None = false
is_none (Some r) = eqb r.0 none.0

-- the entry by which the class's objects have a hash
abbrev pub hash_entry : Option SlotEntry → Option SlotEntry
hash_entry (Some entry.Unhashable) = None
hash_entry e = e

abbrev pub hash_by : PlainWorld → Bool → Option SlotEntry → PyObjectRef → Said
hash_by w true e o = Ends w (fault Unhashable)
hash_by w false None o = Ends w (fault Unhashable)
hash_by w false (Some e) o = pass w (entered e known.Hash o [])

-- a native tells the number. What a special method gives must hold one, of which the lowest 64 bits count
abbrev pub hashed : Option ℤ → Ended
hashed None = fault HashType
hashed (Some z) = number (number_hash z)

abbrev pub hash_rest : PlainWorld → Ended → Row
hash_rest w (Ok (AsValue r)) = end w (hashed (number_of (datum_at w r)))
hash_rest w other = end w other

abbrev pub hash_say : PlainWorld → PyObjectRef → Row
hash_say w o =
    start (hash_by w (is_none (special_at w o (known_text known.Hash))) (hash_entry (slot_at w o Hash)) o) (hash_rest w)

-- the answer must hold a text
abbrev pub text_or_fault : Option Text → PyObjectRef → Cause → Ended
text_or_fault None r cause = fault cause
text_or_fault (Some x) r cause = value r

abbrev pub text_only : PlainWorld → Cause → Ended → Row
text_only w cause r = on_value w r (λ v. end w (text_or_fault (text_of (datum_at w v)) v cause))

abbrev pub repr_by : PlainWorld → Option SlotEntry → PyObjectRef → Said
repr_by w None o = Ends w (fault ReprType)
repr_by w (Some e) o = pass w (entered e known.Repr o [])

abbrev pub repr_say : PlainWorld → PyObjectRef → Row
repr_say w o = start (repr_by w (slot_at w o Repr) o) (text_only w ReprType)

-- a text of no other class is itself
abbrev pub str_by : PlainWorld → Bool → PyObjectRef → Said
str_by w true o = Ends w (value o)
str_by w false o = pass w (ToAttribute (DoSpecial o (known_text known.Str) [] []))

abbrev pub str_say : PlainWorld → PyObjectRef → Row
str_say w o = start (str_by w (is_exactly w o the_str) o) (text_only w StrType)

-- without a specification, a text is itself and a whole number is its text
abbrev pub is_unspecified : Option Text → Bool
is_unspecified (Some []) = true
is_unspecified _ = false

abbrev pub format_by : PlainWorld → Bool → PyObjectRef → PyObjectRef → Said
format_by w empty o s =
    cond (empty && is_exactly w o the_str) (Ends w (value o))
    (cond (empty && is_exactly w o the_int) (pass w (ToObject (DoStr o))) (pass w (ToAttribute (DoSpecial o (known_text known.Format) (s ∷ []) []))))

abbrev pub format_say : PlainWorld → PyObjectRef → PyObjectRef → Row
format_say w o s = start (format_by w (is_unspecified (text_of (datum_at w s))) o s) (text_only w FormatType)

-- the names of the class's attributes, as new texts in order, and then the keys of the object's dict that are none of them, as a new list
abbrev pub attributes_for : PlainWorld → Option ℕ → Bindings
attributes_for w None = []
attributes_for w (Some c) = or_no_attributes (all_attributes is_text w.classes c)

abbrev pub own_keys : PlainWorld → Option PyObjectRef → List PyObjectRef
own_keys w None = []
own_keys w (Some d) = keys_of (entries_at w d)

-- whether a key is a text that is one of the names
abbrev pub has_name : PlainWorld → Bindings → PyObjectRef → Bool
has_name w attrs k = is_some (value_of (λ y. is_key w y k) attrs)

abbrev pub other_keys : PlainWorld → Bindings → List PyObjectRef → List PyObjectRef
other_keys w attrs keys = filter (λ k. not (has_name w attrs k)) keys

abbrev pub names_made : List PyObjectRef → PlainWorld × Entries → Said
names_made others s = sized_made s.0 the_list (AList (map (λ e. e.0) s.1 ++ others))

abbrev pub dir_by : PlainWorld → Bindings → List PyObjectRef → Said
dir_by w attrs keys = names_made (other_keys w attrs keys) (keyed w [] attrs)

abbrev pub dir_say : PlainWorld → PyObjectRef → Row
dir_say w o = start (dir_by w (attributes_for w (class_at w o)) (own_keys w (dict_of w o))) (end w)
