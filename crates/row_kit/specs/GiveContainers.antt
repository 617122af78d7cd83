-- New tuples and lists, and the keys and values of dicts.
use Rattle.row_kit.specs.Below.{map, List, [], PyObjectRef, Entries, the_tuple, the_list, ATuple, AList, PlainWorld, Said, with_node, next_node}
use Rattle.std.specs.Prelude.{◌∷◌, ◌++◌}
use Rattle.row_kit.specs.Say.{object_made}

abbrev pub tuple_made : PlainWorld → List PyObjectRef → Said
tuple_made w rs = object_made w the_tuple (ATuple rs)

abbrev pub list_made : PlainWorld → List PyObjectRef → Said
list_made w rs = object_made w the_list (AList rs)

abbrev pub keys_of : Entries → List PyObjectRef
keys_of es = map (λ e. e.0) es

abbrev pub values_of : Entries → List PyObjectRef
values_of es = map (λ e. e.1) es

-- a new tuple for each key with its value, one after another, and then a new list of these
abbrev pub pairs_made : PlainWorld → List PyObjectRef → Entries → Said
pairs_made w rs [] = list_made w rs
pairs_made w rs (e ∷ es) =
    pairs_made (with_node w the_tuple (ATuple (e.0 ∷ e.1 ∷ []))) (rs ++ next_node w the_tuple ∷ []) es
