-- What is listed of the attributes of classes.
use Rattle.proto_attr.specs.Below.{ℕ, cond, [], Option, Some, None, PyObjectRef, NoAttribute, known_text, own_of, attrs_of, is_heap_at, ADict, PlainWorld, Said, Ends, is_text, with_node, next_node, with_own_attr, the_dict, Entries, value, fault, sized_made, keyed}
use Rattle.py_node.specs.declared.known.Known.TheVariants as known
use Rattle.class_model.specs.Class.{class_at as class_numbered}

abbrev pub dict_made : PlainWorld × Entries → Said
dict_made s = sized_made s.0 the_dict (ADict s.1)

-- the own attributes of a class, as a new dict
abbrev pub class_dict : PlainWorld → ℕ → Said
class_dict w c = dict_made (keyed w [] (attrs_of (class_numbered w.classes c)))

-- the annotations that a class is itself given, or else a new dict, which becomes an own attribute
abbrev pub given_annotations : PlainWorld → ℕ → Option PyObjectRef → Said
given_annotations w c (Some v) = Ends w (value v)
given_annotations w c None =
    let d = next_node w the_dict in
    Ends (with_own_attr (with_node w the_dict (ADict [])) c (known_text known.Annotations) d) (value d)

-- only classes that scripts make have annotations
abbrev pub annotations : PlainWorld → ℕ → Said
annotations w c =
    let k = class_numbered w.classes c in
    cond (is_heap_at k) (given_annotations w c (own_of (λ y. is_text y (known_text known.Annotations)) k)) (Ends w (fault NoAttribute))
