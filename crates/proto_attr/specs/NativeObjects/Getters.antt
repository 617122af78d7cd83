-- What is read of `object` and `type` through getters, which ask no task.
use Rattle.proto_attr.specs.Below.{ℕ, pos, List, map, Option, Some, None, Ok, option_map, PyObjectRef, NoDict, Property, known_text, Text, bases_of, lin, base, flags_at, ATuple, PlainWorld, Bindings, Said, Ends, datum_at, ref, the_tuple, name_at, dict_of, class_number, type_object, value, none, fault, with_one, in_length, int_made, text_made, sized_made, with_lone_class, builtins, given, or_nothing}
use Rattle.py_node.specs.declared.entry.Property.TheVariants as property
use Rattle.py_node.specs.declared.known.Known.TheVariants as known
use Rattle.proto_attr.specs.NativeObjects.Attributes.{annotations, class_dict}
use Rattle.proto_attr.specs.NativeObjects.Details.{or_none}

-- what a class is given itself, or else a new text
abbrev pub given_or : PlainWorld → Option PyObjectRef → Text → Said
given_or w (Some v) x = Ends w (value v)
given_or w None x = text_made w (in_length x)

-- a new tuple of classes
abbrev pub tuple_made : PlainWorld → Option (List ℕ) → Said
tuple_made w cs = sized_made w the_tuple (ATuple (map ref (or_nothing cs)))

abbrev pub or_zero : Option ℕ → ℕ
or_zero None = 0
or_zero (Some n) = n

-- what is read of a class
abbrev pub class_read : PlainWorld → Property → ℕ → Said
class_read w property.Class c = Ends w (value (type_object w (ref c)))
class_read w property.Name c = text_made w (in_length (name_at w.classes c))
class_read w property.Qualname c = given_or w (given w c (known_text known.Qualname)) (name_at w.classes c)
class_read w property.Module c = given_or w (given w c (known_text known.Module)) builtins
class_read w property.Bases c = tuple_made w (bases_of w.classes c)
class_read w property.Dict c = class_dict w c
class_read w property.Annotations c = annotations w c
class_read w property.Base c = Ends w (value (or_none (option_map ref (base w.classes c))))
class_read w property.Mro c = tuple_made w (lin w.classes c)
class_read w property.Flags c = int_made w (Ok (pos (or_zero (flags_at w.classes c))))
class_read w property.TextSignature c = Ends w (value none)
class_read w property.InstanceDict c = class_dict w c

abbrev pub dict_or_fault : PlainWorld → Option PyObjectRef → Said
dict_or_fault w None = Ends w (fault NoDict)
dict_or_fault w (Some d) = Ends w (value d)

-- the dict of an object, which for a class is that of its attributes
abbrev pub own_dict : PlainWorld → PyObjectRef → Option ℕ → Said
own_dict w o (Some c) = class_dict w c
own_dict w o None = dict_or_fault w (dict_of w o)

-- the class and the dict are read of any object, and all else of classes
abbrev pub getter_say : PlainWorld → Property → List PyObjectRef → Bindings → Said
getter_say w property.Class args kw = with_one w args kw (λ o. Ends w (value (type_object w o)))
getter_say w property.InstanceDict args kw = with_one w args kw (λ o. own_dict w o (class_number (datum_at w o)))
getter_say w p args kw = with_lone_class w args kw (class_read w p)
