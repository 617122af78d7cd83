-- What is set of `object` and `type` through setters, which ask no task. A setter takes the object and the value, or the object alone where the attribute is taken out, and answers None.
use Rattle.proto_attr.specs.Below.{ℕ, Bool, true, false, cond, List, map, Option, Some, None, option_map, option_and_then, PyObjectRef, Cause, BasesShape, CannotDelete, ClassDict, DictType, ImmutableType, NameType, NoAttribute, NoDict, NoSetter, NotAClass, NullInName, Property, known_text, Text, own_of, all_some, is_heap_at, refused_class, refused_rebase, Datum, ADict, ATuple, PlainWorld, Bindings, Said, Ends, class_at, datum_at, is_text, Change, SetOwn, SetBases, SetName, SetClass, SetDict, apply, dict_of, class_number, value, none, fault, has_null, text_of, there_or}
use Rattle.py_node.specs.declared.entry.Property.TheVariants as property
use Rattle.py_node.specs.declared.known.Known.TheVariants as known
use Rattle.class_model.specs.Class.{class_at as class_numbered}
use Rattle.proto_attr.specs.NativeObjects.Takes.{with_class_and_given, with_one_or_two}

-- the world is changed, and the setter answers None
abbrev pub changes : PlainWorld → Change → Said
changes w change = Ends (apply w change) (value none)

-- goes on unless there is a cause against it
abbrev pub unless_refused : PlainWorld → Option Cause → Said → Said
unless_refused w None go = go
unless_refused w (Some cause) go = Ends w (fault cause)

-- goes on with a class that a script made
abbrev pub on_heap : PlainWorld → ℕ → Said → Said
on_heap w c go = cond (is_heap_at (class_numbered w.classes c)) go (Ends w (fault ImmutableType))

-- what can't be taken out is given a value
abbrev pub with_given : PlainWorld → Option PyObjectRef → (PyObjectRef → Said) → Said
with_given w v go = there_or w CannotDelete v go

-- the names of a class are texts
abbrev pub with_name : PlainWorld → PyObjectRef → (Text → Said) → Said
with_name w v go = there_or w NameType (text_of (datum_at w v)) go

-- its own name has no null character
abbrev pub renamed : PlainWorld → ℕ → Text → Said
renamed w c x = cond (has_null x) (Ends w (fault NullInName)) (changes w (SetName c x))

-- an own attribute of a class is taken out that must be there
abbrev pub take_own : PlainWorld → ℕ → Text → Said
take_own w c x =
    there_or w NoAttribute (own_of (λ y. is_text y x) (class_numbered w.classes c)) (λ old. changes w (SetOwn c x None))

-- the annotations of a class are an own attribute, which is set or taken out
abbrev pub set_annotations : PlainWorld → ℕ → Text → Option PyObjectRef → Said
set_annotations w c x (Some v) = changes w (SetOwn c x (Some v))
set_annotations w c x None = take_own w c x

-- the classes that some objects are, where all are classes
abbrev pub all_classes : PlainWorld → List PyObjectRef → Option (List ℕ)
all_classes w rs = all_some (map (λ r. class_number (datum_at w r)) rs)

-- the classes that a tuple has, where it has nothing else
abbrev pub classes_in : PlainWorld → Option Datum → Option (List ℕ)
classes_in w (Some (ATuple rs)) = all_classes w rs
classes_in w _ = None

-- a class gets other bases, and all below it other orders, unless this is refused
abbrev pub rebased : PlainWorld → ℕ → List ℕ → Said
rebased w c bs = unless_refused w (option_map (λ r. r.0) (refused_rebase w.classes c bs)) (changes w (SetBases c bs))

abbrev pub set_bases : PlainWorld → ℕ → PyObjectRef → Said
set_bases w c v = there_or w BasesShape (classes_in w (datum_at w v)) (rebased w c)

-- the attributes of a class aren't set as a whole
abbrev pub set_class_dict : PlainWorld → Option PyObjectRef → Said
set_class_dict w v = with_given w v (λ d. Ends w (fault ClassDict))

-- what a class that a script made is given: nothing is taken out
abbrev pub with_heap_value : PlainWorld → ℕ → Option PyObjectRef → (PyObjectRef → Said) → Said
with_heap_value w c v go = on_heap w c (with_given w v go)

abbrev pub set_name : PlainWorld → ℕ → PyObjectRef → Said
set_name w c v = with_name w v (renamed w c)

-- a name within a module may have any character
abbrev pub set_qualname : PlainWorld → ℕ → PyObjectRef → Said
set_qualname w c v = with_name w v (λ x. changes w (SetOwn c (known_text known.Qualname) (Some v)))

-- what is set of a class. Where nothing sets it, there is no setter that could be asked
abbrev pub class_written : PlainWorld → Property → ℕ → Option PyObjectRef → Said
class_written w property.Name c v = with_heap_value w c v (set_name w c)
class_written w property.Qualname c v = with_heap_value w c v (set_qualname w c)
class_written w property.Module c v = with_heap_value w c v (λ r. changes w (SetOwn c (known_text known.Module) (Some r)))
class_written w property.Bases c v = with_heap_value w c v (set_bases w c)
class_written w property.Dict c v = set_class_dict w v
class_written w property.Annotations c v = on_heap w c (set_annotations w c (known_text known.Annotations) v)
class_written w p c v = Ends w (fault NoSetter)

-- an object gets another class, unless this is refused
abbrev pub reclassed : PlainWorld → PyObjectRef → ℕ → Said
reclassed w o d = unless_refused w (option_and_then (λ c. refused_class w.classes c d) (class_at w o)) (changes w (SetClass o d))

-- the class of an object, which may be a class itself
abbrev pub set_class : PlainWorld → PyObjectRef → Option PyObjectRef → Said
set_class w o v = with_given w v (λ k. there_or w NotAClass (class_number (datum_at w k)) (reclassed w o))

abbrev pub is_dict : Option Datum → Bool
is_dict (Some (ADict es)) = true
is_dict _ = false

-- an object that has a dict gets another one
abbrev pub redicted : PlainWorld → PyObjectRef → PyObjectRef → Said
redicted w o d = cond (is_dict (datum_at w d)) (changes w (SetDict o d)) (Ends w (fault DictType))

-- the dict of an object, which for a class is that of its attributes
abbrev pub set_dict : PlainWorld → PyObjectRef → Option ℕ → Option PyObjectRef → Said
set_dict w o (Some c) v = set_class_dict w v
set_dict w o None v = there_or w NoDict (dict_of w o) (λ old. with_given w v (redicted w o))

-- the class and the dict are set of any object, and all else of classes
abbrev pub setter_say : PlainWorld → Property → List PyObjectRef → Bindings → Said
setter_say w property.Class args kw = with_one_or_two w args kw (set_class w)
setter_say w property.InstanceDict args kw = with_one_or_two w args kw (λ o v. set_dict w o (class_number (datum_at w o)) v)
setter_say w p args kw = with_class_and_given w args kw (class_written w p)
