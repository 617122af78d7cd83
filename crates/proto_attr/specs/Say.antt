-- What the rows of attributes and special methods say.
use Rattle.proto_attr.specs.Below.{ℕ, zero, suc, Bool, true, false, cond, eqb, not, List, [], Option, Some, None, Ok, Err, is_some, PyObjectRef, Raised as Fault, ImmutableType, NoAttribute, NoSpecial, TooLong, Getattro, Setattro, DescrGet, DescrSet, SlotEntry, Native, Wrapper, OfObject, OfType, OfSuper, Text, known_text, found, own_of, is_heap_at, AText, PlainWorld, Bindings, PlainTask, AttributeJob, DoGetAttr, DoGeneric, DoGenericOpt, DoTypeGet, DoLoadMethod, DoInvoke, DoSetAttr, DoGenericSet, DoTypeSet, DoSpecial, DoBind, DoDescrGet, DoDescrSet, DoHasAttr, DoSuperGet, DoCall, ToAttribute, ToDescriptor, ToCall, AsMaybe, AsTruth, AsFunction, AsAttribute, Ended, Chose, Said, Asks, Ends, is_text, datum_at, slot_at, with_node, next_node, with_own_attr, without_own_attr, class_object, type_object, class_number, special_at, is_fast, dict_of, has_place, value_in, own_value, with_value_in, without_value_in, the_str, Row, start, fork, ask, pass, end, value, done, none, fault, is_attribute_error, on_value}
use Rattle.std.specs.Prelude.{◌&&◌, ◌∷◌}
use Rattle.py_node.specs.declared.entry.ObjectNative.TheVariants as object
use Rattle.py_node.specs.declared.entry.SuperNative.TheVariants as super
use Rattle.py_node.specs.declared.entry.TypeNative.TheVariants as type
use Rattle.py_node.specs.declared.known.Known.TheVariants as known
use Rattle.proto_attr.specs.declared.find.Found.{Found}
use Rattle.proto_attr.specs.declared.find.Found.TheVariants.{Descriptor, Value, Missing}
use Rattle.class_model.specs.Class.{class_at as class_numbered}

-- a special method is given a name as a new text
abbrev pub with_text : PlainWorld → Text → PlainWorld
with_text w x = with_node w the_str (AText x)

abbrev pub by_name : PlainWorld → PyObjectRef → Text → PlainTask
by_name w o method = ToAttribute (DoSpecial o method (next_node w the_str ∷ []) [])

-- an object's attribute is set as its class's entry for that says: by a special method, as classes do, or as objects do
abbrev pub set_by_method : PlainWorld → PyObjectRef → Text → Option PyObjectRef → Said
set_by_method w o x (Some v) =
    pass (with_text w x) (ToAttribute (DoSpecial o (known_text known.SetAttr) (next_node w the_str ∷ v ∷ []) []))
set_by_method w o x None = pass (with_text w x) (by_name w o (known_text known.DelAttr))

abbrev pub set_in_class : PlainWorld → Option ℕ → PyObjectRef → Text → Option PyObjectRef → Said
set_in_class w None o x v = pass w (ToAttribute (DoGenericSet o x v))
set_in_class w (Some c) o x v = pass w (ToAttribute (DoTypeSet c x v))

abbrev pub set_by : PlainWorld → Option SlotEntry → PyObjectRef → Text → Option PyObjectRef → Said
set_by w (Some (Wrapper s)) o x v = set_by_method w o x v
set_by w (Some (Native (OfType type.SetAttr))) o x v = set_in_class w (class_number (datum_at w o)) o x v
set_by w _ o x v = pass w (ToAttribute (DoGenericSet o x v))

abbrev pub set_attr_say : PlainWorld → PyObjectRef → Text → Option PyObjectRef → Row
set_attr_say w o x v = start (set_by w (slot_at w o Setattro) o x v) (end w)

-- a value that was found, where it is one that sets attributes
abbrev pub setter : PlainWorld → Option PyObjectRef → Option PyObjectRef
setter w None = None
setter w (Some a) = cond (is_some (slot_at w a DescrSet)) (Some a) None

-- a class's own attribute is taken out, where it is there
abbrev pub own_taken : PlainWorld → ℕ → Text → Option PyObjectRef → Said
own_taken w c x None = Ends w (fault NoAttribute)
own_taken w c x (Some old) = Ends (without_own_attr w c x) done

-- a class's own attribute is set or taken out, where the class was made by a script
abbrev pub own_set : PlainWorld → Bool → ℕ → Text → Option PyObjectRef → Said
own_set w false c x v = Ends w (fault ImmutableType)
own_set w true c x (Some v) = Ends (with_own_attr w c x v) done
own_set w true c x None = own_taken w c x (own_of (λ y. is_text y x) (class_numbered w.classes c))

-- a class's attribute is set by what its metaclass has under the name, or else in the class itself
abbrev pub type_set_by : PlainWorld → Option PyObjectRef → ℕ → Text → Option PyObjectRef → Said
type_set_by w (Some a) c x v = pass w (ToDescriptor (DoDescrSet a (class_object w c) v))
type_set_by w None c x v = own_set w (is_heap_at (class_numbered w.classes c)) c x v

abbrev pub type_set_say : PlainWorld → ℕ → Text → Option PyObjectRef → Row
type_set_say w c x v = start (type_set_by w (setter w (special_at w (class_object w c) x)) c x v) (end w)

-- a special method that is fast is called with its object before the arguments, and another one is bound first
abbrev pub special_by : PlainWorld → Bool → PyObjectRef → PyObjectRef → List PyObjectRef → Bindings → Said
special_by w fast m o args kw =
    cond fast (Asks w (Chose 0 ∷ []) (ToCall (DoCall m (o ∷ args) kw)))
    (Asks w (Chose 1 ∷ []) (ToAttribute (DoBind m (Some o) (type_object w o))))

abbrev pub special_found : PlainWorld → Option PyObjectRef → PyObjectRef → List PyObjectRef → Bindings → Said
special_found w None o args kw = Ends w (fault NoSpecial)
special_found w (Some m) o args kw = special_by w (is_fast w m) m o args kw

-- what was asked first was the call, or it was the binding, and then what is bound is called
abbrev pub special_rest : PlainWorld → List PyObjectRef → Bindings → ℕ → Ended → Row
special_rest w args kw zero r = end w r
special_rest w args kw (suc n) r = on_value w r (λ b. start (pass w (ToCall (DoCall b args kw))) (end w))

abbrev pub special_say : PlainWorld → PyObjectRef → Text → List PyObjectRef → Bindings → Row
special_say w o x args kw = fork (special_found w (special_at w o x) o args kw) (special_rest w args kw)

-- a value is bound where its class has an entry for that
abbrev pub bind_by : PlainWorld → Option SlotEntry → PyObjectRef → Option PyObjectRef → PyObjectRef → Said
bind_by w None m o c = Ends w (value m)
bind_by w (Some e) m o c = pass w (ToDescriptor (DoDescrGet m o (Some c)))

abbrev pub bind_say : PlainWorld → PyObjectRef → Option PyObjectRef → PyObjectRef → Row
bind_say w m o c = start (bind_by w (slot_at w m DescrGet) m o c) (end w)

-- whether a value is asked for what an attribute gives, and whether it is asked before an object's own dict
abbrev pub gives : PlainWorld → PyObjectRef → Bool
gives w a = is_some (slot_at w a DescrGet)

abbrev pub is_data : PlainWorld → PyObjectRef → Bool
is_data w a = gives w a && is_some (slot_at w a DescrSet)

abbrev pub of_value : PlainWorld → PyObjectRef → Found
of_value w a = cond (gives w a) (Descriptor a) (Value a)

-- of what the class has and what the dict has: a data descriptor, or else what the dict has, or else what the class has
abbrev pub find : PlainWorld → Option PyObjectRef → Option PyObjectRef → Found
find w None None = Missing
find w None (Some v) = Value v
find w (Some a) None = of_value w a
find w (Some a) (Some v) = cond (is_data w a) (Descriptor a) (Value v)

-- a descriptor is asked for what it gives for an object
abbrev pub descriptor_get : PlainWorld → PyObjectRef → PyObjectRef → Said
descriptor_get w a o = pass w (ToDescriptor (DoDescrGet a (Some o) (Some (type_object w o))))

abbrev pub generic_by : PlainWorld → PyObjectRef → Found → Said
generic_by w o (Descriptor a) = descriptor_get w a o
generic_by w o (Value v) = Ends w (value v)
generic_by w o Missing = Ends w (fault NoAttribute)

abbrev pub generic_say : PlainWorld → PyObjectRef → Text → Row
generic_say w o x = start (generic_by w o (find w (special_at w o x) (own_value w o x))) (end w)

abbrev pub maybe : Option PyObjectRef → Ended
maybe o = Ok (AsMaybe o)

-- the dict is the one that is given, or else the object's own
abbrev pub value_for : PlainWorld → PyObjectRef → Text → Option PyObjectRef → Option PyObjectRef
value_for w o x None = own_value w o x
value_for w o x (Some d) = value_in w x d

abbrev pub generic_opt_by : PlainWorld → PyObjectRef → Found → Said
generic_opt_by w o (Descriptor a) = descriptor_get w a o
generic_opt_by w o (Value v) = Ends w (maybe (Some v))
generic_opt_by w o Missing = Ends w (maybe None)

abbrev pub generic_opt_say : PlainWorld → PyObjectRef → Text → Option PyObjectRef → Row
generic_opt_say w o x d =
    start (generic_opt_by w o (find w (special_at w o x) (value_for w o x d))) (λ r. on_value w r (λ v. end w (maybe (Some v))))

-- an attribute of a class: a data descriptor of its metaclass, or else what the class has along its linearisation, asked
-- with no object, or else what the metaclass has
abbrev pub of_class : PlainWorld → ℕ → PyObjectRef → Said
of_class w c z = cond (gives w z) (pass w (ToDescriptor (DoDescrGet z None (Some (class_object w c))))) (Ends w (value z))

abbrev pub type_get_by : PlainWorld → ℕ → Option PyObjectRef → Option PyObjectRef → Said
type_get_by w c None None = Ends w (fault NoAttribute)
type_get_by w c None (Some z) = of_class w c z
type_get_by w c (Some a) None = generic_by w (class_object w c) (of_value w a)
type_get_by w c (Some a) (Some z) = cond (is_data w a) (descriptor_get w a (class_object w c)) (of_class w c z)

abbrev pub type_get_say : PlainWorld → ℕ → Text → Row
type_get_say w c x = start (type_get_by w c (special_at w (class_object w c) x) (found is_text w.classes c x)) (end w)

-- an object's attribute is read as its class's entry for that says: by a special method, as classes do, as `super` does, or as objects do
abbrev pub get_by_method : PlainWorld → PyObjectRef → Text → Said
get_by_method w o x = Asks (with_text w x) (Chose 1 ∷ []) (by_name w o (known_text known.GetAttribute))

abbrev pub get_in_class : PlainWorld → Option ℕ → PyObjectRef → Text → Said
get_in_class w None o x = Asks w (Chose 0 ∷ []) (ToAttribute (DoGeneric o x))
get_in_class w (Some c) o x = Asks w (Chose 0 ∷ []) (ToAttribute (DoTypeGet c x))

abbrev pub get_by : PlainWorld → Option SlotEntry → PyObjectRef → Text → Said
get_by w (Some (Wrapper s)) o x = get_by_method w o x
get_by w (Some (Native (OfType type.GetAttribute))) o x = get_in_class w (class_number (datum_at w o)) o x
get_by w (Some (Native (OfSuper super.GetAttribute))) o x = Asks w (Chose 0 ∷ []) (ToDescriptor (DoSuperGet o x))
get_by w _ o x = Asks w (Chose 0 ∷ []) (ToAttribute (DoGeneric o x))

-- a special method that finds no attribute leaves it to `__getattr__`, where there is one
abbrev pub or_get_attr : PlainWorld → Option PyObjectRef → PyObjectRef → Text → Fault → Said
or_get_attr w None o x fault = Ends w (Err fault)
or_get_attr w (Some m) o x fault = pass (with_text w x) (by_name w o (known_text known.GetAttr))

abbrev pub get_rest : PlainWorld → PyObjectRef → Text → ℕ → Ended → Row
get_rest w o x (suc n) (Err fault) =
    cond (is_attribute_error fault.kind) (start (or_get_attr w (special_at w o (known_text known.GetAttr)) o x fault) (end w)) (end w (Err fault))
get_rest w o x _ r = end w r

abbrev pub get_attr_say : PlainWorld → PyObjectRef → Text → Row
get_attr_say w o x = fork (get_by w (slot_at w o Getattro) o x) (get_rest w o x)

-- whether an object has an attribute that is not None
abbrev pub not_none : PyObjectRef → Ended
not_none v = Ok (AsTruth (not (eqb v.0 none.0)))

abbrev pub has_attr_say : PlainWorld → PyObjectRef → Text → Row
has_attr_say w o x = ask w (ToAttribute (DoGetAttr o x)) (λ r. on_value w r (λ v. end w (not_none v)))

-- a method is loaded to be called at once. Where its class reads attributes in its own way, it is what the attribute gives.
-- A method that is fast comes with its object, unless the object's dict has the name
abbrev pub as_attribute : PyObjectRef → Ended
as_attribute v = Ok (AsAttribute v)

abbrev pub load_found : PlainWorld → PyObjectRef → Found → Said
load_found w o (Descriptor a) = descriptor_get w a o
load_found w o (Value v) = Ends w (as_attribute v)
load_found w o Missing = Ends w (fault NoAttribute)

abbrev pub load_fast : PlainWorld → PyObjectRef → PyObjectRef → Option PyObjectRef → Said
load_fast w o a None = Ends w (Ok (AsFunction o a))
load_fast w o a (Some v) = Ends w (as_attribute v)

abbrev pub load_by : PlainWorld → PyObjectRef → Option PyObjectRef → Option PyObjectRef → Said
load_by w o None own = load_found w o (find w None own)
load_by w o (Some a) own = cond (is_fast w a) (load_fast w o a own) (load_found w o (find w (Some a) own))

abbrev pub load : PlainWorld → Option SlotEntry → PyObjectRef → Text → Said
load w (Some (Native (OfObject object.GetAttribute))) o x = load_by w o (special_at w o x) (own_value w o x)
load w _ o x = pass w (ToAttribute (DoGetAttr o x))

abbrev pub load_method_say : PlainWorld → PyObjectRef → Text → Row
load_method_say w o x = start (load w (slot_at w o Getattro) o x) (λ r. on_value w r (λ v. end w (as_attribute v)))

abbrev pub invoke_by : PlainWorld → Option PyObjectRef → PyObjectRef → List PyObjectRef → Bindings → Said
invoke_by w None f args kw = pass w (ToCall (DoCall f args kw))
invoke_by w (Some o) f args kw = pass w (ToCall (DoCall f (o ∷ args) kw))

abbrev pub invoke_say : PlainWorld → Option PyObjectRef → PyObjectRef → List PyObjectRef → Bindings → Row
invoke_say w o f args kw = start (invoke_by w o f args kw) (end w)

-- an object's attribute is set by what its class has under the name, where that sets attributes, or else in its dict
abbrev pub set_in_dict : PlainWorld → Option PyObjectRef → Text → Option PyObjectRef → Option PyObjectRef → Said
set_in_dict w None x v old = Ends w (fault NoAttribute)
set_in_dict w (Some d) x (Some v) old = cond (has_place w d x) (Ends (with_value_in w d x v) done) (Ends w (fault TooLong))
set_in_dict w (Some d) x None (Some old) = Ends (without_value_in w d x) done
set_in_dict w (Some d) x None None = Ends w (fault NoAttribute)

abbrev pub generic_set_by : PlainWorld → Option PyObjectRef → PyObjectRef → Text → Option PyObjectRef → Said
generic_set_by w (Some a) o x v = pass w (ToDescriptor (DoDescrSet a o v))
generic_set_by w None o x v = set_in_dict w (dict_of w o) x v (own_value w o x)

abbrev pub generic_set_say : PlainWorld → PyObjectRef → Text → Option PyObjectRef → Row
generic_set_say w o x v = start (generic_set_by w (setter w (special_at w o x)) o x v) (end w)

unfoldable pub attribute_say : PlainWorld → AttributeJob → Row
attribute_say w (DoSetAttr o x v) told = set_attr_say w o x v told
attribute_say w (DoTypeSet c x v) told = type_set_say w c x v told
attribute_say w (DoSpecial o x args kw) told = special_say w o x args kw told
attribute_say w (DoBind m o c) told = bind_say w m o c told
attribute_say w (DoGetAttr o x) told = get_attr_say w o x told
attribute_say w (DoGeneric o x) told = generic_say w o x told
attribute_say w (DoGenericOpt o x d) told = generic_opt_say w o x d told
attribute_say w (DoTypeGet c x) told = type_get_say w c x told
attribute_say w (DoLoadMethod o x) told = load_method_say w o x told
attribute_say w (DoInvoke o f args kw) told = invoke_say w o f args kw told
attribute_say w (DoGenericSet o x v) told = generic_set_say w o x v told
attribute_say w (DoHasAttr o x) told = has_attr_say w o x told
