-- The natives of `type` that ask no task.
use Rattle.proto_call.specs.Below.{List, [], map, ℕ, codes, Option, Some, None, Result, cond, length, nat_le, PyObjectRef, all_attributes, AList, PlainWorld, Bindings, Said, ADict, Ends, is_text, datum_at, ref, the_list, the_dict, sized_made, in_length, object_made, text_made, with_lone_class, needed, with_class, keyed, or_no_attributes, Raised as Fault, Text, name_at, qualname, module_of, in_module, or_nothing, ArgCount, TypeNative, is_sub, lin, subclasses, class_number, is_instance, value, truth, not_implemented, fault, elsewhere, with_two}
use Rattle.std.specs.Prelude.{◌++◌}
use Rattle.plain_machine.specs.Dicts.{Entries}
use Rattle.py_node.specs.declared.entry.TypeNative.TheVariants as type

abbrev pub keys_made : PlainWorld × Entries → Said
keys_made s = sized_made s.0 the_list (AList (map (λ e. e.0) s.1))

-- the names of a class's attributes, its own and those that it inherits, as a new list
abbrev pub type_dir : PlainWorld → List PyObjectRef → Bindings → Said
type_dir w args kw = with_lone_class w args kw (λ c. keys_made (keyed w [] (or_no_attributes (all_attributes is_text w.classes c))))

abbrev pub or_name : Option Text → Text → Text
or_name None x = x
or_name (Some q) x = q

-- the text of a class
abbrev pub class_text : PlainWorld → ℕ → Result Text Fault
class_text w c =
    let x = name_at w.classes c in
    in_length (codes "<class '" ++ in_module (module_of w c) (or_name (qualname w c) x) x ++ codes "'>")

-- a new list of classes
abbrev pub classes_made : PlainWorld → List ℕ → Said
classes_made w cs = sized_made w the_list (AList (map ref cs))

-- a class may be given a name and bases, and any keywords
abbrev pub with_name_and_bases : PlainWorld → List PyObjectRef → Said → Said
with_name_and_bases w args go = cond (nat_le (length args) 3) go (Ends w (fault ArgCount))

abbrev pub type_repr : PlainWorld → List PyObjectRef → Bindings → Said
type_repr w args kw = with_lone_class w args kw (λ c. text_made w (class_text w c))

-- a class and one argument
abbrev pub with_class_and : PlainWorld → List PyObjectRef → Bindings → (ℕ → PyObjectRef → Said) → Said
with_class_and w args kw go = with_class w args (λ c. with_two w args kw (λ o a. go c a))

-- whether the object's class derives from the class
abbrev pub instance_check : PlainWorld → List PyObjectRef → Bindings → Said
instance_check w args kw = with_class_and w args kw (λ c o. Ends w (value (truth (is_instance w o c))))

-- whether another class derives from the class
abbrev pub subclass_check : PlainWorld → List PyObjectRef → Bindings → Said
subclass_check w args kw =
    with_class_and w args kw (λ c o. needed w (class_number (datum_at w o)) (λ d. Ends w (value (truth (is_sub w.classes d c)))))

abbrev pub type_subclasses : PlainWorld → List PyObjectRef → Bindings → Said
type_subclasses w args kw = with_lone_class w args kw (λ c. classes_made w (subclasses w.classes c))

abbrev pub type_mro : PlainWorld → List PyObjectRef → Bindings → Said
type_mro w args kw = with_lone_class w args kw (λ c. classes_made w (or_nothing (lin w.classes c)))

abbrev pub type_prepare : PlainWorld → List PyObjectRef → Said
type_prepare w args = with_class w args (λ c. with_name_and_bases w args (object_made w the_dict (ADict [])))

abbrev pub type_subclass_hook : PlainWorld → List PyObjectRef → Said
type_subclass_hook w args = with_class w args (λ c. Ends w (value not_implemented))

abbrev pub type_native_say : PlainWorld → TypeNative → List PyObjectRef → Bindings → Said
type_native_say w type.Repr args kw = type_repr w args kw
type_native_say w type.InstanceCheck args kw = instance_check w args kw
type_native_say w type.SubclassCheck args kw = subclass_check w args kw
type_native_say w type.Subclasses args kw = type_subclasses w args kw
type_native_say w type.Dir args kw = type_dir w args kw
type_native_say w type.Mro args kw = type_mro w args kw
type_native_say w type.Prepare args kw = type_prepare w args
type_native_say w type.SubclassHook args kw = type_subclass_hook w args
type_native_say w _ args kw = Ends w elsewhere
