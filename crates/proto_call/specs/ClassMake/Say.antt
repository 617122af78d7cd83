-- What the rows of the creation of classes say.
use Rattle.proto_call.specs.Below.{option_or, ℕ, Bool, false, cond, not, eqb, List, [], Option, Some, None, is_some, option_and_then, map, length, filter, Result, Ok, Err, PyObjectRef, Cause, ArgCount, BasesNotTypes, MetaclassConflict, MroEntries, NamespaceKey, NullInName, SelfType, SetNameCalled, SlotsType, TypeArgs, TypeArgTypes, UnsafeNew, New, Getter, Setter, TypeNative, ObjectEx, value_of, with_value, Text, known_text, Class, found, found_past, is_sub, place_count, all_some, entry, any_has_dict, slots_bring, slot_members, heap_class, natives_of, refused_layout, refused_order, qualified, refused_name, Datum, AText, ATuple, AList, ADict, AClassMethod, AStaticMethod, AProperty, AGetSet, AMember, PlainWorld, Bindings, ClassJob, DoMakeClass, DoType, DoBind, DoCall, DoGetAttr, DoTypeCall, DoTypeGet, DoTypeSet, DoNew, ToAttribute, ToCall, ToClass, Answered, Chose, Made, Ended, Said, Asks, Ends, ref, is_text, datum_at, class_at, text_keys, with_node, next_node, with_new_class, with_own_attr, type_object, class_number, special_at, nearest_built_in, with_definer, the_object, the_type, the_str, the_tuple, the_list, the_function, the_getset, the_class_method, with_two, with_three, with_text, native_end, Row, start, ask, noting, read_names, read_objects, pass, end, value, fault, none, is_attribute_error, on_value, on_done, has_null}
use Rattle.std.specs.Prelude.{◌+◌, ◌-◌, ◌&&◌, ◌||◌, ◌∷◌, ◌++◌}
use Rattle.py_node.specs.declared.entry.Property.TheVariants as property
use Rattle.py_node.specs.declared.entry.TypeNative.TheVariants as type
use Rattle.py_node.specs.declared.payload.MemberGetter.TheVariants as getter
use Rattle.py_node.specs.declared.payload.MemberSetter.TheVariants as setter
use Rattle.py_node.specs.declared.known.Known.TheVariants as known
use Rattle.class_model.specs.Class.{class_at as class_numbered}
use Rattle.proto_call.specs.ClassMake.TypeNatives.{type_native_say}

-- the entries of a dict
abbrev pub Entries : Type 0
Entries = List (PyObjectRef × PyObjectRef)

abbrev pub is_class : Option ℕ → ℕ → Bool
is_class None d = false
is_class (Some c) d = eqb c d

-- what there is, as a list
abbrev pub there : {A : Type 0} → Option A → List A
there None = []
there (Some x) = x ∷ []

-- the class of the descriptors of members
abbrev pub the_member : ℕ
the_member = 16

-- the attributes of a namespace

abbrev pub has_name : Bindings → Text → Bool
has_name attrs x = is_some (value_of (λ y. is_text y x) attrs)

abbrev pub text_of : Option Datum → Option Text
text_of (Some (AText x)) = Some x
text_of _ = None

-- the names with one more, where its key is a text
abbrev pub named : Bindings → PyObjectRef → Option Text → Option Bindings
named attrs v None = None
named attrs v (Some x) = Some (with_value is_text attrs x v)

abbrev pub namespace_from : PlainWorld → Option Bindings → Entries → Option Bindings
namespace_from w None es = None
namespace_from w (Some attrs) [] = Some attrs
namespace_from w (Some attrs) (e ∷ es) = namespace_from w (named attrs e.1 (text_of (datum_at w e.0))) es

-- a dict's texts with their values, where all its keys are texts
abbrev pub namespace : PlainWorld → Entries → Option Bindings
namespace w es = namespace_from w (Some []) es

-- a world, and the attributes that a class is to have
abbrev pub Space : Type 0
Space = PlainWorld × Bindings

-- a new object under a name
unfoldable pub put : Space → Text → ℕ → Datum → Space
put s x c d = (with_node s.0 c d, with_value is_text s.1 x (next_node s.0 c))

-- the same, where the name has no value
unfoldable pub give : Space → Text → ℕ → Datum → Space
give s x c d = cond (has_name s.1 x) s (put s x c d)

-- a function under a name becomes a new class method of it
unfoldable pub wrap_value : Space → Text → Option PyObjectRef → Space
wrap_value s x None = s
wrap_value s x (Some v) = cond (is_class (class_at s.0 v) the_function) (put s x the_class_method (AClassMethod v)) s

unfoldable pub wrap : Text → Space → Space
wrap x s = wrap_value s x (value_of (λ y. is_text y x) s.1)

-- the qualified name is the name, where none is given
unfoldable pub qualify : Text → Space → Space
qualify name s = give s (known_text known.Qualname) the_str (AText name)

-- objects that are compared by a method of their own have no hash, unless one is given
unfoldable pub unhash : Space → Space
unhash s = cond (has_name s.1 (known_text known.Eq) && not (has_name s.1 (known_text known.Hash))) (s.0, with_value is_text s.1 (known_text known.Hash) none) s

-- the attribute that reads and sets an object's dict
unfoldable pub give_dict : Space → Space
give_dict s =
    give s (known_text known.Dict) the_getset (AGetSet the_object (known_text known.Dict) (Some (Getter property.InstanceDict)) (Some (Setter property.InstanceDict)))

unfoldable pub completed : Text → Space → Space
completed name s = unhash (qualify name (wrap (known_text known.ClassGetitem) (wrap (known_text known.InitSubclass) s)))

-- whether a class with these bases and `__slots__`, or with none, gives its objects a dict
abbrev pub would_have_dict : PlainWorld → List ℕ → Option (List Text) → Bool
would_have_dict w bases slots = slots_bring text_keys slots || any_has_dict w.classes bases

-- then it has that attribute
unfoldable pub dicted : List ℕ → Option (List Text) → Space → Space
dicted bases slots s = cond (would_have_dict s.0 bases slots) (give_dict s) s

-- the functions of a class, which it defines

-- the functions that a value of a namespace is or wraps: the callable of a class method or a static method, the parts of a property
abbrev pub functions_of : PyObjectRef → Option Datum → List PyObjectRef
functions_of r (Some (AClassMethod f)) = f ∷ []
functions_of r (Some (AStaticMethod f)) = f ∷ []
functions_of r (Some (AProperty p)) = there p.fget ++ (there p.fset ++ there p.fdel)
functions_of r _ = r ∷ []

-- each of some functions that no class defines yet is defined by this one
abbrev pub defined : ℕ → PlainWorld → List PyObjectRef → PlainWorld
defined c w [] = w
defined c w (f ∷ fs) = defined c (with_definer w c f) fs

abbrev pub with_functions : ℕ → PlainWorld → List PyObjectRef → PlainWorld
with_functions c w [] = w
with_functions c w (v ∷ vs) = with_functions c (defined c w (functions_of v (datum_at w v))) vs

abbrev pub values_of : {K : Type 0} → List (K × PyObjectRef) → List PyObjectRef
values_of attrs = map (λ a. a.1) attrs

-- the members of a class

-- the objects that `__slots__` names: a text, or the items of a tuple or a list. An object of a class derived from theirs will not do
abbrev pub slots_in : PyObjectRef → Option ℕ → Option Datum → Option (List PyObjectRef)
slots_in r c (Some (AText x)) = cond (is_class c the_str) (Some (r ∷ [])) None
slots_in r c (Some (ATuple rs)) = cond (is_class c the_tuple) (Some rs) None
slots_in r c (Some (AList rs)) = cond (is_class c the_list) (Some rs) None
slots_in r c _ = None

abbrev pub texts_of : PlainWorld → List PyObjectRef → Option (List Text)
texts_of w rs = all_some (map (λ r. text_of (datum_at w r)) rs)

-- the names that a value of `__slots__` gives, all of which must be texts
abbrev pub names_in : PlainWorld → PyObjectRef → Option (List Text)
names_in w r = option_and_then (texts_of w) (slots_in r (class_at w r) (datum_at w r))

-- a member at this place of the objects of a class
abbrev pub a_member : ℕ → ℕ → Text → Datum
a_member c n x = AMember c x ObjectEx (getter.Offset n) (setter.Offset n) None None

-- the descriptor of a member, as an attribute of its class
unfoldable pub put_member : ℕ → ℕ → Text → PlainWorld → PlainWorld
put_member c n x w = with_own_attr (with_node w the_member (a_member c n x)) c x (next_node w the_member)

-- a name that the class has an attribute of, itself or by inheritance, gets none
unfoldable pub with_member : ℕ → ℕ → Text → PlainWorld → PlainWorld
with_member c n x w = cond (is_some (found is_text w.classes c x)) w (put_member c n x w)

abbrev pub with_members : ℕ → ℕ → List Text → PlainWorld → PlainWorld
with_members c n [] w = w
with_members c n (x ∷ xs) w = with_members c (n + 1) xs (with_member c n x w)

abbrev pub or_zero : Option ℕ → ℕ
or_zero None = 0
or_zero (Some n) = n

-- where the places begin that a class gives its objects itself: they are the last ones
abbrev pub places_from : PlainWorld → ℕ → List Text → ℕ
places_from w c names = or_zero (place_count w.classes c) - length names

abbrev pub with_own_members : ℕ → List Text → PlainWorld → PlainWorld
with_own_members c names w = with_members c (places_from w c names) names w

-- a class that is made is told of

-- what a value is told its name by, if by anything
abbrev pub name_hook : PlainWorld → PyObjectRef → List PyObjectRef
name_hook w v = there (special_at w v (known_text known.SetName))

abbrev pub bind_hook : PlainWorld → Text → PyObjectRef → List PyObjectRef → ((Bindings → Row) → Row) → (Bindings → Row) → Row
bind_hook w x v [] rest go = rest go
bind_hook w x v (m ∷ ms) rest go =
    ask w (ToAttribute (DoBind m (Some v) (type_object w v))) (λ r. on_value w r (λ b. rest (λ bs. go ((x, b) ∷ bs))))

-- goes on with the names of those values that want to know them, and with what each is told its name by, bound to it: each is looked up in its turn
abbrev pub bind_hooks : PlainWorld → Bindings → (Bindings → Row) → Row
bind_hooks w [] go = go []
bind_hooks w (a ∷ more) go = read_objects (name_hook w a.1) (λ ms. bind_hook w a.0 a.1 ms (bind_hooks w more) go)

-- a value is told the class and its name, a new text
abbrev pub call_hook : PlainWorld → PyObjectRef → Text → PyObjectRef → Said
call_hook w class x b =
    Asks (with_node w the_str (AText x)) [] (ToCall (DoCall b (class ∷ next_node w the_str ∷ []) []))

-- goes on unless there was a fault, whose place another takes
abbrev pub unless_raised : PlainWorld → Ended → Row → Row
unless_raised w (Ok a) go = go
unless_raised w (Err x) go = end w (fault SetNameCalled)

abbrev pub call_hooks : PlainWorld → PyObjectRef → Bindings → Row → Row
call_hooks w class [] go = go
call_hooks w class (b ∷ bs) go = start (call_hook w class b.0 b.1) (λ r. unless_raised w r (call_hooks w class bs go))

-- the class is known to those past it along its linearisation by `__init_subclass__`
abbrev pub hook : PlainWorld → PyObjectRef → Option PyObjectRef → Said
hook w class None = Ends w (value class)
hook w class (Some m) = Asks w [] (ToAttribute (DoBind m None class))

-- the metaclass of a class is no keyword of the hook
abbrev pub without_metaclass : Bindings → Bindings
without_metaclass kw = filter (λ k. not (is_text k.0 (known_text known.Metaclass))) kw

-- the bound hook is called, and then the class is the answer
abbrev pub init_subclass : PlainWorld → PyObjectRef → Bindings → Row
init_subclass w class kw =
    start (hook w class (found_past is_text w.classes class.0 (known_text known.InitSubclass))) (λ r. on_value w r (λ b.
    start (pass w (ToCall (DoCall b [] (without_metaclass kw)))) (λ s. on_done w s (end w (value class)))))

abbrev pub attrs_in : Option (Class Text) → Bindings
attrs_in None = []
attrs_in (Some k) = k.attrs

abbrev pub own_values : PlainWorld → ℕ → Bindings
own_values w c = attrs_in (class_numbered w.classes c)

-- first all values that want to know their names, as they are then, and then the classes past this one
abbrev pub tell : PlainWorld → PyObjectRef → Bindings → Row
tell w class kw =
    read_names (own_values w class.0) (λ values. bind_hooks w values (λ bs. call_hooks w class bs (init_subclass w class kw)))

-- the class is made

abbrev pub new_class : PlainWorld → ℕ → Text → List ℕ → Bindings → Option (List Text) → PlainWorld
new_class w meta name bases attrs slots =
    with_new_class w meta (heap_class text_keys w.classes name (length w.nodes) bases attrs slots)

-- the class with the descriptors of its members, and with its functions
unfoldable pub whole_class : PlainWorld → ℕ → Text → List ℕ → Bindings → Option (List Text) → PlainWorld
whole_class w meta name bases attrs slots =
    with_own_members (length w.nodes) (slot_members text_keys slots) (with_functions (length w.nodes) (new_class w meta name bases attrs slots) (values_of attrs))

-- why bases that may be bases together have no order, or a qualified name is no text
abbrev pub refusal : PlainWorld → List ℕ → Bindings → Option Cause
refusal w bases attrs = option_or (refused_order w.classes bases) (refused_name w (qualified attrs))

unfoldable pub made_unless : Option Cause → ℕ → Text → List ℕ → Option (List Text) → Bindings → Space → Said
made_unless (Some cause) meta name bases slots kw s = Ends s.0 (fault cause)
made_unless None meta name bases slots kw s =
    let class = ref (length s.0.nodes) in
    noting (Made class) (tell (whole_class s.0 meta name bases s.1 slots) class kw [])

abbrev pub made_in : ℕ → Text → List ℕ → Option (List Text) → Bindings → Space → Said
made_in meta name bases slots kw s = made_unless (refusal s.0 bases s.1) meta name bases slots kw s

-- with what `__slots__` name, where there are some
abbrev pub with_slots : ℕ → Text → List ℕ → Option (List Text) → Bindings → Space → Said
with_slots meta name bases slots kw s = made_in meta name bases slots kw (dicted bases slots s)

abbrev pub with_names : Option (List Text) → ℕ → Text → List ℕ → Bindings → Space → Said
with_names None meta name bases kw s = Ends s.0 (fault SlotsType)
with_names (Some names) meta name bases kw s = with_slots meta name bases (Some names) kw s

abbrev pub by_slots : Option PyObjectRef → ℕ → Text → List ℕ → Bindings → Space → Said
by_slots None meta name bases kw s = with_slots meta name bases None kw s
by_slots (Some r) meta name bases kw s = with_names (names_in s.0 r) meta name bases kw s

unfoldable pub made : ℕ → Text → List ℕ → Bindings → Space → Said
made meta name bases kw s = by_slots (value_of (λ y. is_text y (known_text known.Slots)) s.1) meta name bases kw s

abbrev pub with_namespace : PlainWorld → ℕ → Text → List ℕ → Option Bindings → Bindings → Said
with_namespace w meta name bases None kw = Ends w (fault NamespaceKey)
with_namespace w meta name bases (Some attrs) kw = made meta name bases kw (completed name (w, attrs))

-- classes that may not be bases together are refused before the namespace is read
abbrev pub on_layout : PlainWorld → Option Cause → ℕ → Text → List ℕ → Entries → Bindings → Said
on_layout w (Some cause) meta name bases es kw = Ends w (fault cause)
on_layout w None meta name bases es kw = with_namespace w meta name bases (namespace w es) kw

abbrev pub on_bases : PlainWorld → ℕ → Text → List ℕ → Entries → Bindings → Said
on_bases w meta name bases es kw = on_layout w (refused_layout w.classes bases) meta name bases es kw

-- of two metaclasses the one that derives from the other
abbrev pub derived : PlainWorld → ℕ → Option ℕ → Option ℕ
derived w meta None = None
derived w meta (Some d) = cond (is_sub w.classes meta d) (Some meta) (cond (is_sub w.classes d meta) (Some d) None)

-- the metaclass: of the given one and those of all bases, one after another
abbrev pub winner : PlainWorld → ℕ → List PyObjectRef → Option ℕ
winner w meta [] = Some meta
winner w meta (b ∷ bs) = option_and_then (λ c. winner w c bs) (derived w meta (class_at w b))

-- another metaclass that makes its objects itself is asked for the class
abbrev pub by_winner : PlainWorld → ℕ → Option ℕ → Text → List ℕ → Entries → List PyObjectRef → Bindings → Said
by_winner w meta None name bases es args kw = Ends w (fault MetaclassConflict)
by_winner w meta (Some c) name bases es args kw =
    cond (not (eqb c meta) && is_some (entry text_keys natives_of w.classes c New)) (pass w (ToCall (DoNew c c args kw))) (on_bases w c name bases es kw)

abbrev pub with_class : PyObjectRef → Option ℕ → Result (List ℕ) PyObjectRef → Result (List ℕ) PyObjectRef
with_class b None rest = Err b
with_class b (Some c) (Err d) = Err d
with_class b (Some c) (Ok cs) = Ok (c ∷ cs)

-- the classes that some objects are, or the first that is none
abbrev pub classes_of : PlainWorld → List PyObjectRef → Result (List ℕ) PyObjectRef
classes_of w [] = Ok []
classes_of w (b ∷ bs) = with_class b (class_number (datum_at w b)) (classes_of w bs)

-- the first base that is no class is asked for others
abbrev pub by_classes : PlainWorld → ℕ → Text → List PyObjectRef → Result (List ℕ) PyObjectRef → Entries → List PyObjectRef → Bindings → Said
by_classes w meta name bs (Err b) es args kw = Asks w (Chose 0 ∷ []) (ToAttribute (DoGetAttr b (known_text known.MroEntries)))
by_classes w meta name bs (Ok cs) es args kw = by_winner w meta (winner w meta bs) name cs es args kw

-- no bases stand for `object`
abbrev pub by_bases : PlainWorld → ℕ → Text → List PyObjectRef → Entries → List PyObjectRef → Bindings → Said
by_bases w meta name [] es args kw = on_bases w meta name (the_object ∷ []) es kw
by_bases w meta name (b ∷ bs) es args kw = by_classes w meta name (b ∷ bs) (classes_of w (b ∷ bs)) es args kw

abbrev pub tuple_of : Option Datum → Option (List PyObjectRef)
tuple_of (Some (ATuple rs)) = Some rs
tuple_of _ = None

abbrev pub dict_of : Option Datum → Option Entries
dict_of (Some (ADict es)) = Some es
dict_of _ = None

abbrev pub by_parts : PlainWorld → ℕ → Option Text → Option (List PyObjectRef) → Option Entries → List PyObjectRef → Bindings → Said
by_parts w meta (Some name) (Some bases) (Some es) args kw =
    cond (has_null name) (Ends w (fault NullInName)) (by_bases w meta name bases es args kw)
by_parts w meta _ _ _ args kw = Ends w (fault TypeArgTypes)

abbrev pub from_three : PlainWorld → ℕ → Option (PyObjectRef × (PyObjectRef × PyObjectRef)) → List PyObjectRef → Bindings → Said
from_three w meta None args kw = Ends w (fault TypeArgs)
from_three w meta (Some (n, (b, d))) args kw = by_parts w meta (text_of (datum_at w n)) (tuple_of (datum_at w b)) (dict_of (datum_at w d)) args kw

-- the one argument, without keywords
abbrev pub one_of : {K : Type 0} → List PyObjectRef → List (K × PyObjectRef) → Option PyObjectRef
one_of (o ∷ []) [] = Some o
one_of _ kw = None

abbrev pub three_of : List PyObjectRef → Option (PyObjectRef × (PyObjectRef × PyObjectRef))
three_of (n ∷ (b ∷ (d ∷ []))) = Some (n, (b, d))
three_of _ = None

abbrev pub by_one : PlainWorld → ℕ → Option PyObjectRef → List PyObjectRef → Bindings → Said
by_one w meta (Some o) args kw = cond (eqb meta the_type) (Ends w (value (type_object w o))) (Ends w (fault TypeArgs))
by_one w meta None args kw = from_three w meta (three_of args) args kw

-- `type` of one object, without keywords, is the object's class. A class is made from a name, bases and a namespace
abbrev pub make_class_by : PlainWorld → ℕ → List PyObjectRef → Bindings → Said
make_class_by w meta args kw = by_one w meta (one_of args kw) args kw

-- a base that is no class and names others is refused, and so is one that does not
abbrev pub no_class : PlainWorld → Ended → Row
no_class w (Ok a) = end w (fault MroEntries)
no_class w (Err x) = end w (cond (is_attribute_error x.kind) (fault BasesNotTypes) (Err x))

abbrev pub or_no_class : PlainWorld → Row → Row
or_no_class w row (Chose way ∷ (Answered r ∷ more)) = no_class w r more
or_no_class w row told = row told

-- goes on with a class that was made
abbrev pub or_made : (PyObjectRef → Row) → Row → Row
or_made go row (Made class ∷ more) = go class more
or_made go row told = row told

abbrev pub make_class_say : PlainWorld → ℕ → List PyObjectRef → Bindings → Row
make_class_say w meta args kw =
    or_made (λ class. tell w class kw) (or_no_class w (start (make_class_by w meta args kw) (end w)))

-- the native that makes the objects of `type`

abbrev pub type_new_of : PlainWorld → Option ℕ → List PyObjectRef → Bindings → Said
type_new_of w None args kw = Ends w (fault SelfType)
type_new_of w (Some c) args kw =
    cond (is_class (nearest_built_in w.classes c) the_type) (pass w (ToClass (DoMakeClass c args kw))) (Ends w (fault UnsafeNew))

abbrev pub type_new : PlainWorld → List PyObjectRef → Bindings → Said
type_new w [] kw = Ends w (fault ArgCount)
type_new w (c ∷ args) kw = type_new_of w (class_number (datum_at w c)) args kw

-- the first argument must be a class
abbrev pub class_in : PlainWorld → Option ℕ → (ℕ → Said) → Said
class_in w None go = Ends w (fault SelfType)
class_in w (Some c) go = go c

abbrev pub with_self : PlainWorld → List PyObjectRef → (ℕ → Said) → Said
with_self w [] go = Ends w (fault ArgCount)
with_self w (o ∷ args) go = class_in w (class_number (datum_at w o)) go

-- an attribute by its name, as classes read and set it
abbrev pub type_get_attribute : PlainWorld → List PyObjectRef → Bindings → Said
type_get_attribute w args kw =
    with_self w args (λ c. with_two w args kw (λ o n. with_text w n (λ x. pass w (ToAttribute (DoTypeGet c x)))))

abbrev pub type_set_attr : PlainWorld → List PyObjectRef → Bindings → Said
type_set_attr w args kw =
    with_self w args (λ c. with_three w args kw (λ o n v. with_text w n (λ x. pass w (ToAttribute (DoTypeSet c x (Some v))))))

abbrev pub type_del_attr : PlainWorld → List PyObjectRef → Bindings → Said
type_del_attr w args kw =
    with_self w args (λ c. with_two w args kw (λ o n. with_text w n (λ x. pass w (ToAttribute (DoTypeSet c x None)))))

-- a class is called by name: any arguments and keywords will do
abbrev pub called_with : PlainWorld → Option ℕ → List PyObjectRef → Bindings → Said
called_with w None args kw = Ends w (fault SelfType)
called_with w (Some c) args kw = pass w (ToCall (DoTypeCall c args kw))

abbrev pub type_call : PlainWorld → List PyObjectRef → Bindings → Said
type_call w [] kw = Ends w (fault ArgCount)
type_call w (c ∷ args) kw = called_with w (class_number (datum_at w c)) args kw

-- those that ask no task say what they end with
abbrev pub type_by : PlainWorld → TypeNative → List PyObjectRef → Bindings → Said
type_by w type.New args kw = type_new w args kw
type_by w type.GetAttribute args kw = type_get_attribute w args kw
type_by w type.SetAttr args kw = type_set_attr w args kw
type_by w type.DelAttr args kw = type_del_attr w args kw
type_by w type.Call args kw = type_call w args kw
type_by w n args kw = type_native_say w n args kw

abbrev pub type_say : PlainWorld → TypeNative → List PyObjectRef → Bindings → Row
type_say w n args kw = start (type_by w n args kw) (native_end w)

unfoldable pub class_job_say : PlainWorld → ClassJob → Row
class_job_say w (DoMakeClass c args kw) told = make_class_say w c args kw told
class_job_say w (DoType n args kw) told = type_say w n args kw told
