-- What the natives say that tell a part of a property or of a member for which other objects are asked.
use Rattle.proto_attr.specs.Below.{ℕ, Bool, true, false, cond, codes, List, [], Option, Some, None, Result, Ok, Err, PyObjectRef, Raised as Fault, QualnameType, IsAbstract, Qualname, NativeEntry, GetterOf, known_text, Or, Text, class_object, with_datum, Datum, AText, AMember, AProperty, PlainWorld, Bindings, DoGetAttr, DoBinary, PlainTask, ToAttribute, ToOperator, ToNative, AsValue, Ended, ReadObjects, Said, Asks, Ends, Row, start, ask, end, value, none, truth, fault, elsewhere, is_attribute_error, on_value, read_objects, with_one, datum_at, in_length, text_made, argument, tested_first, with_read, with_own}
use Rattle.std.specs.Prelude.{◌∷◌, ◌++◌}
use Rattle.py_node.specs.declared.built_in.BuiltIn.TheVariants as built_in
use Rattle.py_node.specs.declared.known.Known.TheVariants as known
use Rattle.proto_attr.specs.NativeObjects.Takes.{property_in}

-- whether a property is abstract

-- an accessor says itself whether it is. One that can't tell is not, nor is one that is missing
abbrev pub or_false : Ended → PyObjectRef
or_false (Ok (AsValue v)) = v
or_false r = truth false

abbrev pub abstract_of : PlainWorld → List PyObjectRef → (PyObjectRef → Row) → Row
abstract_of w [] go = go (truth false)
abstract_of w (f ∷ fs) go = ask w (ToAttribute (DoGetAttr f (known_text known.Isabstractmethod))) (λ r. go (or_false r))

abbrev pub listed : Option PyObjectRef → List PyObjectRef
listed None = []
listed (Some r) = r ∷ []

-- what gets and what sets, where an object is a property
abbrev pub getter_at : Option Datum → List PyObjectRef
getter_at (Some (AProperty p)) = listed p.fget
getter_at _ = []

abbrev pub setter_at : Option Datum → List PyObjectRef
setter_at (Some (AProperty p)) = listed p.fset
setter_at _ = []

-- whatever fault there is, it is not abstract
abbrev pub or_not_abstract : PlainWorld → Ended → Row
or_not_abstract w (Err x) = end w (value (truth false))
or_not_abstract w r = end w r

abbrev pub joined : PlainWorld → PyObjectRef → PyObjectRef → Row
joined w s g = ask w (ToOperator (DoBinary Or s g)) (or_not_abstract w)

-- the getter is asked and then the setter, and both answers are joined as by `|`
abbrev pub abstract_by : PlainWorld → List PyObjectRef → List PyObjectRef → Row
abstract_by w getters setters =
    read_objects getters (λ gs. abstract_of w gs (λ g. read_objects setters (λ ss. abstract_of w ss (λ s. joined w s g))))

-- they are read of the property as each is asked
abbrev pub is_abstract : PlainWorld → PyObjectRef → Row
is_abstract w m = abstract_by w (getter_at (datum_at w m)) (setter_at (datum_at w m))

abbrev pub property_abstract : PlainWorld → List PyObjectRef → Bindings → Row
property_abstract w args kw =
    tested_first (with_own property_in w args (λ o p. with_one w args kw (λ a. abstract_by w (listed p.fget) (listed p.fset) []))) (is_abstract w (argument args 0))

-- the qualified name of a member is kept, or else its class is asked for its own
abbrev pub name_known : PlainWorld → PyObjectRef → ℕ → Option Text → Said
name_known w m c (Some x) = text_made w (in_length x)
name_known w m c None = Asks w (ReadObjects (m ∷ []) ∷ []) (ToAttribute (DoGetAttr (class_object w c) (known_text known.Qualname)))

-- its class, and the qualified name, if it is kept
abbrev pub kept_name : Option Datum → Option (ℕ × Option Text)
kept_name (Some (AMember c x k get set qualname doc)) = Some (c, qualname)
kept_name _ = None

abbrev pub member_name : PlainWorld → List PyObjectRef → Bindings → Said
member_name w args kw = with_own kept_name w args (λ m c. with_one w args kw (λ a. name_known w m c.0 c.1))

-- the name that the class has for it, which must be a text, and then the member's own name
abbrev pub dotted : Text → Option Datum → Result Text Fault
dotted x (Some (AText q)) = in_length (q ++ codes "." ++ x)
dotted x _ = fault QualnameType

abbrev pub with_name : Text → Datum → Datum
with_name y (AMember c x k get set qualname doc) = AMember c x k get set (Some y) doc
with_name y d = d

-- it is kept, and told as a new text
abbrev pub named_so : PlainWorld → PyObjectRef → Datum → Result Text Fault → Said
named_so w m d (Err x) = Ends w (Err x)
named_so w m d (Ok y) = text_made (with_datum w m (with_name y d)) (Ok y)

abbrev pub named_by : PlainWorld → PyObjectRef → Option Datum → PyObjectRef → Said
named_by w m (Some (AMember c x k get set qualname doc)) q =
    named_so w m (AMember c x k get set qualname doc) (dotted x (datum_at w q))
named_by w m _ q = Ends w (value none)

-- where the class has no such name, it is None, and is not kept
abbrev pub name_given : PlainWorld → PyObjectRef → Ended → Row
name_given w m (Err x) = end w (cond (is_attribute_error x.kind) (value none) (Err x))
name_given w m r = on_value w r (λ q. start (named_by w m (datum_at w m) q) (end w))

abbrev pub name_rest : PlainWorld → List PyObjectRef → Ended → Row
name_rest w (m ∷ []) r = name_given w m r
name_rest w _ r = end w r

abbrev pub member_qualname : PlainWorld → List PyObjectRef → Bindings → Row
member_qualname w args kw = with_read (member_name w args kw) (name_rest w)

abbrev pub details_native_say : PlainWorld → NativeEntry → List PyObjectRef → Bindings → Row
details_native_say w (GetterOf built_in.Property d) args kw = property_abstract w args kw
details_native_say w (GetterOf built_in.MemberDescriptor d) args kw = member_qualname w args kw
details_native_say w n args kw = end w elsewhere

-- these natives, as a group of rows
unfoldable pub detail_job_say : PlainWorld → PlainTask → Row
detail_job_say w (ToNative n args kw) told = details_native_say w n args kw told
detail_job_say w _ told = end w elsewhere told
