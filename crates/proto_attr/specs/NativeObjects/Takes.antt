-- What the natives of objects, classes and descriptors take.
use Rattle.proto_attr.specs.Below.{ℕ, List, [], Option, Some, None, PyObjectRef, PyProperty, ArgCount, Text, Datum, AMember, AMethodDescriptor, AProperty, AStaticMethod, ASuper, PlainWorld, Bindings, Said, Ends, fault, without_keywords, with_class}
use Rattle.std.specs.Prelude.{◌∷◌}

-- the object, and one argument or none
abbrev pub with_one_or_two : PlainWorld → List PyObjectRef → Bindings → (PyObjectRef → Option PyObjectRef → Said) → Said
with_one_or_two w (o ∷ []) kw go = without_keywords w kw (go o None)
with_one_or_two w (o ∷ a ∷ []) kw go = without_keywords w kw (go o (Some a))
with_one_or_two w _ kw go = Ends w (fault ArgCount)

-- a class, and one argument or none
abbrev pub with_class_and_given : PlainWorld → List PyObjectRef → Bindings → (ℕ → Option PyObjectRef → Said) → Said
with_class_and_given w args kw go = with_class w args (λ c. with_one_or_two w args kw (λ o. go c))

-- the class and the name of a native as a method
abbrev pub method_in : Option Datum → Option (ℕ × Text)
method_in (Some (AMethodDescriptor c x n flags doc)) = Some (c, x)
method_in _ = None

-- the class and the name of a member
abbrev pub member_in : Option Datum → Option (ℕ × Text)
member_in (Some (AMember c x kind get set qualname doc)) = Some (c, x)
member_in _ = None

-- the parts of a property
abbrev pub property_in : Option Datum → Option PyProperty
property_in (Some (AProperty p)) = Some p
property_in _ = None

-- the callable that a static method wraps
abbrev pub static_in : Option Datum → Option PyObjectRef
static_in (Some (AStaticMethod f)) = Some f
static_in _ = None

-- the class past which `super` looks, and what it is bound to
abbrev pub super_in : Option Datum → Option (ℕ × Option (PyObjectRef × ℕ))
super_in (Some (ASuper c o)) = Some (c, o)
super_in _ = None
