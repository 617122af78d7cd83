-- What the natives of containers take: an object of their kind, and arguments.
use Rattle.native_containers.specs.Below.{cond, is_some, length, List, [], PyObjectRef, ArgCount, SelfType, KeyType, PlainWorld, Bindings, Said, Ends, none, fault, key_at, with_one, with_two, with_three, datum_at, Kind, is_of}
use Rattle.std.specs.Prelude.{◌==◌, ◌∷◌}
use Rattle.row_kit.specs.declared.take_containers.Kind.TheVariants as kind

-- an argument that must be of a kind
abbrev pub with_kind : Kind → PlainWorld → PyObjectRef → Said → Said
with_kind k w o go = cond (is_of k (datum_at w o)) go (Ends w (fault SelfType))

-- there must be an object, and it must be of the kind
abbrev pub with_own : Kind → PlainWorld → List PyObjectRef → (PyObjectRef → Said) → Said
with_own k w [] go = Ends w (fault ArgCount)
with_own k w (o ∷ args) go = with_kind k w o (go o)

-- an object of the kind, alone
abbrev pub with_lone : Kind → PlainWorld → List PyObjectRef → Bindings → (PyObjectRef → Said) → Said
with_lone k w args kw go = with_own k w args (λ o. with_one w args kw (λ a. go o))

-- an object of the kind and one argument
abbrev pub with_own_and : Kind → PlainWorld → List PyObjectRef → Bindings → (PyObjectRef → PyObjectRef → Said) → Said
with_own_and k w args kw go = with_own k w args (λ o. with_two w args kw (λ a b. go o b))

-- an object of the kind and two arguments
abbrev pub with_own_and_two : Kind → PlainWorld → List PyObjectRef → Bindings → (PyObjectRef → PyObjectRef → PyObjectRef → Said) → Said
with_own_and_two k w args kw go = with_own k w args (λ o. with_three w args kw (λ a b c. go o b c))

-- a key of a dict is a number or a text
abbrev pub with_key : PlainWorld → PyObjectRef → Said → Said
with_key w k go = cond (is_some (key_at w k)) go (Ends w (fault KeyType))

-- a dict and a key
abbrev pub with_dict_and_key : PlainWorld → List PyObjectRef → Bindings → (PyObjectRef → PyObjectRef → Said) → Said
with_dict_and_key w args kw go = with_own_and kind.Dict w args kw (λ d k. with_key w k (go d k))

-- a key, and what is given without it: None, unless there is a third argument
abbrev pub with_default : PlainWorld → List PyObjectRef → Bindings → (PyObjectRef → PyObjectRef → Said) → Said
with_default w args kw go =
    cond (length args == 3) (with_three w args kw (λ a k v. go k v)) (with_two w args kw (λ a k. go k none))
