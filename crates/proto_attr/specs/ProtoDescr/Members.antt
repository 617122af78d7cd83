-- What the descriptors of members read and set.
use Rattle.proto_attr.specs.Below.{ℕ, Bool, true, false, cond, List, [], Option, Some, None, PyObjectRef, EmptyMember, MemberBool, MemberClass, ReadOnly, MemberKind, MemberGetter, MemberSetter, place_at, Datum, AMember, PlainWorld, Ended, Said, Ends, value_at_place, with_value_at_place, the_bool, native_task, is_instance, pass, value, done, fault, truth}
use Rattle.std.specs.Prelude.{◌∷◌}
use Rattle.py_node.specs.declared.payload.MemberKind.TheVariants as kind
use Rattle.py_node.specs.declared.payload.MemberGetter.TheVariants as getter
use Rattle.py_node.specs.declared.payload.MemberSetter.TheVariants as setter

-- a native that sets an attribute of objects takes the object and the value, and the object alone where the attribute is taken out
abbrev pub with_value : PyObjectRef → Option PyObjectRef → List PyObjectRef
with_value o None = o ∷ []
with_value o (Some v) = o ∷ v ∷ []

-- an empty place is False where the member is a truth value, and else it is a fault to read it
abbrev pub or_empty : MemberKind → Option PyObjectRef → Ended
or_empty kind.Bool None = value (truth false)
or_empty kind.ObjectEx None = fault EmptyMember
or_empty k (Some v) = value v

-- a member of the objects of a class is read by a native, or in its place
abbrev pub read_member : PlainWorld → ℕ → MemberKind → MemberGetter → PyObjectRef → Said
read_member w c k (getter.Getter n) o = pass w (native_task n (o ∷ []) [])
read_member w c k (getter.Offset i) o = Ends w (or_empty k (value_at_place w o (place_at w.classes c i)))

-- only objects of its class have it. Without an object the descriptor gives itself
abbrev pub member_get : PlainWorld → Option Datum → PyObjectRef → Option PyObjectRef → Said
member_get w (Some (AMember c x k get set qualname doc)) m (Some o) =
    cond (is_instance w o c) (read_member w c k get o) (Ends w (fault MemberClass))
member_get w _ m o = Ends w (value m)

-- a member that is a truth value takes no other objects
abbrev pub takes : PlainWorld → MemberKind → Option PyObjectRef → Bool
takes w kind.Bool (Some v) = is_instance w v the_bool
takes w k v = true

-- it is set by a native, if by anything, or in its place, which may be emptied
abbrev pub set_member : PlainWorld → ℕ → MemberKind → MemberSetter → PyObjectRef → Option PyObjectRef → Said
set_member w c k (setter.Setter None) o v = Ends w (fault ReadOnly)
set_member w c k (setter.Setter (Some n)) o v = pass w (native_task n (with_value o v) [])
set_member w c k (setter.Offset i) o v =
    cond (takes w k v) (Ends (with_value_at_place w o (place_at w.classes c i) v) done) (Ends w (fault MemberBool))

abbrev pub member_set : PlainWorld → Option Datum → PyObjectRef → Option PyObjectRef → Said
member_set w (Some (AMember c x k get set qualname doc)) o v =
    cond (is_instance w o c) (set_member w c k set o v) (Ends w (fault MemberClass))
member_set w _ o v = Ends w done
