-- Who wins where an object is asked for an attribute: what its class has under the name, or what a dict has.
use Rattle.proto_attr.specs.Below.{true, [], Option, Some, None, is_some, PyObjectRef, DescrGet, DescrSet, NoAttribute, Text, PlainWorld, AttributeJob, DoGeneric, DoGenericOpt, DoDescrGet, ToDescriptor, Ended, Answered, Asks, Ends, slot_at, type_object, special_at, own_value, value, fault}
use Rattle.std.specs.Prelude.{◌≡◌, ◌∷◌}
use Rattle.proto_attr.specs.Say.{attribute_say, maybe, value_for}

-- a row begins by asking a value of the class what it gives for an object of that class
abbrev pub AsksForIt : PlainWorld → AttributeJob → PyObjectRef → PyObjectRef → Type 0
AsksForIt w job a o = attribute_say w job [] ≡ Asks w [] (ToDescriptor (DoDescrGet a (Some o) (Some (type_object w o))))

-- or it ends at once
abbrev pub EndsAtOnce : PlainWorld → AttributeJob → Ended → Type 0
EndsAtOnce w job r = attribute_say w job [] ≡ Ends w r

-- the class of a value has what gets, and what sets
abbrev pub Gets : PlainWorld → PyObjectRef → Type 0
Gets w a = is_some (slot_at w a DescrGet) ≡ true

abbrev pub Sets : PlainWorld → PyObjectRef → Type 0
Sets w a = is_some (slot_at w a DescrSet) ≡ true

-- a value of the class that gets and sets is asked, whatever a dict has
abbrev pub GetterAndSetterWins : Type 0
GetterAndSetterWins =
    (w : PlainWorld) (o : PyObjectRef) (x : Text) (a : PyObjectRef) → special_at w o x ≡ Some a → Gets w a → Sets w a →
    AsksForIt w (DoGeneric o x) a o × ((d : Option PyObjectRef) → AsksForIt w (DoGenericOpt o x d) a o)

-- unless there is one, what the dict has is the answer, whatever else the class has
abbrev pub DictIsNext : Type 0
DictIsNext =
    (w : PlainWorld) (o : PyObjectRef) (x : Text) (v : PyObjectRef) →
    ((a : PyObjectRef) → special_at w o x ≡ Some a → Gets w a → Sets w a → ⊥) →
    (own_value w o x ≡ Some v → EndsAtOnce w (DoGeneric o x) (value v))
    × ((d : Option PyObjectRef) → value_for w o x d ≡ Some v → EndsAtOnce w (DoGenericOpt o x d) (maybe (Some v)))

-- where the dict has nothing, a value of the class that gets is asked, and another one is the answer
abbrev pub ClassIsLast : Type 0
ClassIsLast =
    (w : PlainWorld) (o : PyObjectRef) (x : Text) (a : PyObjectRef) → special_at w o x ≡ Some a →
    (own_value w o x ≡ None → (Gets w a → AsksForIt w (DoGeneric o x) a o) × ((Gets w a → ⊥) → EndsAtOnce w (DoGeneric o x) (value a)))
    × ((d : Option PyObjectRef) → value_for w o x d ≡ None → (Gets w a → AsksForIt w (DoGenericOpt o x d) a o) × ((Gets w a → ⊥) → EndsAtOnce w (DoGenericOpt o x d) (maybe (Some a))))

-- where neither has it, there is no such attribute
abbrev pub NeitherHasIt : Type 0
NeitherHasIt =
    (w : PlainWorld) (o : PyObjectRef) (x : Text) → special_at w o x ≡ None →
    (own_value w o x ≡ None → EndsAtOnce w (DoGeneric o x) (fault NoAttribute))
    × ((d : Option PyObjectRef) → value_for w o x d ≡ None → EndsAtOnce w (DoGenericOpt o x d) (maybe None))

-- what a value gives that was asked is the answer
abbrev pub AnswerIsGiven : Type 0
AnswerIsGiven =
    (w : PlainWorld) (o : PyObjectRef) (x : Text) →
    ((r : Ended) → attribute_say w (DoGeneric o x) (Answered r ∷ []) ≡ Ends w r)
    × ((d : Option PyObjectRef) (v : PyObjectRef) → attribute_say w (DoGenericOpt o x d) (Answered (value v) ∷ []) ≡ Ends w (maybe (Some v)))
