-- What natives take of classes, descriptors and properties.
use Rattle.row_kit.specs.Below.{ℕ, cond, eqb, List, Option, Some, None, [], PyObjectRef, BuiltIn, UnsafeNew, ArgCount, SelfType, place_of, PlainWorld, Said, Ends, Datum, Bindings, nearest_built_in, class_number, fault, Cause, datum_at, with_one}
use Rattle.std.specs.Prelude.{◌∷◌}

abbrev pub safe_for : PlainWorld → ℕ → Option ℕ → Said → Said
safe_for w b None go = Ends w (fault UnsafeNew)
safe_for w b (Some c) go = cond (eqb c b) go (Ends w (fault UnsafeNew))

-- goes on with what is there, or else there is a fault
abbrev pub there_or : {A : Type 0} → PlainWorld → Cause → Option A → (A → Said) → Said
there_or w cause None go = Ends w (fault cause)
there_or w cause (Some a) go = go a

-- what is read of an object must be there: else the object is of another kind
abbrev pub needed : {A : Type 0} → PlainWorld → Option A → (A → Said) → Said
needed w o go = there_or w SelfType o go

-- there must be an object, of which this can be read
abbrev pub with_own : {A : Type 0} → (Option Datum → Option A) → PlainWorld → List PyObjectRef → (PyObjectRef → A → Said) → Said
with_own read w [] go = Ends w (fault ArgCount)
with_own read w (o ∷ args) go = needed w (read (datum_at w o)) (go o)

-- a class
abbrev pub with_class : PlainWorld → List PyObjectRef → (ℕ → Said) → Said
with_class w args go = with_own class_number w args (λ o c. go c)

-- a class whose objects are those of this built-in class. Other arguments count for nothing
abbrev pub with_heir : PlainWorld → BuiltIn → List PyObjectRef → (ℕ → Said) → Said
with_heir w b args go = with_class w args (λ c. safe_for w (place_of b) (nearest_built_in w.classes c) (go c))

-- a class, alone
abbrev pub with_lone_class : PlainWorld → List PyObjectRef → Bindings → (ℕ → Said) → Said
with_lone_class w args kw go = with_class w args (λ c. with_one w args kw (λ o. go c))
