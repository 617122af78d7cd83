-- What the natives say that make or fill texts, tuples and lists from an object.
use Rattle.native_containers.specs.Below.{ℕ, cond, eqb, List, [], PyObjectRef, ArgCount, the_str, class_object, with_datum, AText, ATuple, AList, PlainWorld, Bindings, DoCollect, DoStr, PlainTask, ToProtocol, ToObject, Ended, ReadObjects, Said, Asks, Ends, Row, value, none, fault, on_value, without_keywords, object_made, with_heir, on_objects, argument, as_said, with_read}
use Rattle.std.specs.Prelude.{◌∷◌}
use Rattle.py_node.specs.declared.built_in.BuiltIn.TheVariants as built_in
use Rattle.row_kit.specs.declared.take_containers.Kind.TheVariants as kind
use Rattle.native_containers.specs.Take.{with_own}
use Rattle.native_containers.specs.NativeConversions.Texts.{text_at}

-- at most one argument after the first, and no keyword
abbrev pub with_one_at_most : PlainWorld → List PyObjectRef → Bindings → Said → (PyObjectRef → Said) → Said
with_one_at_most w (o ∷ []) kw without go = without_keywords w kw without
with_one_at_most w (o ∷ a ∷ []) kw without go = without_keywords w kw (go a)
with_one_at_most w _ kw without go = Ends w (fault ArgCount)

-- asks this for an object, which is the first that was read
abbrev pub asks_for : PlainWorld → PyObjectRef → PlainTask → Said
asks_for w o task = Asks w (ReadObjects (o ∷ []) ∷ []) task

abbrev pub first : List PyObjectRef → PyObjectRef
first rs = argument rs 0

-- a new text is that of an object. Where just a text is made, it is what the object gave
abbrev pub str_new_by : PlainWorld → List PyObjectRef → Bindings → Said
str_new_by w args kw =
    with_heir w built_in.Str args (λ c. with_one_at_most w args kw (object_made w c (AText [])) (λ a. asks_for w (class_object w c) (ToObject (DoStr a))))

abbrev pub str_made : PlainWorld → ℕ → PyObjectRef → Said
str_made w c v = cond (eqb c the_str) (Ends w (value v)) (object_made w c (AText (text_at w v)))

abbrev pub str_rest : PlainWorld → List PyObjectRef → Ended → Row
str_rest w rs r = on_value w r (λ v. as_said (str_made w (first rs).0 v))

abbrev pub str_new : PlainWorld → List PyObjectRef → Bindings → Row
str_new w args kw = with_read (str_new_by w args kw) (str_rest w)

-- a new tuple has the items of an iteration
abbrev pub tuple_new_by : PlainWorld → List PyObjectRef → Bindings → Said
tuple_new_by w args kw =
    with_heir w built_in.Tuple args (λ c. with_one_at_most w args kw (object_made w c (ATuple [])) (λ a. asks_for w (class_object w c) (ToProtocol (DoCollect a))))

abbrev pub tuple_rest : PlainWorld → List PyObjectRef → Ended → Row
tuple_rest w rs r = on_objects w r (λ is. as_said (object_made w (first rs).0 (ATuple is)))

abbrev pub tuple_new : PlainWorld → List PyObjectRef → Bindings → Row
tuple_new w args kw = with_read (tuple_new_by w args kw) (tuple_rest w)

-- a list is filled with those, in the place of its items
abbrev pub list_filled : PlainWorld → PyObjectRef → List PyObjectRef → Said
list_filled w o rs = Ends (with_datum w o (AList rs)) (value none)

abbrev pub list_init_by : PlainWorld → List PyObjectRef → Bindings → Said
list_init_by w args kw =
    with_own kind.List w args (λ o. with_one_at_most w args kw (list_filled w o []) (λ a. asks_for w o (ToProtocol (DoCollect a))))

abbrev pub list_rest : PlainWorld → List PyObjectRef → Ended → Row
list_rest w rs r = on_objects w r (λ is. as_said (list_filled w (first rs) is))

abbrev pub list_init : PlainWorld → List PyObjectRef → Bindings → Row
list_init w args kw = with_read (list_init_by w args kw) (list_rest w)
