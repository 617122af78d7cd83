-- What the natives say that make whole numbers and truth values, which ask for the number or the truth of an object.
use Rattle.native_containers.specs.Below.{ℕ, ℤ, false, eqb, cond, pos, List, Option, Some, None, PyObjectRef, SelfType, ANumber, PlainWorld, Bindings, DoWhole, DoIsTrue, ToProtocol, Ended, Said, Ends, datum_at, number_of, the_int, class_object, Row, start, pass, end, value, truth, fault, on_value, on_truth, object_made, as_said, with_read, with_heir}
use Rattle.py_node.specs.declared.built_in.BuiltIn.TheVariants as built_in
use Rattle.native_containers.specs.NativeConversions.Makers.{asks_for, first, with_one_at_most}

-- a new whole number of a class is that of an object; of `int` itself it is what the object gives for it
abbrev pub int_new : PlainWorld → List PyObjectRef → Bindings → Said
int_new w args kw =
    with_heir w built_in.Int args (λ c. with_one_at_most w args kw (object_made w c (ANumber (pos 0))) (λ a. asks_for w (class_object w c) (ToProtocol (DoWhole a))))

abbrev pub int_of_class : PlainWorld → ℕ → Option ℤ → Said
int_of_class w c None = Ends w (fault SelfType)
int_of_class w c (Some z) = object_made w c (ANumber z)

abbrev pub int_made_of : PlainWorld → ℕ → PyObjectRef → Said
int_made_of w c i = cond (eqb c the_int) (Ends w (value i)) (int_of_class w c (number_of (datum_at w i)))

abbrev pub int_rest : PlainWorld → List PyObjectRef → Ended → Row
int_rest w rs r = on_value w r (λ i. as_said (int_made_of w (first rs).0 i))

abbrev pub int_new_say : PlainWorld → List PyObjectRef → Bindings → Row
int_new_say w args kw = with_read (int_new w args kw) (int_rest w)

-- a truth value is that of an object, and False of nothing
abbrev pub bool_new : PlainWorld → List PyObjectRef → Bindings → Said
bool_new w args kw =
    with_heir w built_in.Bool args (λ c. with_one_at_most w args kw (Ends w (value (truth false))) (λ a. pass w (ToProtocol (DoIsTrue a))))

abbrev pub bool_new_say : PlainWorld → List PyObjectRef → Bindings → Row
bool_new_say w args kw = start (bool_new w args kw) (λ r. on_truth w r (λ b. end w (value (truth b))))
