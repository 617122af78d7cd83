-- What `super` looks up, what it is bound to, and how it is initialised.
use Rattle.proto_attr.specs.Below.{ℕ, Bool, cond, eqb, not, is_some, List, [], Option, Some, None, option_and_then, Result, Ok, Err, PyObjectRef, Raised as Fault, ArgCount, NoArguments, NoBody, SelfType, SuperArg, SuperCheckFailed, SuperNoClass, DescrGet, Text, known_text, along, is_sub, lin, Datum, AFunction, ASuper, PlainWorld, DoGeneric, DoGetAttr, DoDescrGet, DoSuperCheck, ToAttribute, ToDescriptor, AsStart, Ended, ReadObjects, Said, Asks, Ends, is_text, class_at, datum_at, in_last, slot_at, with_node, next_node, running, class_number, class_object, derives, with_datum, the_super, pass, value, none, done, fault}
use Rattle.std.specs.Prelude.{◌&&◌, ◌∷◌}
use Rattle.py_node.specs.declared.known.Known.TheVariants as known

abbrev pub is_none : PyObjectRef → Bool
is_none o = eqb o.0 none.0

-- where `super` starts

-- what an object says is its class, where that is a class that derives from this one, and is another
abbrev pub told_start : PlainWorld → ℕ → Option ℕ → Ended
told_start w t None = fault SuperCheckFailed
told_start w t (Some k) = cond (not (eqb k t) && is_sub w.classes k t) (Ok (AsStart k)) (fault SuperCheckFailed)

abbrev pub starting : Option ℕ → Ended
starting None = fault SuperCheckFailed
starting (Some k) = Ok (AsStart k)

-- the class from which `super` of a class starts for an object: the object itself, where it is a class that derives from
-- that one, or else its class, where that does. Else the object is asked for its class
abbrev pub check_class : PlainWorld → ℕ → PyObjectRef → Option ℕ → Said
check_class w t o d = cond (derives w d t) (Ends w (starting d)) (pass w (ToAttribute (DoGetAttr o (known_text known.Class))))

abbrev pub check_object : PlainWorld → ℕ → PyObjectRef → Option ℕ → Said
check_object w t o c = cond (derives w c t) (Ends w (starting c)) (check_class w t o (class_at w o))

abbrev pub super_check : PlainWorld → ℕ → PyObjectRef → Said
super_check w t o = check_object w t o (class_number (datum_at w o))

-- what it is bound to

-- a `super` is told where to start. It goes on with itself, its class and the object
abbrev pub start_asked : PlainWorld → PyObjectRef → ℕ → PyObjectRef → Said
start_asked w s t o = Asks w (ReadObjects (s ∷ class_object w t ∷ o ∷ []) ∷ []) (ToDescriptor (DoSuperCheck t o))

-- one that is bound to nothing gives a new one that is bound to an object other than None
abbrev pub super_get : PlainWorld → Option Datum → PyObjectRef → Option PyObjectRef → Said
super_get w (Some (ASuper t None)) m (Some o) = cond (is_none o) (Ends w (value m)) (start_asked w m t o)
super_get w _ m o = Ends w (value m)

abbrev pub super_bound : PlainWorld → PyObjectRef → PyObjectRef → Ended → Said
super_bound w t o (Ok (AsStart k)) = Ends (with_node w the_super (ASuper t.0 (Some (o, k)))) (value (next_node w the_super))
super_bound w t o r = Ends w r

-- what is looked up

-- the classes that come after one in a line
abbrev pub after : ℕ → List ℕ → List ℕ
after d [] = []
after d (c ∷ cs) = cond (eqb c d) cs (after d cs)

-- the value of a name in the first class that has it itself, of those after a class along the linearisation of another
abbrev pub found_after : PlainWorld → ℕ → ℕ → Text → Option PyObjectRef
found_after w start t x = option_and_then (λ line. along (λ y. is_text y x) w.classes (after t line)) (lin w.classes start)

-- the object for which a value is asked: there is none where that is the class where the search starts
abbrev pub unless_start : ℕ → PyObjectRef → Option PyObjectRef
unless_start start o = cond (eqb o.0 start) None (Some o)

-- what is found is bound to the object. Where nothing is, `super` is read as any object
abbrev pub looked_up : PlainWorld → PyObjectRef → Text → PyObjectRef → ℕ → Option PyObjectRef → Said
looked_up w s x o start None = pass w (ToAttribute (DoGeneric s x))
looked_up w s x o start (Some m) =
    cond (is_some (slot_at w m DescrGet))
    (pass w (ToDescriptor (DoDescrGet m (unless_start start o) (Some (class_object w start))))) (Ends w (value m))

-- the class of a `super` is its own
abbrev pub super_attribute : PlainWorld → Option Datum → PyObjectRef → Text → Said
super_attribute w (Some (ASuper t (Some (o, start)))) s x =
    cond (is_text x (known_text known.Class)) (pass w (ToAttribute (DoGeneric s x))) (looked_up w s x o start (found_after w start t x))
super_attribute w _ s x = pass w (ToAttribute (DoGeneric s x))

-- how it is initialised

abbrev pub set_super : PlainWorld → Option Datum → PyObjectRef → ℕ → Option (PyObjectRef × ℕ) → Said
set_super w (Some (ASuper c b)) s t bound = Ends (with_datum w s (ASuper t bound)) done
set_super w _ s t bound = Ends w (fault SelfType)

abbrev pub with_super : PlainWorld → PyObjectRef → ℕ → Option (PyObjectRef × ℕ) → Said
with_super w s t bound = set_super w (datum_at w s) s t bound

-- with a class, and an object other than None, to which it is bound
abbrev pub init_with : PlainWorld → PyObjectRef → ℕ → PyObjectRef → Said
init_with w s t o = cond (is_none o) (with_super w s t None) (start_asked w s t o)

abbrev pub super_started : PlainWorld → PyObjectRef → PyObjectRef → PyObjectRef → Ended → Said
super_started w s t o (Ok (AsStart k)) = with_super w s t.0 (Some (o, k))
super_started w s t o r = Ends w r

-- a class and an object, or why there are none
abbrev pub Parts : Type 0
Parts = Result (ℕ × PyObjectRef) Fault

-- the value of the first parameter, which is there
abbrev pub first_value : ℕ → Option PyObjectRef → Parts
first_value c None = fault NoArguments
first_value c (Some o) = Ok (c, o)

-- without arguments: the class that defines the running function, and the present value of its first parameter
abbrev pub parts_of_function : PlainWorld → Option Datum → Parts
parts_of_function w (Some (AFunction f [] rest body c)) = fault NoArguments
parts_of_function w (Some (AFunction f (x ∷ params) rest body None)) = fault SuperNoClass
parts_of_function w (Some (AFunction f (x ∷ params) rest body (Some c))) = first_value c (in_last w.scopes x)
parts_of_function w _ = fault NoBody

abbrev pub parts_of_body : PlainWorld → Option PyObjectRef → Parts
parts_of_body w None = fault NoBody
parts_of_body w (Some f) = parts_of_function w (datum_at w f)

-- with arguments: a class, and an object, or else None
abbrev pub parts_given : Option ℕ → List PyObjectRef → Parts
parts_given None more = fault SuperArg
parts_given (Some t) [] = Ok (t, none)
parts_given (Some t) (o ∷ []) = Ok (t, o)
parts_given (Some t) (o ∷ (a ∷ more)) = fault ArgCount

abbrev pub super_parts : PlainWorld → List PyObjectRef → Parts
super_parts w [] = parts_of_body w (running w.scopes)
super_parts w (t ∷ more) = parts_given (class_number (datum_at w t)) more

abbrev pub init_by : PlainWorld → PyObjectRef → Parts → Said
init_by w s (Err x) = Ends w (Err x)
init_by w s (Ok p) = init_with w s p.0 p.1

abbrev pub super_init : PlainWorld → PyObjectRef → List PyObjectRef → Said
super_init w s args = init_by w s (super_parts w args)
