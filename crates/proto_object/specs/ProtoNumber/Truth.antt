-- What the row of truth says.
use Rattle.proto_object.specs.Below.{ℕ, zero, suc, Bool, true, false, cond, not, eqb, [], Option, Some, None, option_map, Ok, PyObjectRef, BoolType, Len, known_text, PlainWorld, DoSpecial, DoLength, ToAttribute, ToProtocol, AsTruth, Ended, Said, Asks, Ends, Chose, class_at, datum_at, number_of, the_bool, special_at, Row, fork, end, fault, on_value, on_number, is_zero, truth_of}
use Rattle.std.specs.Prelude.{◌∷◌}
use Rattle.py_node.specs.declared.known.Known.TheVariants.{Bool as BoolName}

abbrev pub as_truth : Bool → Ended
as_truth b = Ok (AsTruth b)

-- what an object says by itself that is no truth value: its special method, or else its length
abbrev pub truth_asked : PlainWorld → Option PyObjectRef → Option PyObjectRef → PyObjectRef → Said
truth_asked w (Some m) len o = Asks w (Chose 0 ∷ []) (ToAttribute (DoSpecial o (known_text BoolName) [] []))
truth_asked w None (Some m) o = Asks w (Chose 1 ∷ []) (ToProtocol (DoLength o))
truth_asked w None None o = Ends w (as_truth true)

abbrev pub truth_by : PlainWorld → Option Bool → PyObjectRef → Said
truth_by w (Some b) o = Ends w (as_truth b)
truth_by w None o = truth_asked w (special_at w o (known_text BoolName)) (special_at w o (known_text Len)) o

-- the truth value that an object of `bool` is
abbrev pub is_bool : Option ℕ → Bool
is_bool None = false
is_bool (Some c) = eqb c the_bool

abbrev pub bool_at : PlainWorld → PyObjectRef → Option Bool
bool_at w v = cond (is_bool (class_at w v)) (option_map (λ z. not (is_zero z)) (number_of (datum_at w v))) None

-- what a special method answers must be such
abbrev pub truth_given : PlainWorld → Option Bool → Row
truth_given w (Some b) = end w (as_truth b)
truth_given w None = end w (fault BoolType)

abbrev pub truth_rest : PlainWorld → ℕ → Ended → Row
truth_rest w zero r = on_value w r (λ v. truth_given w (bool_at w v))
truth_rest w (suc n) r = on_number w r (λ z. end w (as_truth (not (is_zero z))))

abbrev pub is_true_say : PlainWorld → PyObjectRef → Row
is_true_say w o = fork (truth_by w (truth_of o) o) (truth_rest w)
