-- What the rows of operators of numbers say.
use Rattle.proto_ops.specs.Below.{ℕ, zero, suc, Bool, cond, List, [], Option, Some, None, PyObjectRef, UnsupportedOperand, UnsupportedUnary, SlotId, SlotEntry, Native, Wrapper, Unhashable, PyNumberBinaryOp, PyNumberUnaryOp, Negative, Positive, Absolute, Invert, Known, known_text, names_of, operator_row, is_reflected, PlainWorld, PlainTask, DoBinOp1, DoEnter, DoInplaceOp1, DoSpecial, ToAttribute, ToOperator, Ended, Said, Asks, Ends, Chose, class_at, slot_at, candidates_at, native_task, special_at, Row, start, fork, ask, pass, end, value, not_implemented, fault, elsewhere, or_else, read_once}
use Rattle.std.specs.Prelude.{◌∷◌}
use Rattle.py_node.specs.declared.known.Known.TheVariants as known

-- the candidates are read once, and entered in turn, until one gives another answer than NotImplemented
abbrev pub in_turn : PlainWorld → PyObjectRef → PyObjectRef → List SlotEntry → Row
in_turn w a b [] = end w (value not_implemented)
in_turn w a b (s ∷ ss) = ask w (ToOperator (DoEnter s a b)) (λ r. or_else w r (in_turn w a b ss))

abbrev pub binop1_say : PlainWorld → PyNumberBinaryOp → PyObjectRef → PyObjectRef → Row
binop1_say w o a b = read_once (candidates_at w (operator_row o).1 (operator_row o).2 (class_at w a) (class_at w b)) (in_turn w a b)

-- the operands in the order in which a method takes them: the reflected one is that of the right operand
abbrev pub in_order : Bool → PyObjectRef → PyObjectRef → PyObjectRef × PyObjectRef
in_order reflected a b = cond reflected (b, a) (a, b)

-- an object's special method of a first name
abbrev pub method_of : List Known → PyObjectRef → List PyObjectRef → Option PlainTask
method_of [] o args = None
method_of (x ∷ xs) o args = Some (ToAttribute (DoSpecial o (known_text x) args []))

-- the special method that a wrapper stands for: that of its slot's first name. No wrapper stands for a slot without one
abbrev pub asked_of_method : PlainWorld → Option PlainTask → Said
asked_of_method w None = Ends w elsewhere
asked_of_method w (Some task) = pass w task

abbrev pub enter_method : PlainWorld → SlotId → Bool → PyObjectRef → PyObjectRef → List PyObjectRef → Said
enter_method w s reflected a b more =
    asked_of_method w (method_of (names_of s) (in_order reflected a b).0 ((in_order reflected a b).1 ∷ more))

-- an entry is entered: a native with both operands, or the special method of an operand
abbrev pub enter_by : PlainWorld → SlotEntry → PyObjectRef → PyObjectRef → Said
enter_by w (Native n) a b = pass w (native_task n (a ∷ b ∷ []) [])
enter_by w (Wrapper s) a b = enter_method w s (is_reflected s) a b []
enter_by w Unhashable a b = Ends w elsewhere

abbrev pub enter_say : PlainWorld → SlotEntry → PyObjectRef → PyObjectRef → Row
enter_say w s a b = start (enter_by w s a b) (end w)

-- an operator is not for operands of which nothing says what it gives
abbrev pub unsupported : PlainWorld → Row
unsupported w = end w (fault UnsupportedOperand)

abbrev pub binary_say : PlainWorld → PyNumberBinaryOp → PyObjectRef → PyObjectRef → Row
binary_say w o a b = ask w (ToOperator (DoBinOp1 o a b)) (λ r. or_else w r (unsupported w))

-- in place: the left operand's slot for that is entered, if it has one, and where that says nothing, the operator is done as if it were not in place
abbrev pub slot_in_place : PlainWorld → Option SlotId → PyObjectRef → Option SlotEntry
slot_in_place w None a = None
slot_in_place w (Some s) a = slot_at w a s

abbrev pub in_place_by : PlainWorld → Option SlotEntry → PyNumberBinaryOp → PyObjectRef → PyObjectRef → Said
in_place_by w None o a b = Asks w (Chose 0 ∷ []) (ToOperator (DoBinOp1 o a b))
in_place_by w (Some s) o a b = Asks w (Chose 1 ∷ []) (ToOperator (DoEnter s a b))

abbrev pub in_place_rest : PlainWorld → PyNumberBinaryOp → PyObjectRef → PyObjectRef → ℕ → Ended → Row
in_place_rest w o a b zero r = end w r
in_place_rest w o a b (suc n) r = or_else w r (start (pass w (ToOperator (DoBinOp1 o a b))) (end w))

abbrev pub inplace_op1_say : PlainWorld → PyNumberBinaryOp → PyObjectRef → PyObjectRef → Row
inplace_op1_say w o a b = fork (in_place_by w (slot_in_place w (operator_row o).3 a) o a b) (in_place_rest w o a b)

abbrev pub inplace_say : PlainWorld → PyNumberBinaryOp → PyObjectRef → PyObjectRef → Row
inplace_say w o a b = ask w (ToOperator (DoInplaceOp1 o a b)) (λ r. or_else w r (unsupported w))

-- an operator of one operand is a special method of it
abbrev pub unary_name : PyNumberUnaryOp → Known
unary_name Negative = known.Neg
unary_name Positive = known.Pos
unary_name Absolute = known.Abs
unary_name Invert = known.Invert

abbrev pub unary_by : PlainWorld → Known → PyObjectRef → Option PyObjectRef → Said
unary_by w x a None = Ends w (fault UnsupportedUnary)
unary_by w x a (Some m) = pass w (ToAttribute (DoSpecial a (known_text x) [] []))

abbrev pub unary_say : PlainWorld → PyNumberUnaryOp → PyObjectRef → Row
unary_say w o a = start (unary_by w (unary_name o) a (special_at w a (known_text (unary_name o)))) (end w)
