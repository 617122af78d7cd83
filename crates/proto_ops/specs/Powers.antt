-- What the rows of powers say, which have a third operand: a modulus, or None.
use Rattle.proto_ops.specs.Below.{ℕ, zero, suc, cond, eqb, not, length, List, [], Option, Some, None, list_any, PyObjectRef, UnsupportedOperand, Power, RightPower, InplacePower, SlotEntry, Native, Wrapper, Unhashable, fixed_none, is_same_entry, is_reflected, PlainWorld, DoEnter, DoEnterPower, DoPower, ToOperator, Ended, Said, Asks, Ends, Chose, class_at, slot_at, candidates_at, goes_first_at, native_task, Row, start, fork, ask, pass, end, fault, elsewhere, or_else, choose, read_once}
use Rattle.std.specs.Prelude.{◌&&◌, ◌==◌, ◌∷◌}
use Rattle.proto_ops.specs.Binary.{enter_method, unsupported}

-- a method takes the modulus where there is one
abbrev pub modulus : PyObjectRef → List PyObjectRef
modulus c = cond (eqb c.0 fixed_none) [] (c ∷ [])

abbrev pub enter_power_by : PlainWorld → SlotEntry → PyObjectRef → PyObjectRef → PyObjectRef → Said
enter_power_by w (Native n) a b c = pass w (native_task n (a ∷ b ∷ c ∷ []) [])
enter_power_by w (Wrapper s) a b c = enter_method w s (is_reflected s) a b (modulus c)
enter_power_by w Unhashable a b c = Ends w elsewhere

abbrev pub enter_power_say : PlainWorld → SlotEntry → PyObjectRef → PyObjectRef → PyObjectRef → Row
enter_power_say w s a b c = start (enter_power_by w s a b c) (end w)

-- a third slot may count where there are two others, of which the left one goes first
abbrev pub thirds : PlainWorld → List SlotEntry → PyObjectRef → PyObjectRef → ℕ
thirds w ss a b = cond (length ss == 2 && not (goes_first_at w RightPower (class_at w a) (class_at w b))) 1 0

-- the modulus's slot, if it counts and is none of those that were tried
abbrev pub third_of : ℕ → List SlotEntry → Option SlotEntry → Option SlotEntry
third_of zero ss s = None
third_of (suc n) ss None = None
third_of (suc n) ss (Some s) = cond (list_any (is_same_entry s) ss) None (Some s)

abbrev pub third_by : PlainWorld → Option SlotEntry → PyObjectRef → PyObjectRef → PyObjectRef → Said
third_by w None a b c = Ends w (fault UnsupportedOperand)
third_by w (Some s) a b c = pass w (ToOperator (DoEnterPower s a b c))

-- the candidates are entered in turn, and then the modulus's slot as it is by then
abbrev pub power_in_turn : PlainWorld → PyObjectRef → PyObjectRef → PyObjectRef → ℕ → List SlotEntry → List SlotEntry → Row
power_in_turn w a b c way tried [] = start (third_by w (third_of way tried (slot_at w c Power)) a b c) (λ r. or_else w r (unsupported w))
power_in_turn w a b c way tried (s ∷ ss) = ask w (ToOperator (DoEnterPower s a b c)) (λ r. or_else w r (power_in_turn w a b c way tried ss))

-- the candidates, and whether a third one may count, are read once
abbrev pub power_among : PlainWorld → List SlotEntry → PyObjectRef → PyObjectRef → PyObjectRef → Row
power_among w ss a b c = choose (thirds w ss a b) (λ way. read_once ss (λ tried. power_in_turn w a b c way tried tried))

abbrev pub power_say : PlainWorld → PyObjectRef → PyObjectRef → PyObjectRef → Row
power_say w a b c = power_among w (candidates_at w Power RightPower (class_at w a) (class_at w b)) a b c

-- in place the left operand's slot for that is entered without the modulus, if it has one
abbrev pub power_in_place_by : PlainWorld → Option SlotEntry → PyObjectRef → PyObjectRef → PyObjectRef → Said
power_in_place_by w None a b c = Asks w (Chose 0 ∷ []) (ToOperator (DoPower a b c))
power_in_place_by w (Some s) a b c = Asks w (Chose 1 ∷ []) (ToOperator (DoEnter s a b))

abbrev pub power_in_place_rest : PlainWorld → PyObjectRef → PyObjectRef → PyObjectRef → ℕ → Ended → Row
power_in_place_rest w a b c zero r = end w r
power_in_place_rest w a b c (suc n) r = or_else w r (start (pass w (ToOperator (DoPower a b c))) (end w))

abbrev pub inplace_power_say : PlainWorld → PyObjectRef → PyObjectRef → PyObjectRef → Row
inplace_power_say w a b c = fork (power_in_place_by w (slot_at w a InplacePower) a b c) (power_in_place_rest w a b c)
