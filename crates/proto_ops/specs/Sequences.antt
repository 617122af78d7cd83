-- What the rows of `+` and `*` say, which join and repeat sequences where no number's operator serves.
use Rattle.proto_ops.specs.Below.{ℕ, zero, suc, ℤ, Bool, cond, is_some, [], Option, Some, None, option_or, PyObjectRef, UnsupportedOperand, NotConcatenable, NotRepeatable, SeqItem, Concat, Repeat, InplaceConcat, InplaceRepeat, SlotEntry, Native, ANumber, PlainWorld, PlainTask, DoBinOp1, DoInplaceOp1, DoConcat, DoInplaceConcat, DoRepeat, DoInplaceRepeat, DoNativeRepeat, DoIndex, ToOperator, ToProtocol, Ended, Said, Asks, Ends, Chose, slot_at, with_node, next_node, the_int, native_task, Row, start, fork, ask, pass, end, fault, or_else, on_count}
use Rattle.std.specs.Prelude.{◌&&◌, ◌∷◌}
use Rattle.py_node.specs.declared.task.PyNumberBinaryOp.TheVariants as op

-- joining

-- a sequence is joined, and nothing else
abbrev pub joined : PlainWorld → Option SlotEntry → PlainTask → Said
joined w None task = Ends w (fault UnsupportedOperand)
joined w (Some s) task = pass w task

-- where no candidate serves, sequences are joined
abbrev pub add_say : PlainWorld → PyObjectRef → PyObjectRef → Row
add_say w a b =
    ask w (ToOperator (DoBinOp1 op.Add a b)) (λ r. or_else w r (start (joined w (slot_at w a SeqItem) (ToOperator (DoConcat a b))) (end w)))

abbrev pub inplace_add_say : PlainWorld → PyObjectRef → PyObjectRef → Row
inplace_add_say w a b =
    ask w (ToOperator (DoInplaceOp1 op.Add a b)) (λ r. or_else w r (start (joined w (slot_at w a SeqItem) (ToOperator (DoInplaceConcat a b))) (end w)))

-- whether an object's class has items by their places
abbrev pub is_sequence : PlainWorld → PyObjectRef → Bool
is_sequence w a = is_some (slot_at w a SeqItem)

-- by the native of the left operand's class, of its slot in place before the other one, or else, where both are sequences, by the operator of numbers
abbrev pub concat_by : PlainWorld → Option SlotEntry → PlainTask → PyObjectRef → PyObjectRef → Said
concat_by w (Some (Native n)) task a b = Asks w (Chose 0 ∷ []) (native_task n (a ∷ b ∷ []) [])
concat_by w _ task a b = cond (is_sequence w a && is_sequence w b) (Asks w (Chose 1 ∷ []) task) (Ends w (fault NotConcatenable))

abbrev pub concat_rest : PlainWorld → ℕ → Ended → Row
concat_rest w zero r = end w r
concat_rest w (suc n) r = or_else w r (end w (fault NotConcatenable))

abbrev pub concat_say : PlainWorld → PyObjectRef → PyObjectRef → Row
concat_say w a b = fork (concat_by w (slot_at w a Concat) (ToOperator (DoBinOp1 op.Add a b)) a b) (concat_rest w)

-- what a class has for joining in place, or else for joining
abbrev pub inplace_concat_slot : PlainWorld → PyObjectRef → Option SlotEntry
inplace_concat_slot w a = option_or (slot_at w a InplaceConcat) (slot_at w a Concat)

abbrev pub inplace_concat_say : PlainWorld → PyObjectRef → PyObjectRef → Row
inplace_concat_say w a b = fork (concat_by w (inplace_concat_slot w a) (ToOperator (DoInplaceOp1 op.Add a b)) a b) (concat_rest w)

-- repeating

-- the left operand is repeated where it is a sequence, or else the right one, by the number that the other stands for
abbrev pub repeated_by : PlainWorld → Option SlotEntry → Option SlotEntry → PyObjectRef → PyObjectRef → Said
repeated_by w None None a b = Ends w (fault UnsupportedOperand)
repeated_by w None (Some s) a b = Asks w (Chose 1 ∷ []) (ToProtocol (DoIndex a))
repeated_by w (Some s) r a b = Asks w (Chose 0 ∷ []) (ToProtocol (DoIndex b))

-- so often as an index says
abbrev pub counted_rest : PlainWorld → (ℤ → PlainTask) → Ended → Row
counted_rest w task r = start (on_count w r (λ z told. pass w (task z)) []) (end w)

abbrev pub repeated_rest : PlainWorld → (ℤ → PlainTask) → (ℤ → PlainTask) → ℕ → Ended → Row
repeated_rest w left right zero r = counted_rest w left r
repeated_rest w left right (suc n) r = counted_rest w right r

abbrev pub repeated : PlainWorld → (ℤ → PlainTask) → (ℤ → PlainTask) → PyObjectRef → PyObjectRef → Row
repeated w left right a b = fork (repeated_by w (slot_at w a SeqItem) (slot_at w b SeqItem) a b) (repeated_rest w left right)

abbrev pub mul_say : PlainWorld → PyObjectRef → PyObjectRef → Row
mul_say w a b =
    ask w (ToOperator (DoBinOp1 op.Multiply a b)) (λ r. or_else w r
    (repeated w (λ z. ToOperator (DoRepeat a z)) (λ z. ToOperator (DoRepeat b z)) a b))

-- only the left operand is repeated in place
abbrev pub inplace_mul_say : PlainWorld → PyObjectRef → PyObjectRef → Row
inplace_mul_say w a b =
    ask w (ToOperator (DoInplaceOp1 op.Multiply a b)) (λ r. or_else w r
    (repeated w (λ z. ToOperator (DoInplaceRepeat a z)) (λ z. ToOperator (DoRepeat b z)) a b))

-- by the native of its class, or else by the operator of numbers, with the number as a new one
abbrev pub repeat_by : PlainWorld → Option SlotEntry → (PyObjectRef → PlainTask) → PyObjectRef → ℤ → Said
repeat_by w (Some (Native n)) task a z = Asks w (Chose 0 ∷ []) (ToOperator (DoNativeRepeat n a z))
repeat_by w _ task a z =
    cond (is_sequence w a) (Asks (with_node w the_int (ANumber z)) (Chose 1 ∷ []) (task (next_node w the_int))) (Ends w (fault NotRepeatable))

abbrev pub repeat_rest : PlainWorld → ℕ → Ended → Row
repeat_rest w zero r = end w r
repeat_rest w (suc n) r = or_else w r (end w (fault NotRepeatable))

abbrev pub repeat_say : PlainWorld → PyObjectRef → ℤ → Row
repeat_say w a z = fork (repeat_by w (slot_at w a Repeat) (λ b. ToOperator (DoBinOp1 op.Multiply a b)) a z) (repeat_rest w)

-- what a class has for repeating in place, or else for repeating
abbrev pub inplace_repeat_slot : PlainWorld → PyObjectRef → Option SlotEntry
inplace_repeat_slot w a = option_or (slot_at w a InplaceRepeat) (slot_at w a Repeat)

abbrev pub inplace_repeat_say : PlainWorld → PyObjectRef → ℤ → Row
inplace_repeat_say w a z = fork (repeat_by w (inplace_repeat_slot w a) (λ b. ToOperator (DoInplaceOp1 op.Multiply a b)) a z) (repeat_rest w)
