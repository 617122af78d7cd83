-- What the words of operations say of the values of their operands.
use Rattle.proto_call.specs.Below.{ℤ, cond, not, eqb, is_some, List, [], Option, Some, None, Ok, PyObjectRef, ArgCount, IndexRange, IterEnd, SelfType, Call, Word, SequenceWord, ObjectWord, PyNumberBinaryOp, two_of, the_int, the_list, the_tuple, type_object, ANumber, ATuple, AList, PlainWorld, PlainTask, ToAttribute, ToOperator, ToCompare, ToProtocol, ToObject, DoHasAttr, AsValue, AsObjects, AsExhausted, Ended, Said, Ends, DoAdd, DoBinary, DoInplace, DoInplaceAdd, DoInplaceMul, DoInplacePower, DoInplaceConcat, DoInplaceRepeat, DoConcat, DoMul, DoPower, DoRepeat, DoUnary, DoCompare, DoIsTrue, DoIndex, DoWhole, DoLength, DoHint, DoGetItem, DoSetItem, DoDelItem, DoGetSlice, DoSetSlice, DoDelSlice, DoGetIter, DoNext, DoCollect, DoContains, DoCount, DoFind, DoKeys, DoValues, DoItems, DoHash, DoRepr, DoStr, DoFormat, DoDir, DoIsInstance, DoIsSubclass, Row, start, ask, pass, end, value, none, fault, on_truth, on_number, fits_index, on_done, make, limited, truth, with_text, datum_at, number_of, slot_at}
use Rattle.std.specs.Prelude.{◌∷◌}
use Rattle.py_node.specs.declared.expr.Word.TheVariants as word
use Rattle.py_node.specs.declared.expr.SequenceWord.TheVariants as sequence
use Rattle.py_node.specs.declared.expr.ObjectWord.TheVariants as object
use Rattle.py_node.specs.declared.task.PyNumberBinaryOp.TheVariants as op
use Rattle.proto_call.specs.declared.eval_forms.outcome.Outcome.{Outcome}
use Rattle.proto_call.specs.declared.eval_forms.outcome.Outcome.TheVariants as outcome
use Rattle.proto_call.specs.declared.eval_forms.manner.Manner.{Manner}
use Rattle.proto_call.specs.declared.eval_forms.manner.Manner.TheVariants.{Asks, Counts, Slices, SetsSlice, DeletesSlice, IsSame, TypeOf, IsCallable, Formats, HasAttr}
use Rattle.proto_call.specs.declared.eval_forms.bounds.Counted.{Counted}
use Rattle.proto_call.specs.declared.eval_forms.bounds.Counted.TheVariants as counted
use Rattle.proto_call.specs.declared.eval_forms.bounds.Part.{Part}
use Rattle.proto_call.specs.declared.eval_forms.bounds.Part.TheVariants as part

-- goes on with objects that were collected
abbrev pub on_objects : PlainWorld → Ended → (List PyObjectRef → Row) → Row
on_objects w (Ok (AsObjects rs)) go = go rs
on_objects w other go = end w other

-- the end of an iteration is a fault where its next item is asked for by itself
abbrev pub unless_exhausted : PlainWorld → Ended → Row
unless_exhausted w (Ok AsExhausted) = end w (fault IterEnd)
unless_exhausted w r = end w r

-- what is made of an answer: truth values are the fixed objects, numbers, lists and tuples are new, and what gives no object gives None
abbrev pub made : PlainWorld → Outcome → Ended → Row
made w outcome.Same r = end w r
made w outcome.Nothing r = on_done w r (end w (value none))
made w outcome.Truth r = on_truth w r (λ b. end w (value (truth b)))
made w outcome.Negated r = on_truth w r (λ b. end w (value (truth (not b))))
made w outcome.Number r = on_number w r (λ z. make w the_int (ANumber z))
made w outcome.List r = on_objects w r (λ rs. limited w rs (make w the_list (AList rs)))
made w outcome.Tuple r = on_objects w r (λ rs. limited w rs (make w the_tuple (ATuple rs)))
made w outcome.Item r = unless_exhausted w r

-- how a word is done
abbrev pub sequence_manner : SequenceWord → Manner
sequence_manner sequence.In = Asks outcome.Truth
sequence_manner sequence.SetItem = Asks outcome.Nothing
sequence_manner sequence.DelItem = Asks outcome.Nothing
sequence_manner sequence.Count = Asks outcome.Number
sequence_manner sequence.Find = Asks outcome.Number
sequence_manner sequence.Len = Asks outcome.Number
sequence_manner sequence.Next = Asks outcome.Item
sequence_manner sequence.ToList = Asks outcome.List
sequence_manner sequence.ToTuple = Asks outcome.Tuple
sequence_manner sequence.Repeat = Counts counted.Repeat
sequence_manner sequence.InplaceRepeat = Counts counted.InplaceRepeat
sequence_manner sequence.Hint = Counts counted.Hint
sequence_manner sequence.Slice = Slices
sequence_manner sequence.SetSlice = SetsSlice
sequence_manner sequence.DelSlice = DeletesSlice
sequence_manner _ = Asks outcome.Same

abbrev pub object_manner : ObjectWord → Manner
object_manner object.Is = IsSame
object_manner object.TypeOf = TypeOf
object_manner object.Callable = IsCallable
object_manner object.Format = Formats
object_manner object.HasAttr = HasAttr
object_manner object.Not = Asks outcome.Negated
object_manner object.Bool = Asks outcome.Truth
object_manner object.Hash = Asks outcome.Number
object_manner object.IsInstance = Asks outcome.Truth
object_manner object.IsSubclass = Asks outcome.Truth
object_manner _ = Asks outcome.Same

abbrev pub manner_of : Word → Manner
manner_of (word.Sequence s) = sequence_manner s
manner_of (word.Object o) = object_manner o
manner_of _ = Asks outcome.Same

-- the task of a binary operator: sequences can be joined and repeated besides numbers
abbrev pub binary_task : PyNumberBinaryOp → PyObjectRef → PyObjectRef → PlainTask
binary_task op.Add a b = ToOperator (DoAdd a b)
binary_task op.Multiply a b = ToOperator (DoMul a b)
binary_task o a b = ToOperator (DoBinary o a b)

abbrev pub inplace_task : PyNumberBinaryOp → PyObjectRef → PyObjectRef → PlainTask
inplace_task op.Add a b = ToOperator (DoInplaceAdd a b)
inplace_task op.Multiply a b = ToOperator (DoInplaceMul a b)
inplace_task o a b = ToOperator (DoInplace o a b)

-- the task of a word with one operand, if it has one
abbrev pub sequence_of_one : SequenceWord → PyObjectRef → Option PlainTask
sequence_of_one sequence.Len o = Some (ToProtocol (DoLength o))
sequence_of_one sequence.Iter o = Some (ToProtocol (DoGetIter o))
sequence_of_one sequence.Next o = Some (ToProtocol (DoNext o))
sequence_of_one sequence.ToList o = Some (ToProtocol (DoCollect o))
sequence_of_one sequence.ToTuple o = Some (ToProtocol (DoCollect o))
sequence_of_one _ o = None

abbrev pub object_of_one : ObjectWord → PyObjectRef → Option PlainTask
object_of_one object.Not o = Some (ToProtocol (DoIsTrue o))
object_of_one object.Bool o = Some (ToProtocol (DoIsTrue o))
object_of_one object.Hash o = Some (ToObject (DoHash o))
object_of_one object.Repr o = Some (ToObject (DoRepr o))
object_of_one object.Str o = Some (ToObject (DoStr o))
object_of_one object.Dir o = Some (ToObject (DoDir o))
object_of_one object.Index o = Some (ToProtocol (DoIndex o))
object_of_one object.Int o = Some (ToProtocol (DoWhole o))
object_of_one object.Keys o = Some (ToProtocol (DoKeys o))
object_of_one object.Values o = Some (ToProtocol (DoValues o))
object_of_one object.Items o = Some (ToProtocol (DoItems o))
object_of_one _ o = None

abbrev pub of_one : Word → PyObjectRef → Option PlainTask
of_one (word.Unary u) o = Some (ToOperator (DoUnary u o))
of_one (word.Sequence s) o = sequence_of_one s o
of_one (word.Object n) o = object_of_one n o
of_one _ o = None

-- with two operands. Those of `in` stand the other way round
abbrev pub sequence_of_two : SequenceWord → PyObjectRef → PyObjectRef → Option PlainTask
sequence_of_two sequence.In x o = Some (ToProtocol (DoContains o x))
sequence_of_two sequence.GetItem o k = Some (ToProtocol (DoGetItem o k))
sequence_of_two sequence.DelItem o k = Some (ToProtocol (DoDelItem o k))
sequence_of_two sequence.Count o x = Some (ToProtocol (DoCount o x))
sequence_of_two sequence.Find o x = Some (ToProtocol (DoFind o x))
sequence_of_two sequence.Concat a b = Some (ToOperator (DoConcat a b))
sequence_of_two sequence.InplaceConcat a b = Some (ToOperator (DoInplaceConcat a b))
sequence_of_two _ a b = None

abbrev pub object_of_two : ObjectWord → PyObjectRef → PyObjectRef → Option PlainTask
object_of_two object.IsInstance o c = Some (ToObject (DoIsInstance o c))
object_of_two object.IsSubclass d c = Some (ToObject (DoIsSubclass d c))
object_of_two _ a b = None

-- a power by no modulus has None as its third operand
abbrev pub of_two : Word → PyObjectRef → PyObjectRef → Option PlainTask
of_two (word.Binary o) a b = Some (binary_task o a b)
of_two (word.Inplace o) a b = Some (inplace_task o a b)
of_two word.Power a b = Some (ToOperator (DoPower a b none))
of_two word.InplacePower a b = Some (ToOperator (DoInplacePower a b none))
of_two (word.Compare o) a b = Some (ToCompare (DoCompare a b o))
of_two (word.Sequence s) a b = sequence_of_two s a b
of_two (word.Object o) a b = object_of_two o a b
of_two _ a b = None

-- with three operands
abbrev pub of_three : Word → PyObjectRef → PyObjectRef → PyObjectRef → Option PlainTask
of_three word.Power a b c = Some (ToOperator (DoPower a b c))
of_three (word.Sequence sequence.SetItem) o k v = Some (ToProtocol (DoSetItem o k v))
of_three _ a b c = None

abbrev pub task_for : Word → List PyObjectRef → Option PlainTask
task_for w (a ∷ []) = of_one w a
task_for w (a ∷ b ∷ []) = of_two w a b
task_for w (a ∷ b ∷ c ∷ []) = of_three w a b c
task_for w _ = None

-- a word's task, and what is made of its answer
abbrev pub asked : PlainWorld → Outcome → Option PlainTask → Row
asked w o None = end w (fault ArgCount)
asked w o (Some task) = ask w task (made w o)

-- goes on with the number of an index, or ends with why there is none
abbrev pub index_by : PlainWorld → Option ℤ → (ℤ → Said) → Said
index_by w None go = Ends w (fault SelfType)
index_by w (Some z) go = cond (fits_index z) (go z) (Ends w (fault IndexRange))

abbrev pub with_index : PlainWorld → Ended → (ℤ → Said) → Said
with_index w (Ok (AsValue i)) go = index_by w (number_of (datum_at w i)) go
with_index w other go = Ends w other

-- the task of a word whose second operand stands for a number
abbrev pub counted_task : Counted → PyObjectRef → ℤ → PlainTask
counted_task counted.Repeat o z = ToOperator (DoRepeat o z)
counted_task counted.InplaceRepeat o z = ToOperator (DoInplaceRepeat o z)
counted_task counted.Hint o z = ToProtocol (DoHint o (Some z))

abbrev pub counted_outcome : Counted → Outcome
counted_outcome counted.Hint = outcome.Number
counted_outcome _ = outcome.Same

abbrev pub counted_by : PlainWorld → Counted → PyObjectRef → Ended → Row
counted_by w k o r = start (with_index w r (λ z. pass w (counted_task k o z))) (made w (counted_outcome k))

abbrev pub counted_say : PlainWorld → Counted → Option (PyObjectRef × PyObjectRef) → Row
counted_say w k None = end w (fault ArgCount)
counted_say w k (Some p) = ask w (ToProtocol (DoIndex p.1)) (counted_by w k p.0)

-- the task of a word for a part of a sequence, from one place to another
abbrev pub part_task : Part → PyObjectRef → ℤ → ℤ → PlainTask
part_task part.Get o i j = ToProtocol (DoGetSlice o i j)
part_task (part.Set v) o i j = ToProtocol (DoSetSlice o i j v)
part_task part.Delete o i j = ToProtocol (DoDelSlice o i j)

abbrev pub part_outcome : Part → Outcome
part_outcome part.Get = outcome.Same
part_outcome _ = outcome.Nothing

-- both places are asked for their numbers, the second where the first is a number
abbrev pub part_stop : PlainWorld → Part → PyObjectRef → Ended → Ended → Row
part_stop w p o r s =
    start (with_index w r (λ i. with_index w s (λ j. pass w (part_task p o i j)))) (made w (part_outcome p))

abbrev pub part_start : PlainWorld → Part → PyObjectRef → PyObjectRef → Ended → Row
part_start w p o j r = start (with_index w r (λ i. pass w (ToProtocol (DoIndex j)))) (part_stop w p o r)

abbrev pub part_say : PlainWorld → Part → PyObjectRef → PyObjectRef → PyObjectRef → Row
part_say w p o i j = ask w (ToProtocol (DoIndex i)) (part_start w p o j)

abbrev pub slice_say : PlainWorld → List PyObjectRef → Row
slice_say w (o ∷ i ∷ j ∷ []) = part_say w part.Get o i j
slice_say w _ = end w (fault ArgCount)

abbrev pub set_slice_say : PlainWorld → List PyObjectRef → Row
set_slice_say w (o ∷ i ∷ j ∷ v ∷ []) = part_say w (part.Set v) o i j
set_slice_say w _ = end w (fault ArgCount)

abbrev pub del_slice_say : PlainWorld → List PyObjectRef → Row
del_slice_say w (o ∷ i ∷ j ∷ []) = part_say w part.Delete o i j
del_slice_say w _ = end w (fault ArgCount)

-- whether the two operands are the same object
abbrev pub is_of : PlainWorld → Option (PyObjectRef × PyObjectRef) → Row
is_of w None = end w (fault ArgCount)
is_of w (Some p) = end w (value (truth (eqb p.0.0 p.1.0)))

-- the operand's class, as an object
abbrev pub type_of : PlainWorld → Option PyObjectRef → Row
type_of w None = end w (fault ArgCount)
type_of w (Some o) = end w (value (type_object w o))

-- whether the operand's class says how it is called
abbrev pub callable_of : PlainWorld → Option PyObjectRef → Row
callable_of w None = end w (fault ArgCount)
callable_of w (Some o) = end w (value (truth (is_some (slot_at w o Call))))

-- an object as a text by a specification, which must be a text
abbrev pub format_of : PlainWorld → Option (PyObjectRef × PyObjectRef) → Row
format_of w None = end w (fault ArgCount)
format_of w (Some p) = start (with_text w p.1 (λ x. pass w (ToObject (DoFormat p.0 p.1)))) (end w)

-- whether an object has an attribute of a name, which must be a text
abbrev pub has_attr_of : PlainWorld → Option (PyObjectRef × PyObjectRef) → Row
has_attr_of w None = end w (fault ArgCount)
has_attr_of w (Some p) = start (with_text w p.1 (λ x. pass w (ToAttribute (DoHasAttr p.0 x)))) (made w outcome.Truth)

-- the operand of a form with one
abbrev pub one_of : List PyObjectRef → Option PyObjectRef
one_of (v ∷ []) = Some v
one_of _ = None

-- what the word says of the values of the operands: its task, or what it reads by itself
abbrev pub by_manner : PlainWorld → Manner → Word → List PyObjectRef → Row
by_manner w (Asks o) word vs = asked w o (task_for word vs)
by_manner w (Counts k) word vs = counted_say w k (two_of vs)
by_manner w Slices word vs = slice_say w vs
by_manner w SetsSlice word vs = set_slice_say w vs
by_manner w DeletesSlice word vs = del_slice_say w vs
by_manner w IsSame word vs = is_of w (two_of vs)
by_manner w TypeOf word vs = type_of w (one_of vs)
by_manner w IsCallable word vs = callable_of w (one_of vs)
by_manner w Formats word vs = format_of w (two_of vs)
by_manner w HasAttr word vs = has_attr_of w (two_of vs)

abbrev pub op_say : PlainWorld → Word → List PyObjectRef → Row
op_say w word vs = by_manner w (manner_of word) word vs
