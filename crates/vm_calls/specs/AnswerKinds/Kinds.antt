-- Of which kind a task's answer is.
use Rattle.vm_calls.specs.Below.{Bool, true, false, eqb, IsTrue, Some, None, PyObjectRef, NativeEntry, OfObject, OfNumber, OfStr, OfTuple, OfList, OfDict, SlotEntry, Native, fixed_false, fixed_true, PlainTask, PlainAnswer, AsValue, AsDone, AsNumber, AsTruth, AsMaybe, AsObjects, AsExhausted, AsFunction, AsAttribute, AsStart, AttributeJob, DescriptorJob, CallJob, OperatorJob, CompareJob, ProtocolJob, ObjectJob, ToEval, ToAttribute, ToDescriptor, ToCall, ToClass, ToOperator, ToCompare, ToProtocol, ToObject, ToNative, DoGenericOpt, DoSetAttr, DoGenericSet, DoTypeSet, DoHasAttr, DoLoadMethod, DoDescrSet, DoSuperInit, DoSuperCheck, DoInit, DoObject, DoEnter, DoEnterPower, DoRichBool, DoBoolEq, DoIdEq, DoSeqLt, DoSeqGt, DoIsTrue, DoLength, DoHint, DoSetItem, DoDelItem, DoSetSlice, DoDelSlice, DoNext, DoCollect, DoContains, DoCount, DoFind, DoHash, DoIsInstance, DoInst, DoIsSubclass, DoSub, DoAbsSub}
use Rattle.std.specs.Prelude.{◌||◌}
use Rattle.py_node.specs.declared.entry.DictNative.TheVariants as dict
use Rattle.py_node.specs.declared.entry.ListNative.TheVariants as list
use Rattle.py_node.specs.declared.entry.NumberNative.TheVariants as number
use Rattle.py_node.specs.declared.entry.ObjectNative.TheVariants as object
use Rattle.py_node.specs.declared.entry.StrNative.TheVariants as str
use Rattle.py_node.specs.declared.entry.TupleNative.TheVariants as tuple

-- the kinds of answers
pub data Kind : Type 0 where
  -- an object
  Value : Kind
  -- True or False, as an object
  TruthValue : Kind
  -- that it is done
  Done : Kind
  -- the same, or what a method gave that did it
  DoneOrValue : Kind
  Number : Kind
  -- a number, or that there is none
  NumberOrNone : Kind
  Truth : Kind
  -- an object, or that there is none
  Maybe : Kind
  -- True or False, as an object, or that there is none
  TruthOrNone : Kind
  Objects : Kind
  -- an object, or that an iteration has come to its end
  Item : Kind
  -- a method, or what the attribute gave
  Method : Kind
  -- the class past which `super` starts to look
  Start : Kind

abbrev pub is_truth_value : PyObjectRef → Bool
is_truth_value r = eqb r.0 fixed_true || eqb r.0 fixed_false

-- whether an answer is of a kind
abbrev pub is_of : Kind → PlainAnswer → Bool
is_of Value (AsValue r) = true
is_of TruthValue (AsValue r) = is_truth_value r
is_of Done AsDone = true
is_of DoneOrValue AsDone = true
is_of DoneOrValue (AsValue r) = true
is_of Number (AsNumber z) = true
is_of NumberOrNone (AsNumber z) = true
is_of NumberOrNone (AsMaybe None) = true
is_of Truth (AsTruth b) = true
is_of Maybe (AsMaybe o) = true
is_of TruthOrNone (AsMaybe None) = true
is_of TruthOrNone (AsMaybe (Some r)) = is_truth_value r
is_of Objects (AsObjects rs) = true
is_of Item (AsValue r) = true
is_of Item AsExhausted = true
is_of Method (AsFunction o f) = true
is_of Method (AsAttribute r) = true
is_of Start (AsStart c) = true
is_of _ _ = false

-- a native answers with an object, but for hashes and lengths, which are numbers
unfoldable pub kind_of_native : NativeEntry → Kind
kind_of_native (OfObject object.Hash) = Number
kind_of_native (OfNumber number.Hash) = Number
kind_of_native (OfStr str.Hash) = Number
kind_of_native (OfStr str.Length) = Number
kind_of_native (OfTuple tuple.Hash) = Number
kind_of_native (OfTuple tuple.Length) = Number
kind_of_native (OfList list.Length) = Number
kind_of_native (OfDict dict.Length) = Number
kind_of_native (OfStr str.Contains) = TruthValue
kind_of_native (OfTuple tuple.Contains) = TruthValue
kind_of_native (OfList list.Contains) = TruthValue
kind_of_native (OfDict dict.Contains) = TruthValue
kind_of_native _ = Value

-- what is entered is a native, or a special method, which gives an object
abbrev pub kind_of_entry : SlotEntry → Kind
kind_of_entry (Native n) = kind_of_native n
kind_of_entry _ = Value

-- what is set is done
abbrev pub kind_of_attribute : AttributeJob → Kind
kind_of_attribute (DoGenericOpt o x d) = Maybe
kind_of_attribute (DoSetAttr o x v) = DoneOrValue
kind_of_attribute (DoGenericSet o x v) = Done
kind_of_attribute (DoTypeSet c x v) = Done
kind_of_attribute (DoHasAttr o x) = Truth
kind_of_attribute (DoLoadMethod o x) = Method
kind_of_attribute _ = Value

abbrev pub kind_of_descriptor : DescriptorJob → Kind
kind_of_descriptor (DoDescrSet m o v) = Done
kind_of_descriptor (DoSuperInit s args) = Done
kind_of_descriptor (DoSuperCheck c o) = Start
kind_of_descriptor _ = Value

abbrev pub kind_of_call : CallJob → Kind
kind_of_call (DoInit o args kw) = DoneOrValue
kind_of_call (DoObject n args kw) = kind_of_native (OfObject n)
kind_of_call _ = Value

abbrev pub kind_of_operator : OperatorJob → Kind
kind_of_operator (DoEnter s a b) = kind_of_entry s
kind_of_operator (DoEnterPower s a b c) = kind_of_entry s
kind_of_operator _ = Value

abbrev pub kind_of_compare : CompareJob → Kind
kind_of_compare (DoRichBool a b o) = Truth
kind_of_compare (DoBoolEq a b) = Truth
kind_of_compare (DoIdEq a b) = Truth
kind_of_compare (DoSeqLt a b) = TruthOrNone
kind_of_compare (DoSeqGt a b) = TruthOrNone
kind_of_compare _ = Value

abbrev pub kind_of_protocol : ProtocolJob → Kind
kind_of_protocol (DoIsTrue o) = Truth
kind_of_protocol (DoLength o) = Number
kind_of_protocol (DoHint o None) = NumberOrNone
kind_of_protocol (DoHint o (Some z)) = Number
kind_of_protocol (DoSetItem o k v) = Done
kind_of_protocol (DoDelItem o k) = Done
kind_of_protocol (DoSetSlice o i j v) = Done
kind_of_protocol (DoDelSlice o i j) = Done
kind_of_protocol (DoNext o) = Item
kind_of_protocol (DoCollect o) = Objects
kind_of_protocol (DoContains o x) = Truth
kind_of_protocol (DoCount o x) = Number
kind_of_protocol (DoFind o x) = Number
kind_of_protocol _ = Value

abbrev pub kind_of_object : ObjectJob → Kind
kind_of_object (DoHash o) = Number
kind_of_object (DoIsInstance o c) = Truth
kind_of_object (DoInst o c) = Truth
kind_of_object (DoIsSubclass d c) = Truth
kind_of_object (DoSub d c) = Truth
kind_of_object (DoAbsSub d c) = Truth
kind_of_object _ = Value

-- the kind of a task's answer
abbrev pub kind_of : PlainTask → Kind
kind_of (ToEval job) = Value
kind_of (ToAttribute job) = kind_of_attribute job
kind_of (ToDescriptor job) = kind_of_descriptor job
kind_of (ToCall job) = kind_of_call job
kind_of (ToClass job) = Value
kind_of (ToOperator job) = kind_of_operator job
kind_of (ToCompare job) = kind_of_compare job
kind_of (ToProtocol job) = kind_of_protocol job
kind_of (ToObject job) = kind_of_object job
kind_of (ToNative n args kw) = kind_of_native n

abbrev pub IsOfKind : PlainTask → PlainAnswer → Type 0
IsOfKind task a = IsTrue (is_of (kind_of task) a)
