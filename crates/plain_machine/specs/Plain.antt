-- The plain world, the tasks, and what their rows say. Texts and trees stand where the code has numbers.
use Rattle.plain_machine.specs.Below.{ℕ, ℤ, Bool, List, Option, None, Result, PyObjectRef, Raised as Fault, IntNative, ObjectNative, TypeNative, NativeEntry, SlotEntry, MemberKind, MemberGetter, MemberSetter, PyProperty, PySlice, SequenceIterator, PyNumberBinaryOp, PyNumberUnaryOp, PyComparisonOp, Text, Tree, Started, Classes}

-- what a node holds beside its class, its dict and its members
pub data Datum : Type 0 where
  AnObject : Datum
  AClass : ℕ → Datum
  ANumber : ℤ → Datum
  AText : Text → Datum
  ATuple : List PyObjectRef → Datum
  AList : List PyObjectRef → Datum
  ADict : List (PyObjectRef × PyObjectRef) → Datum
  -- its name, its parameters, whether the last takes the rest, its body, and the class that defines it
  AFunction : Text → List Text → Bool → Tree → Option ℕ → Datum
  -- what it is bound to, and the function
  AMethod : PyObjectRef → PyObjectRef → Datum
  -- its name, its native, what it is bound to, and its doc
  ANativeFunction : Text → NativeEntry → Option PyObjectRef → Option Text → Datum
  -- its name, its native, what it is bound to, its class, and its doc
  ABuiltinMethod : Text → NativeEntry → PyObjectRef → ℕ → Option Text → Datum
  -- its class, its name, its native, its flags, and its doc
  AMethodDescriptor : ℕ → Text → NativeEntry → ℕ → Option Text → Datum
  -- its class, its name, and the natives that read and set it
  AGetSet : ℕ → Text → Option NativeEntry → Option NativeEntry → Datum
  AClassMethod : PyObjectRef → Datum
  AStaticMethod : PyObjectRef → Datum
  -- its class, its name, its kind, what reads and sets it, its qualified name once that was asked for, and its doc
  AMember : ℕ → Text → MemberKind → MemberGetter → MemberSetter → Option Text → Option Text → Datum
  AProperty : PyProperty → Datum
  -- the class past which it looks, and, where it is bound, the object and the class where it starts
  ASuper : ℕ → Option (PyObjectRef × ℕ) → Datum
  AnIterator : SequenceIterator → Datum
  ASlice : PySlice → Datum

-- what stands in the places of an object, by their solid class and their index there. As a map from all places it has one form, however it was written
abbrev pub Places : Type 0
Places = ℕ → ℕ → Option PyObjectRef

-- no place is filled
abbrev pub no_members : Places
no_members c i = None

-- an object: its class, the node of its dict, its members by their places, and the rest
pub record Node : Type 0 where
  pub class : ℕ
  pub dict : Option PyObjectRef
  pub members : Places
  pub datum : Datum

abbrev pub Bindings : Type 0
Bindings = List (Text × PyObjectRef)

-- a running body: its function, and its variables
pub record Scope : Type 0 where
  pub func : PyObjectRef
  pub vars : Bindings

-- the plain world: nodes, classes, variables, a scope for each running body, and the bodies that were started in this command. There is no linearisation, no slot and no best base in it
pub record PlainWorld : Type 0 where
  pub nodes : List Node
  pub classes : Classes Text
  pub vars : Bindings
  pub scopes : List Scope
  pub calls : List Started

-- the tasks, in the groups of the code

pub data EvalJob : Type 0 where
  DoEval : Tree → EvalJob

-- keywords are bindings of their names. What is set is a value, or nothing where it is taken out.
-- A loaded method is invoked with its target, if it has one
pub data AttributeJob : Type 0 where
  DoGetAttr : PyObjectRef → Text → AttributeJob
  DoGeneric : PyObjectRef → Text → AttributeJob
  DoGenericOpt : PyObjectRef → Text → Option PyObjectRef → AttributeJob
  DoSetAttr : PyObjectRef → Text → Option PyObjectRef → AttributeJob
  DoGenericSet : PyObjectRef → Text → Option PyObjectRef → AttributeJob
  DoTypeGet : ℕ → Text → AttributeJob
  DoTypeSet : ℕ → Text → Option PyObjectRef → AttributeJob
  DoHasAttr : PyObjectRef → Text → AttributeJob
  DoSpecial : PyObjectRef → Text → List PyObjectRef → Bindings → AttributeJob
  DoBind : PyObjectRef → Option PyObjectRef → PyObjectRef → AttributeJob
  DoLoadMethod : PyObjectRef → Text → AttributeJob
  DoInvoke : Option PyObjectRef → PyObjectRef → List PyObjectRef → Bindings → AttributeJob

pub data DescriptorJob : Type 0 where
  DoDescrGet : PyObjectRef → Option PyObjectRef → Option PyObjectRef → DescriptorJob
  DoDescrSet : PyObjectRef → PyObjectRef → Option PyObjectRef → DescriptorJob
  DoSuperGet : PyObjectRef → Text → DescriptorJob
  DoSuperInit : PyObjectRef → List PyObjectRef → DescriptorJob
  DoSuperCheck : ℕ → PyObjectRef → DescriptorJob

pub data CallJob : Type 0 where
  DoCall : PyObjectRef → List PyObjectRef → Bindings → CallJob
  DoBody : PyObjectRef → List PyObjectRef → Bindings → CallJob
  DoTypeCall : ℕ → List PyObjectRef → Bindings → CallJob
  DoNew : ℕ → ℕ → List PyObjectRef → Bindings → CallJob
  DoInit : PyObjectRef → List PyObjectRef → Bindings → CallJob
  DoObject : ObjectNative → List PyObjectRef → Bindings → CallJob

pub data ClassJob : Type 0 where
  DoMakeClass : ℕ → List PyObjectRef → Bindings → ClassJob
  DoType : TypeNative → List PyObjectRef → Bindings → ClassJob

pub data OperatorJob : Type 0 where
  DoAdd : PyObjectRef → PyObjectRef → OperatorJob
  DoBinOp1 : PyNumberBinaryOp → PyObjectRef → PyObjectRef → OperatorJob
  DoEnter : SlotEntry → PyObjectRef → PyObjectRef → OperatorJob
  DoBinary : PyNumberBinaryOp → PyObjectRef → PyObjectRef → OperatorJob
  DoInplaceOp1 : PyNumberBinaryOp → PyObjectRef → PyObjectRef → OperatorJob
  DoInplace : PyNumberBinaryOp → PyObjectRef → PyObjectRef → OperatorJob
  DoConcat : PyObjectRef → PyObjectRef → OperatorJob
  DoInplaceAdd : PyObjectRef → PyObjectRef → OperatorJob
  DoInplaceConcat : PyObjectRef → PyObjectRef → OperatorJob
  DoMul : PyObjectRef → PyObjectRef → OperatorJob
  DoRepeat : PyObjectRef → ℤ → OperatorJob
  DoInplaceMul : PyObjectRef → PyObjectRef → OperatorJob
  DoInplaceRepeat : PyObjectRef → ℤ → OperatorJob
  DoNativeRepeat : NativeEntry → PyObjectRef → ℤ → OperatorJob
  DoEnterPower : SlotEntry → PyObjectRef → PyObjectRef → PyObjectRef → OperatorJob
  DoPower : PyObjectRef → PyObjectRef → PyObjectRef → OperatorJob
  DoInplacePower : PyObjectRef → PyObjectRef → PyObjectRef → OperatorJob
  DoUnary : PyNumberUnaryOp → PyObjectRef → OperatorJob
  DoInt : IntNative → List PyObjectRef → Bindings → OperatorJob

pub data CompareJob : Type 0 where
  DoCompare : PyObjectRef → PyObjectRef → PyComparisonOp → CompareJob
  DoCmp : PyObjectRef → PyObjectRef → PyComparisonOp → CompareJob
  DoRichBool : PyObjectRef → PyObjectRef → PyComparisonOp → CompareJob
  DoBoolEq : PyObjectRef → PyObjectRef → CompareJob
  DoIdEq : PyObjectRef → PyObjectRef → CompareJob
  DoSeqLt : PyObjectRef → PyObjectRef → CompareJob
  DoSeqGt : PyObjectRef → PyObjectRef → CompareJob

pub data ProtocolJob : Type 0 where
  DoIsTrue : PyObjectRef → ProtocolJob
  DoIndex : PyObjectRef → ProtocolJob
  DoWhole : PyObjectRef → ProtocolJob
  DoLength : PyObjectRef → ProtocolJob
  DoHint : PyObjectRef → Option ℤ → ProtocolJob
  DoGetItem : PyObjectRef → PyObjectRef → ProtocolJob
  DoSetItem : PyObjectRef → PyObjectRef → PyObjectRef → ProtocolJob
  DoDelItem : PyObjectRef → PyObjectRef → ProtocolJob
  DoGetSlice : PyObjectRef → ℤ → ℤ → ProtocolJob
  DoSetSlice : PyObjectRef → ℤ → ℤ → PyObjectRef → ProtocolJob
  DoDelSlice : PyObjectRef → ℤ → ℤ → ProtocolJob
  DoGetIter : PyObjectRef → ProtocolJob
  DoNext : PyObjectRef → ProtocolJob
  DoCollect : PyObjectRef → ProtocolJob
  DoContains : PyObjectRef → PyObjectRef → ProtocolJob
  DoCount : PyObjectRef → PyObjectRef → ProtocolJob
  DoFind : PyObjectRef → PyObjectRef → ProtocolJob
  DoKeys : PyObjectRef → ProtocolJob
  DoValues : PyObjectRef → ProtocolJob
  DoItems : PyObjectRef → ProtocolJob

pub data ObjectJob : Type 0 where
  DoHash : PyObjectRef → ObjectJob
  DoRepr : PyObjectRef → ObjectJob
  DoStr : PyObjectRef → ObjectJob
  DoFormat : PyObjectRef → PyObjectRef → ObjectJob
  DoDir : PyObjectRef → ObjectJob
  DoIsInstance : PyObjectRef → PyObjectRef → ObjectJob
  DoInst : PyObjectRef → PyObjectRef → ObjectJob
  DoIsSubclass : PyObjectRef → PyObjectRef → ObjectJob
  DoSub : PyObjectRef → PyObjectRef → ObjectJob
  DoAbsSub : PyObjectRef → PyObjectRef → ObjectJob

pub data PlainTask : Type 0 where
  ToEval : EvalJob → PlainTask
  ToAttribute : AttributeJob → PlainTask
  ToDescriptor : DescriptorJob → PlainTask
  ToCall : CallJob → PlainTask
  ToClass : ClassJob → PlainTask
  ToOperator : OperatorJob → PlainTask
  ToCompare : CompareJob → PlainTask
  ToProtocol : ProtocolJob → PlainTask
  ToObject : ObjectJob → PlainTask
  ToNative : NativeEntry → List PyObjectRef → Bindings → PlainTask

-- what a task answers: an object, that it is done, a number, a truth value, an object or that there is none, a list of objects, or that an iteration has come to its end
pub data PlainAnswer : Type 0 where
  AsValue : PyObjectRef → PlainAnswer
  AsDone : PlainAnswer
  AsNumber : ℤ → PlainAnswer
  AsTruth : Bool → PlainAnswer
  AsMaybe : Option PyObjectRef → PlainAnswer
  AsObjects : List PyObjectRef → PlainAnswer
  AsExhausted : PlainAnswer
  -- a method: its target and its function, or what the attribute gave
  AsFunction : PyObjectRef → PyObjectRef → PlainAnswer
  AsAttribute : PyObjectRef → PlainAnswer
  -- the class past which `super` starts to look
  AsStart : ℕ → PlainAnswer

-- how a row ends
abbrev pub Ended : Type 0
Ended = Result PlainAnswer Fault

-- what a row has learnt: the answer to what it asked, the node that it made, entries, objects or names with objects that it read once, or which of several ways it went
pub data Fact : Type 0 where
  Answered : Ended → Fact
  Made : PyObjectRef → Fact
  Read : List SlotEntry → Fact
  ReadObjects : List PyObjectRef → Fact
  ReadNames : Bindings → Fact
  Chose : ℕ → Fact

abbrev pub Told : Type 0
Told = List Fact

-- what a row does next, and the world then: it asks a task, having learnt something, or it ends
pub data Said : Type 0 where
  Asks : PlainWorld → Told → PlainTask → Said
  Ends : PlainWorld → Ended → Said

-- what the rows of some tasks say in the world as it is, given what they have learnt so far
abbrev pub Saying : Type 0 → Type 0
Saying J = PlainWorld → J → Told → Said
