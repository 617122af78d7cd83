-- How the numbers of the code are read as texts and trees.
use Rattle.class_world.specs.Below.{ℕ, eqb, List, [], Option, Some, None, Result, Ok, Err, map, slice_get, string_bytes, option_map, option_and_then, ExprRef, PyObjectRef, PyStrInterned, Node as StoredNode, Function, MemberDescriptor, Payload, Form, Raised as Fault, Answer, PyMethod, Task, EvalTask, AttributeTask, PySetterValue, Assign, Delete, DescriptorTask, CallTask, ClassTask, OperatorTask, CompareTask, ProtocolTask, ObjectTask, Text, Tree, TConst, TName, TBind, TTuple, TList, TDict, TFunc, TAttr, TSetAttr, TDelAttr, TCall, TOp, TIf, TSeq, TRaise, TClass, Entries, no_entries, entry, trees_of, keyed_of, literal_of, value_at, Classes, renamed, offset_of, Datum, AnObject, AClass, ANumber, AText, ATuple, AList, ADict, AFunction, AMethod, ANativeFunction, ABuiltinMethod, AMethodDescriptor, AGetSet, AClassMethod, AStaticMethod, AMember, AProperty, ASuper, AnIterator, ASlice, Places, Bindings, Scope, PlainWorld, PlainTask, ToEval, ToAttribute, ToDescriptor, ToCall, ToClass, ToOperator, ToCompare, ToProtocol, ToObject, ToNative, PlainAnswer, AsValue, AsDone, AsNumber, AsTruth, AsMaybe, AsObjects, AsExhausted, AsFunction, AsAttribute, AsStart, Ended, EvalJob, DoEval, CallJob, DoCall, DoBody, DoTypeCall, DoNew, DoInit, DoObject, ClassJob, DoMakeClass, DoType, AttributeJob, DoGetAttr, DoGeneric, DoGenericOpt, DoSetAttr, DoGenericSet, DoTypeGet, DoTypeSet, DoHasAttr, DoSpecial, DoBind, DoLoadMethod, DoInvoke, DescriptorJob, DoDescrGet, DoDescrSet, DoSuperGet, DoSuperInit, DoSuperCheck, OperatorJob, DoAdd, DoBinOp1, DoEnter, DoBinary, DoInplaceOp1, DoInplace, DoConcat, DoInplaceAdd, DoInplaceConcat, DoMul, DoRepeat, DoInplaceMul, DoInplaceRepeat, DoNativeRepeat, DoEnterPower, DoPower, DoInplacePower, DoUnary, DoInt, CompareJob, DoCompare, DoCmp, DoRichBool, DoBoolEq, DoIdEq, DoSeqLt, DoSeqGt, ProtocolJob, DoIsTrue, DoIndex, DoWhole, DoLength, DoHint, DoGetItem, DoSetItem, DoDelItem, DoGetSlice, DoSetSlice, DoDelSlice, DoGetIter, DoNext, DoCollect, DoContains, DoCount, DoFind, DoKeys, DoValues, DoItems, ObjectJob, DoHash, DoRepr, DoStr, DoFormat, DoDir, DoIsInstance, DoInst, DoIsSubclass, DoSub, DoAbsSub, is_text}
use Rattle.std.specs.Prelude.{◌≡◌, ◌∷◌}
use Rattle.py_node.specs.declared.payload.Payload.TheVariants as payload
use Rattle.py_node.specs.declared.payload.Form.TheVariants as form
use Rattle.py_node.specs.declared.task.Answer.TheVariants as answer
use Rattle.py_node.specs.declared.task.PyMethod.TheVariants as method
use Rattle.py_node.specs.declared.task.Task.TheVariants as task
use Rattle.py_node.specs.declared.task.EvalTask.TheVariants as eval
use Rattle.py_node.specs.declared.task.AttributeTask.TheVariants as attribute
use Rattle.py_node.specs.declared.task.DescriptorTask.TheVariants as descriptor
use Rattle.py_node.specs.declared.task.CallTask.TheVariants as call
use Rattle.py_node.specs.declared.task.ClassTask.TheVariants as class
use Rattle.py_node.specs.declared.task.OperatorTask.TheVariants as operator
use Rattle.py_node.specs.declared.protocol.CompareTask.TheVariants as compare
use Rattle.py_node.specs.declared.protocol.ProtocolTask.TheVariants as protocol
use Rattle.py_node.specs.declared.protocol.ObjectTask.TheVariants as object
use Rattle.plain_machine.specs.Plain.{Node}
use Rattle.class_world.specs.declared.scope.Scope.{Scope as HeldScope}
use Rattle.class_world.specs.declared.world.World.{World}

-- each number as a text, no two alike, and each number as a tree
pub record Reading : Type 0 where
  pub text : ℕ → Text
  pub tree : ℕ → Tree
  pub same : (n m : ℕ) → is_text (text n) (text m) ≡ eqb n m

abbrev pub entry_list : List (Text × Tree) → Entries
entry_list [] = no_entries
entry_list (e ∷ es) = entry e.0 e.1 (entry_list es)

-- names with the numbers of expressions, as entries
abbrev pub stored_entries : (ℕ → Text) → (ℕ → Tree) → List (PyStrInterned × ExprRef) → Entries
stored_entries text tree es = entry_list (map (λ e. (text e.0.0, tree e.1.0)) es)

-- an expression of the store, as a tree
abbrev pub form_tree : (ℕ → Text) → (ℕ → Tree) → Form → Tree
form_tree text tree (form.Const k) = TConst (literal_of k)
form_tree text tree (form.Name x) = TName (text x.0)
form_tree text tree (form.Bind x e) = TBind (text x.0) (tree e.0)
form_tree text tree (form.Tuple es) = TTuple (trees_of (map (λ e. tree e.0) es.items))
form_tree text tree (form.List es) = TList (trees_of (map (λ e. tree e.0) es.items))
form_tree text tree (form.Dict ps) = TDict (keyed_of (map (λ p. (tree p.0.0, tree p.1.0)) ps.items))
form_tree text tree (form.Func f) = TFunc (text f.value.name.0) (map (λ p. text p.0) f.value.params.items) f.value.rest (tree f.value.body.0)
form_tree text tree (form.Attr o x) = TAttr (tree o.0) (text x.0)
form_tree text tree (form.SetAttr o x e) = TSetAttr (tree o.0) (text x.0) (tree e.0)
form_tree text tree (form.DelAttr o x) = TDelAttr (tree o.0) (text x.0)
form_tree text tree (form.Call c) =
    TCall (tree c.value.function.0) (trees_of (map (λ e. tree e.0) c.value.args.items)) (stored_entries text tree c.value.keywords.items)
form_tree text tree (form.Op word es) = TOp word (trees_of (map (λ e. tree e.0) es.items))
form_tree text tree (form.If c a b) = TIf (tree c.0) (tree a.0) (tree b.0)
form_tree text tree (form.Seq es) = TSeq (trees_of (map (λ e. tree e.0) es.items))
form_tree text tree (form.Raise kind) = TRaise kind
form_tree text tree (form.Class k) =
    TClass (text k.value.name.0) (trees_of (map (λ e. tree e.0) k.value.bases.items)) (stored_entries text tree k.value.keywords.items) (stored_entries text tree k.value.entries.items)

-- the numbers are read as the world's tables have them
pub record Reads (t : Reading) (w : World) : Type 0 where
  pub names : (n : ℕ) (text : Text) → slice_get w.names n ≡ Some text → t.text n ≡ text
  pub trees : (n : ℕ) (form : Form) → slice_get w.forms n ≡ Some form → t.tree n ≡ form_tree t.text t.tree form

-- there is such a reading
abbrev pub IsReadable : World → Type 0
IsReadable w = (t : Reading) × Reads t w

abbrev pub spelled : Reading → PyStrInterned → Text
spelled t x = t.text x.0

-- a name that may be absent
abbrev pub spelled_option : Reading → Option PyStrInterned → Option Text
spelled_option t o = option_map (spelled t) o

abbrev pub function_datum : Reading → Function → Datum
function_datum t f = AFunction (spelled t f.name) (map (spelled t) f.params.items) f.rest (t.tree f.body.0) (option_map (λ c. c.0) f.class)

abbrev pub member_datum : Reading → MemberDescriptor → Datum
member_datum t m = AMember m.class.0 (spelled t m.name) m.kind m.getter m.setter (spelled_option t m.qualname) (spelled_option t m.doc)

abbrev pub datum : Reading → Payload → Datum
datum t payload.Object = AnObject
datum t (payload.Class c) = AClass c.0
datum t (payload.Number z) = ANumber z
datum t (payload.Text s) = AText (string_bytes s)
datum t (payload.Tuple rs) = ATuple rs.items
datum t (payload.List rs) = AList rs.items
datum t (payload.Dict es) = ADict es.items
datum t (payload.Function f) = function_datum t f.value
datum t (payload.Method m) = AMethod m.target m.func
datum t (payload.NativeFunction f) = ANativeFunction (spelled t f.name) f.entry f.target (spelled_option t f.doc)
datum t (payload.BuiltinMethod m) = ABuiltinMethod (spelled t m.name) m.entry m.target m.class.0 (spelled_option t m.doc)
datum t (payload.MethodDescriptor m) = AMethodDescriptor m.class.0 (spelled t m.name) m.entry m.flags (spelled_option t m.doc)
datum t (payload.GetSet g) = AGetSet g.class.0 (spelled t g.name) g.getter g.setter
datum t (payload.ClassMethod r) = AClassMethod r
datum t (payload.StaticMethod r) = AStaticMethod r
datum t (payload.Member m) = member_datum t m.value
datum t (payload.Property p) = AProperty p.value
datum t (payload.Super s) = ASuper s.typ.0 (option_map (λ b. (b.0, b.1.0)) s.obj)
datum t (payload.Iterator i) = AnIterator i
datum t (payload.Slice s) = ASlice s

-- what stands in the places of an object of a class: each at its offset there
unfoldable pub places_of : Classes PyStrInterned → ℕ → List (Option PyObjectRef) → Places
places_of classes c ms = λ d i. option_and_then (value_at ms) (offset_of classes c d i)

abbrev pub node_of : Reading → Classes PyStrInterned → StoredNode → Node
node_of t classes n = record { class = n.class.0; dict = n.dict; members = places_of classes n.class.0 n.members; datum = datum t n.payload }

abbrev pub bindings : Reading → List (PyStrInterned × PyObjectRef) → Bindings
bindings t bs = map (λ b. (spelled t b.0, b.1)) bs

abbrev pub scope_of : Reading → HeldScope → Scope
scope_of t s = record { func = s.func; vars = bindings t s.vars }

-- the plain world that a world stands for
unfoldable pub plain : Reading → World → PlainWorld
plain t w = record {
  nodes = map (node_of t w.classes) w.nodes;
  classes = renamed (spelled t) w.classes;
  vars = bindings t w.vars;
  scopes = map (scope_of t) w.scopes;
  calls = w.calls;
}

abbrev pub eval_job : Reading → EvalTask → EvalJob
eval_job t (eval.Eval e) = DoEval (t.tree e.0)

-- what is set: a value, or nothing where it is taken out
abbrev pub setter_value : PySetterValue → Option PyObjectRef
setter_value (Assign v) = Some v
setter_value Delete = None

abbrev pub method_target : PyMethod → Option PyObjectRef
method_target (method.Function r f) = Some r
method_target (method.Attribute f) = None

abbrev pub method_func : PyMethod → PyObjectRef
method_func (method.Function r f) = f
method_func (method.Attribute f) = f

abbrev pub attribute_job : Reading → AttributeTask → AttributeJob
attribute_job t (attribute.GetAttr o x) = DoGetAttr o (spelled t x)
attribute_job t (attribute.Generic o x) = DoGeneric o (spelled t x)
attribute_job t (attribute.GenericOpt o x d) = DoGenericOpt o (spelled t x) d
attribute_job t (attribute.SetAttr o x v) = DoSetAttr o (spelled t x) (setter_value v)
attribute_job t (attribute.GenericSet o x v) = DoGenericSet o (spelled t x) (setter_value v)
attribute_job t (attribute.TypeGet c x) = DoTypeGet c.0 (spelled t x)
attribute_job t (attribute.TypeSet c x v) = DoTypeSet c.0 (spelled t x) (setter_value v)
attribute_job t (attribute.HasAttr o x) = DoHasAttr o (spelled t x)
attribute_job t (attribute.Special o x args kw) = DoSpecial o (spelled t x) args.items (bindings t kw.items)
attribute_job t (attribute.Bind m o c) = DoBind m o c
attribute_job t (attribute.LoadMethod o x) = DoLoadMethod o (spelled t x)
attribute_job t (attribute.Invoke m args kw) = DoInvoke (method_target m) (method_func m) args.items (bindings t kw.items)

abbrev pub descriptor_job : Reading → DescriptorTask → DescriptorJob
descriptor_job t (descriptor.DescrGet m o c) = DoDescrGet m o c
descriptor_job t (descriptor.DescrSet m o v) = DoDescrSet m o (setter_value v)
descriptor_job t (descriptor.SuperGet s x) = DoSuperGet s (spelled t x)
descriptor_job t (descriptor.SuperInit s args) = DoSuperInit s args.items
descriptor_job t (descriptor.SuperCheck c o) = DoSuperCheck c.0 o

abbrev pub call_job : Reading → CallTask → CallJob
call_job t (call.Call f args kw) = DoCall f args.items (bindings t kw.items)
call_job t (call.Body f args kw) = DoBody f args.items (bindings t kw.items)
call_job t (call.TypeCall c args kw) = DoTypeCall c.0 args.items (bindings t kw.items)
call_job t (call.New k c args kw) = DoNew k.0 c.0 args.items (bindings t kw.items)
call_job t (call.Init o args kw) = DoInit o args.items (bindings t kw.items)
call_job t (call.Object n args kw) = DoObject n args.items (bindings t kw.items)

abbrev pub class_job : Reading → ClassTask → ClassJob
class_job t (class.MakeClass c args kw) = DoMakeClass c.0 args.items (bindings t kw.items)
class_job t (class.Type n args kw) = DoType n args.items (bindings t kw.items)

abbrev pub operator_job : Reading → OperatorTask → OperatorJob
operator_job t (operator.Add a b) = DoAdd a b
operator_job t (operator.BinOp1 op a b) = DoBinOp1 op a b
operator_job t (operator.Enter s a b) = DoEnter s a b
operator_job t (operator.Binary op a b) = DoBinary op a b
operator_job t (operator.InplaceOp1 op a b) = DoInplaceOp1 op a b
operator_job t (operator.Inplace op a b) = DoInplace op a b
operator_job t (operator.Concat a b) = DoConcat a b
operator_job t (operator.InplaceAdd a b) = DoInplaceAdd a b
operator_job t (operator.InplaceConcat a b) = DoInplaceConcat a b
operator_job t (operator.Mul a b) = DoMul a b
operator_job t (operator.Repeat a n) = DoRepeat a n
operator_job t (operator.InplaceMul a b) = DoInplaceMul a b
operator_job t (operator.InplaceRepeat a n) = DoInplaceRepeat a n
operator_job t (operator.NativeRepeat e a n) = DoNativeRepeat e a n
operator_job t (operator.EnterPower s a b c) = DoEnterPower s a b c
operator_job t (operator.Power a b c) = DoPower a b c
operator_job t (operator.InplacePower a b c) = DoInplacePower a b c
operator_job t (operator.Unary op a) = DoUnary op a
operator_job t (operator.Int n args kw) = DoInt n args.items (bindings t kw.items)

abbrev pub compare_job : CompareTask → CompareJob
compare_job (compare.Compare a b op) = DoCompare a b op
compare_job (compare.Cmp a b op) = DoCmp a b op
compare_job (compare.RichBool a b op) = DoRichBool a b op
compare_job (compare.BoolEq a b) = DoBoolEq a b
compare_job (compare.IdEq a b) = DoIdEq a b
compare_job (compare.SeqLt a b) = DoSeqLt a b
compare_job (compare.SeqGt a b) = DoSeqGt a b

abbrev pub protocol_job : ProtocolTask → ProtocolJob
protocol_job (protocol.IsTrue o) = DoIsTrue o
protocol_job (protocol.Index o) = DoIndex o
protocol_job (protocol.Int o) = DoWhole o
protocol_job (protocol.Length o) = DoLength o
protocol_job (protocol.Hint o d) = DoHint o d
protocol_job (protocol.GetItem o k) = DoGetItem o k
protocol_job (protocol.SetItem o k v) = DoSetItem o k v
protocol_job (protocol.DelItem o k) = DoDelItem o k
protocol_job (protocol.GetSlice o i j) = DoGetSlice o i j
protocol_job (protocol.SetSlice o i j v) = DoSetSlice o i j v
protocol_job (protocol.DelSlice o i j) = DoDelSlice o i j
protocol_job (protocol.GetIter o) = DoGetIter o
protocol_job (protocol.Next o) = DoNext o
protocol_job (protocol.Collect o) = DoCollect o
protocol_job (protocol.Contains o x) = DoContains o x
protocol_job (protocol.Count o x) = DoCount o x
protocol_job (protocol.Find o x) = DoFind o x
protocol_job (protocol.Keys o) = DoKeys o
protocol_job (protocol.Values o) = DoValues o
protocol_job (protocol.Items o) = DoItems o

abbrev pub object_job : ObjectTask → ObjectJob
object_job (object.Hash o) = DoHash o
object_job (object.Repr o) = DoRepr o
object_job (object.Str o) = DoStr o
object_job (object.Format o s) = DoFormat o s
object_job (object.Dir o) = DoDir o
object_job (object.IsInstance o c) = DoIsInstance o c
object_job (object.Inst o c) = DoInst o c
object_job (object.IsSubclass d c) = DoIsSubclass d c
object_job (object.Sub d c) = DoSub d c
object_job (object.AbsSub d c) = DoAbsSub d c

abbrev pub task_of : Reading → Task → PlainTask
task_of t (task.Eval job) = ToEval (eval_job t job)
task_of t (task.Attribute job) = ToAttribute (attribute_job t job)
task_of t (task.Descriptor job) = ToDescriptor (descriptor_job t job)
task_of t (task.Call job) = ToCall (call_job t job)
task_of t (task.Class job) = ToClass (class_job t job)
task_of t (task.Operator job) = ToOperator (operator_job t job)
task_of t (task.Compare job) = ToCompare (compare_job job)
task_of t (task.Protocol job) = ToProtocol (protocol_job job)
task_of t (task.Object job) = ToObject (object_job job)
task_of t (task.Native n args kw) = ToNative n args.items (bindings t kw.items)

abbrev pub method_of : PyMethod → PlainAnswer
method_of (method.Function r f) = AsFunction r f
method_of (method.Attribute r) = AsAttribute r

abbrev pub answer_of : Answer → PlainAnswer
answer_of (answer.Value r) = AsValue r
answer_of answer.Done = AsDone
answer_of (answer.Number z) = AsNumber z
answer_of (answer.Truth b) = AsTruth b
answer_of (answer.Maybe o) = AsMaybe o
answer_of (answer.Objects rs) = AsObjects rs.items
answer_of answer.Exhausted = AsExhausted
answer_of (answer.Method m) = method_of m
answer_of (answer.Start c) = AsStart c.0

-- how a row ended
abbrev pub ended_of : Result Answer Fault → Ended
ended_of (Ok a) = Ok (answer_of a)
ended_of (Err x) = Err x
