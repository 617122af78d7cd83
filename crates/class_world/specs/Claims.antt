-- What tasks, answers and steps say of the world's numbers.
use Rattle.class_world.specs.Below.{ℕ, List, length, [], Result, Ok, Err, IfOk, OutOfMemory, Raised as Fault, Answer, Value, Done, Number, Truth, Maybe, Objects, Exhausted, Method, Start, PyMethod, Task, EvalTask, AttributeTask, PySetterValue, Assign, Delete, DescriptorTask, CallTask, ClassTask, PyObjectRef, PyStrInterned, OperatorTask, CompareTask, ProtocolTask, ObjectTask, Step, Ask, End, TypeType}
use Rattle.std.specs.Prelude.{◌≡◌, ◌+◌, ◌-◌, ◌∷◌, ◌++◌}
use Rattle.py_node.specs.declared.task.PyMethod.TheVariants as method
use Rattle.py_node.specs.declared.task.Task.TheVariants as task
use Rattle.py_node.specs.declared.task.EvalTask.TheVariants as eval
use Rattle.py_node.specs.declared.task.AttributeTask.TheVariants as attribute
use Rattle.py_node.specs.declared.task.DescriptorTask.TheVariants as descriptor
use Rattle.py_node.specs.declared.task.CallTask.TheVariants as call
use Rattle.py_node.specs.declared.task.ClassTask.TheVariants as class
use Rattle.py_node.specs.declared.task.OperatorTask.TheVariants as operator
use Rattle.py_node.specs.declared.protocol.CompareTask.TheVariants as compare
use Rattle.py_node.specs.declared.protocol.ProtocolTask.TheVariants as protocol
use Rattle.py_node.specs.declared.protocol.ObjectTask.TheVariants as object
use Rattle.class_world.specs.Held.{Held}
use Rattle.class_world.specs.Sound.{AllHold, Lasts, Grows, Claim, IsNode, AreNodes, IsName, IsClass, IsOf, IsExpression, of_binding, of_each, of_option, of_node_ref}

abbrev pub of_eval_task : EvalTask → List Claim
of_eval_task (eval.Eval e) = IsExpression e ∷ []

-- of arguments and keywords
abbrev pub of_args : List PyObjectRef → List (PyStrInterned × PyObjectRef) → List Claim
of_args args kw = AreNodes args ∷ of_each of_binding kw

-- of what is set
abbrev pub of_setter : PySetterValue → List Claim
of_setter (Assign v) = IsNode v ∷ []
of_setter Delete = []

abbrev pub of_method : PyMethod → List Claim
of_method (method.Function r f) = IsNode r ∷ IsNode f ∷ []
of_method (method.Attribute r) = IsNode r ∷ []

abbrev pub of_attribute_task : AttributeTask → List Claim
of_attribute_task (attribute.GetAttr o x) = IsNode o ∷ IsName x ∷ []
of_attribute_task (attribute.Generic o x) = IsNode o ∷ IsName x ∷ []
of_attribute_task (attribute.GenericOpt o x d) = IsNode o ∷ IsName x ∷ of_option of_node_ref d
of_attribute_task (attribute.SetAttr o x v) = IsNode o ∷ IsName x ∷ of_setter v
of_attribute_task (attribute.GenericSet o x v) = IsNode o ∷ IsName x ∷ of_setter v
of_attribute_task (attribute.TypeGet c x) = IsClass c.0 ∷ IsName x ∷ []
of_attribute_task (attribute.TypeSet c x v) = IsClass c.0 ∷ IsName x ∷ of_setter v
of_attribute_task (attribute.HasAttr o x) = IsNode o ∷ IsName x ∷ []
of_attribute_task (attribute.Special o x args kw) = IsNode o ∷ IsName x ∷ of_args args.items kw.items
of_attribute_task (attribute.Bind m o c) = IsNode m ∷ IsNode c ∷ of_option of_node_ref o
of_attribute_task (attribute.LoadMethod o x) = IsNode o ∷ IsName x ∷ []
of_attribute_task (attribute.Invoke m args kw) = of_method m ++ of_args args.items kw.items

abbrev pub of_descriptor_task : DescriptorTask → List Claim
of_descriptor_task (descriptor.DescrGet m o c) = IsNode m ∷ of_option of_node_ref o ++ of_option of_node_ref c
of_descriptor_task (descriptor.DescrSet m o v) = IsNode m ∷ IsNode o ∷ of_setter v
of_descriptor_task (descriptor.SuperGet s x) = IsNode s ∷ IsName x ∷ []
of_descriptor_task (descriptor.SuperInit s args) = IsNode s ∷ AreNodes args.items ∷ []
of_descriptor_task (descriptor.SuperCheck c o) = IsClass c.0 ∷ IsNode o ∷ []

abbrev pub of_call_task : CallTask → List Claim
of_call_task (call.Call f args kw) = IsNode f ∷ of_args args.items kw.items
of_call_task (call.Body f args kw) = IsNode f ∷ of_args args.items kw.items
of_call_task (call.TypeCall c args kw) = IsClass c.0 ∷ of_args args.items kw.items
of_call_task (call.New k c args kw) = IsClass k.0 ∷ IsClass c.0 ∷ of_args args.items kw.items
of_call_task (call.Init o args kw) = IsNode o ∷ of_args args.items kw.items
of_call_task (call.Object n args kw) = of_args args.items kw.items

abbrev pub of_class_task : ClassTask → List Claim
of_class_task (class.MakeClass c args kw) = IsClass c.0 ∷ IsOf c.0 TypeType ∷ of_args args.items kw.items
of_class_task (class.Type n args kw) = of_args args.items kw.items

abbrev pub of_operator_task : OperatorTask → List Claim
of_operator_task (operator.Add a b) = IsNode a ∷ IsNode b ∷ []
of_operator_task (operator.BinOp1 op a b) = IsNode a ∷ IsNode b ∷ []
of_operator_task (operator.Enter s a b) = IsNode a ∷ IsNode b ∷ []
of_operator_task (operator.Binary op a b) = IsNode a ∷ IsNode b ∷ []
of_operator_task (operator.InplaceOp1 op a b) = IsNode a ∷ IsNode b ∷ []
of_operator_task (operator.Inplace op a b) = IsNode a ∷ IsNode b ∷ []
of_operator_task (operator.Concat a b) = IsNode a ∷ IsNode b ∷ []
of_operator_task (operator.InplaceAdd a b) = IsNode a ∷ IsNode b ∷ []
of_operator_task (operator.InplaceConcat a b) = IsNode a ∷ IsNode b ∷ []
of_operator_task (operator.Mul a b) = IsNode a ∷ IsNode b ∷ []
of_operator_task (operator.Repeat a n) = IsNode a ∷ []
of_operator_task (operator.InplaceMul a b) = IsNode a ∷ IsNode b ∷ []
of_operator_task (operator.InplaceRepeat a n) = IsNode a ∷ []
of_operator_task (operator.NativeRepeat e a n) = IsNode a ∷ []
of_operator_task (operator.EnterPower s a b c) = IsNode a ∷ IsNode b ∷ IsNode c ∷ []
of_operator_task (operator.Power a b c) = IsNode a ∷ IsNode b ∷ IsNode c ∷ []
of_operator_task (operator.InplacePower a b c) = IsNode a ∷ IsNode b ∷ IsNode c ∷ []
of_operator_task (operator.Unary op a) = IsNode a ∷ []
of_operator_task (operator.Int n args kw) = AreNodes args.items ∷ of_each of_binding kw.items

abbrev pub of_compare_task : CompareTask → List Claim
of_compare_task (compare.Compare a b op) = IsNode a ∷ IsNode b ∷ []
of_compare_task (compare.Cmp a b op) = IsNode a ∷ IsNode b ∷ []
of_compare_task (compare.RichBool a b op) = IsNode a ∷ IsNode b ∷ []
of_compare_task (compare.BoolEq a b) = IsNode a ∷ IsNode b ∷ []
of_compare_task (compare.IdEq a b) = IsNode a ∷ IsNode b ∷ []
of_compare_task (compare.SeqLt a b) = IsNode a ∷ IsNode b ∷ []
of_compare_task (compare.SeqGt a b) = IsNode a ∷ IsNode b ∷ []

abbrev pub of_protocol_task : ProtocolTask → List Claim
of_protocol_task (protocol.IsTrue o) = IsNode o ∷ []
of_protocol_task (protocol.Index o) = IsNode o ∷ []
of_protocol_task (protocol.Int o) = IsNode o ∷ []
of_protocol_task (protocol.Length o) = IsNode o ∷ []
of_protocol_task (protocol.Hint o d) = IsNode o ∷ []
of_protocol_task (protocol.GetItem o k) = IsNode o ∷ IsNode k ∷ []
of_protocol_task (protocol.SetItem o k v) = IsNode o ∷ IsNode k ∷ IsNode v ∷ []
of_protocol_task (protocol.DelItem o k) = IsNode o ∷ IsNode k ∷ []
of_protocol_task (protocol.GetSlice o i j) = IsNode o ∷ []
of_protocol_task (protocol.SetSlice o i j v) = IsNode o ∷ IsNode v ∷ []
of_protocol_task (protocol.DelSlice o i j) = IsNode o ∷ []
of_protocol_task (protocol.GetIter o) = IsNode o ∷ []
of_protocol_task (protocol.Next o) = IsNode o ∷ []
of_protocol_task (protocol.Collect o) = IsNode o ∷ []
of_protocol_task (protocol.Contains o x) = IsNode o ∷ IsNode x ∷ []
of_protocol_task (protocol.Count o x) = IsNode o ∷ IsNode x ∷ []
of_protocol_task (protocol.Find o x) = IsNode o ∷ IsNode x ∷ []
of_protocol_task (protocol.Keys o) = IsNode o ∷ []
of_protocol_task (protocol.Values o) = IsNode o ∷ []
of_protocol_task (protocol.Items o) = IsNode o ∷ []

abbrev pub of_object_task : ObjectTask → List Claim
of_object_task (object.Hash o) = IsNode o ∷ []
of_object_task (object.Repr o) = IsNode o ∷ []
of_object_task (object.Str o) = IsNode o ∷ []
of_object_task (object.Format o s) = IsNode o ∷ IsNode s ∷ []
of_object_task (object.Dir o) = IsNode o ∷ []
of_object_task (object.IsInstance o c) = IsNode o ∷ IsNode c ∷ []
of_object_task (object.Inst o c) = IsNode o ∷ IsNode c ∷ []
of_object_task (object.IsSubclass d c) = IsNode d ∷ IsNode c ∷ []
of_object_task (object.Sub d c) = IsNode d ∷ IsNode c ∷ []
of_object_task (object.AbsSub d c) = IsNode d ∷ IsNode c ∷ []

abbrev pub of_task : Task → List Claim
of_task (task.Eval job) = of_eval_task job
of_task (task.Attribute job) = of_attribute_task job
of_task (task.Descriptor job) = of_descriptor_task job
of_task (task.Call job) = of_call_task job
of_task (task.Class job) = of_class_task job
of_task (task.Operator job) = of_operator_task job
of_task (task.Compare job) = of_compare_task job
of_task (task.Protocol job) = of_protocol_task job
of_task (task.Object job) = of_object_task job
of_task (task.Native n args kw) = of_args args.items kw.items

abbrev pub of_answer : Answer → List Claim
of_answer (Value r) = IsNode r ∷ []
of_answer Done = []
of_answer (Number z) = []
of_answer (Truth b) = []
of_answer (Maybe o) = of_option of_node_ref o
of_answer (Objects rs) = AreNodes rs.items ∷ []
of_answer Exhausted = []
of_answer (Method m) = of_method m
of_answer (Start c) = IsClass c.0 ∷ []

-- of how a row ended
abbrev pub of_ended : Result Answer Fault → List Claim
of_ended (Ok a) = of_answer a
of_ended (Err x) = []

-- of a step, where this is said of what is kept
abbrev pub of_step : {K : Type 0} → (K → List Claim) → Step K → List Claim
of_step of_kept (Ask asked kept) = of_task asked ++ of_kept kept
of_step of_kept (End r) = of_ended r

-- what a row leaves: what held of numbers holds still, and so does all that its step says
abbrev pub Leaves : {K : Type 0} → (K → List Claim) → Held → Held → Result (Step K) OutOfMemory → Type 0
Leaves of_kept old new result = Grows old new × IfOk result (λ step. AllHold new (of_step of_kept step))

-- how many bodies a step leaves open, where this is said of what is kept
abbrev pub left_open : {K : Type 0} → (K → ℕ) → Step K → ℕ
left_open bodies (Ask asked kept) = bodies kept
left_open bodies (End r) = 0

-- what a row leaves that may begin and end bodies, and had so many open before: what held of numbers holds still, and so does all that its step says. Besides the bodies that others began, those run that the step leaves open
abbrev pub LeavesOpen : {K : Type 0} → (K → List Claim) → (K → ℕ) → ℕ → Held → Held → Result (Step K) OutOfMemory → Type 0
LeavesOpen of_kept bodies before old new result =
    Lasts old new × IfOk result (λ step. AllHold new (of_step of_kept step) × (length new.scopes ≡ (length old.scopes - before) + left_open bodies step))
