-- What the contracts of the rows of expressions say.
use Rattle.proto_call.specs.Below.{ℕ, ltb, Bool, List, [], map, length, Option, Some, None, Result, Ok, slice_get, Raised as Fault, ExprRef, PyObjectRef, Answer, Value, EvalTask, PyStrInterned, Step, Ask, End, Form, literal_of, Tree, TCall, TDict, KeyedTrees, no_keyed, Trees, no_trees, Entries, no_entries, Bindings, PlainWorld, DoEval, DoInvoke, DoCall, PlainTask, ToAttribute, ToCall, Ended, Fact, Answered, Told, Ends, Row, end, value, World, Reading, Reads, plain, eval_job, method_target, method_func, ended_of, Group, Point, of_method, Claim, IsNode, AreNodes, IsExpression, HasForm, of_pairs}
use Rattle.std.specs.Prelude.{◌≡◌, ◌∷◌, ◌++◌}
use Rattle.py_node.specs.declared.payload.Form.TheVariants as form
use Rattle.row_kit.specs.Points as points
use Rattle.proto_call.specs.declared.eval_forms.EvalKept.{EvalKept}
use Rattle.proto_call.specs.declared.eval_forms.EvalKept.TheVariants.{Pass, Made, Count, Start, Stop, Branch, Operands, Load, Arguments, Key, Value as OfKey}
use Rattle.proto_call.specs.declared.eval_forms.call_form.Called.{Called}
use Rattle.proto_call.specs.declared.eval_forms.call_form.Called.TheVariants as called
use Rattle.proto_call.specs.declared.eval_forms.bounds.Part.{Part}
use Rattle.proto_call.specs.declared.eval_forms.bounds.Part.TheVariants as part
use Rattle.proto_call.specs.declared.eval_forms.Own.{Own}
use Rattle.proto_call.specs.declared.eval_forms.Own.TheVariants as own
use Rattle.proto_call.specs.EvalForms.Say.{Pairs, arguments_say, branch_say, callee_tree, dict_say, eval_say, invoke_say, on_method}
use Rattle.proto_call.specs.EvalForms.Words.{counted_by, made, part_start, part_stop}

-- the values of the operands so far, as they were learnt
abbrev pub answered : PyObjectRef → Fact
answered v = Answered (value v)

-- the arguments of a call, and its keywords
abbrev pub args_of : Tree → Trees
args_of (TCall f es kw) = es
args_of _ = no_trees

abbrev pub keywords_of : Tree → Entries
keywords_of (TCall f es kw) = kw
keywords_of _ = no_entries

-- the pairs of a dict
abbrev pub pairs_of : Tree → KeyedTrees
pairs_of (TDict ps) = ps
pairs_of _ = no_keyed

-- the keys and the values so far, as they were learnt
abbrev pub pairs_told : Pairs → Told
pairs_told [] = []
pairs_told (e ∷ es) = answered e.0 ∷ answered e.1 ∷ pairs_told es

-- the task that calls it
abbrev pub called_task : Called → List PyObjectRef → Bindings → PlainTask
called_task (called.Object f) args kw = ToCall (DoCall f args kw)
called_task (called.Method m) args kw = ToAttribute (DoInvoke (method_target m) (method_func m) args kw)

-- the row of an expression whose operands have these values so far
abbrev pub operands_row : Tree → List PyObjectRef → Point
operands_row x vs w told = eval_say w (DoEval x) (map answered vs ++ told)

-- the row of a call that has learnt what it calls, and whose arguments, and then keywords, have these values so far
abbrev pub arguments_row : Tree → Called → List PyObjectRef → Point
arguments_row x f vs w told = arguments_say w (args_of x) (keywords_of x) (called_task f) (map answered vs ++ told)

-- the row of a dict with these pairs so far
abbrev pub pairs_row : Tree → Pairs → Point
pairs_row x es w told = dict_say w (pairs_of x) (pairs_told es ++ told)

-- what is done with the answer where this is kept
abbrev pub eval_stands : Reading → EvalKept → Ended → Point
eval_stands t Pass r w = end w r
eval_stands t (Made o) r w = made w o r
eval_stands t (Count k o) r w = counted_by w k o r
eval_stands t (Start p o j) r w = part_start w p o j r
eval_stands t (Stop p o i) r w = part_stop w p o (value i) r
eval_stands t (Branch a b) r w = branch_say w (t.tree a.0) (t.tree b.0) r
eval_stands t (Operands e vs) r w = λ told. operands_row (t.tree e.0) vs.items w (Answered r ∷ told)
eval_stands t (Load e) r w = on_method w r (invoke_say w (args_of (t.tree e.0)) (keywords_of (t.tree e.0)))
eval_stands t (Arguments e f vs) r w = λ told. arguments_row (t.tree e.0) f vs.items w (Answered r ∷ told)
eval_stands t (Key e es) r w = λ told. pairs_row (t.tree e.0) es.items w (Answered r ∷ told)
eval_stands t (OfKey e es k) r w = λ told. pairs_row (t.tree e.0) es.items w (answered k ∷ Answered r ∷ told)

-- the operands of an expression of the store, in order
abbrev pub operands : Form → List ExprRef
operands (form.Bind x e) = e ∷ []
operands (form.Tuple es) = es.items
operands (form.List es) = es.items
operands (form.Attr o x) = o ∷ []
operands (form.SetAttr o x e) = o ∷ e ∷ []
operands (form.DelAttr o x) = o ∷ []
operands (form.Call parts) = parts.value.function ∷ []
operands (form.Op word es) = es.items
operands (form.If c a b) = c ∷ []
operands (form.Seq es) = es.items
operands (form.Class parts) = parts.value.bases.items ++ (map (λ e. e.1) parts.value.keywords.items ++ map (λ e. e.1) parts.value.entries.items)
operands _ = []

abbrev pub operands_at : Option Form → List ExprRef
operands_at None = []
operands_at (Some f) = operands f

-- a form of more operands than so many
abbrev pub has_operand : ℕ → Form → Bool
has_operand n f = ltb n (length (operands f))

-- what is evaluated for an operand
abbrev pub evaluated_tree : Form → Tree → Tree
evaluated_tree (form.Call parts) x = callee_tree x
evaluated_tree _ x = x

-- the object and the name of an attribute
abbrev pub attribute : Form → Option (ExprRef × PyStrInterned)
attribute (form.Attr o x) = Some (o, x)
attribute _ = None

-- the arguments of a call of the store, its keywords, and all that is evaluated for both
abbrev pub positional : Form → List ExprRef
positional (form.Call parts) = parts.value.args.items
positional _ = []

abbrev pub named : Form → List (PyStrInterned × ExprRef)
named (form.Call parts) = parts.value.keywords.items
named _ = []

abbrev pub arguments : Form → List ExprRef
arguments f = positional f ++ map (λ k. k.1) (named f)

abbrev pub arguments_at : Option Form → List ExprRef
arguments_at None = []
arguments_at (Some f) = arguments f

-- a call of more arguments than so many
abbrev pub has_argument : ℕ → Form → Bool
has_argument n f = ltb n (length (arguments f))

-- the pairs of a dict of the store
abbrev pub pairs : Form → List (ExprRef × ExprRef)
pairs (form.Dict ps) = ps.items
pairs _ = []

abbrev pub pairs_at : Option Form → List (ExprRef × ExprRef)
pairs_at None = []
pairs_at (Some f) = pairs f

-- a dict of more pairs than so many
abbrev pub has_pair : ℕ → Form → Bool
has_pair n f = ltb n (length (pairs f))

abbrev pub of_called : Called → List Claim
of_called (called.Object f) = IsNode f ∷ []
of_called (called.Method m) = of_method m

abbrev pub of_part : Part → List Claim
of_part (part.Set v) = IsNode v ∷ []
of_part _ = []

-- what is said of what is kept
abbrev pub of_eval_kept : EvalKept → List Claim
of_eval_kept Pass = []
of_eval_kept (Made o) = []
of_eval_kept (Count k o) = IsNode o ∷ []
of_eval_kept (Start p o j) = IsNode o ∷ IsNode j ∷ of_part p
of_eval_kept (Stop p o i) = IsNode o ∷ IsNode i ∷ of_part p
of_eval_kept (Branch a b) = IsExpression a ∷ IsExpression b ∷ []
of_eval_kept (Operands e vs) = IsExpression e ∷ HasForm e (has_operand (length vs.items)) ∷ AreNodes vs.items ∷ []
of_eval_kept (Load e) = IsExpression e ∷ []
of_eval_kept (Arguments e f vs) =
    IsExpression e ∷ HasForm e (has_argument (length vs.items)) ∷ AreNodes vs.items ∷ of_called f
of_eval_kept (Key e es) = IsExpression e ∷ HasForm e (has_pair (length es.items)) ∷ of_pairs es.items
of_eval_kept (OfKey e es k) =
    IsExpression e ∷ HasForm e (has_pair (length es.items)) ∷ IsNode k ∷ of_pairs es.items

-- the group: the row of a task, and what is done with an answer
abbrev pub eval_group : Group EvalTask EvalKept
eval_group = record { row = λ t task w. eval_say w (eval_job t task); stands = eval_stands }

-- the step from a point of a row
abbrev pub Goes : (Reading → Point) → World → World → Step EvalKept → Type 0
Goes = points.Goes eval_group

abbrev pub Begins : EvalTask → World → World → Step EvalKept → Type 0
Begins = points.Begins eval_group

abbrev pub Resumes : EvalKept → Result Answer Fault → World → World → Step EvalKept → Type 0
Resumes = points.Resumes eval_group

-- the row of an expression whose operands have these values so far
abbrev pub Continues : ExprRef → List PyObjectRef → World → World → Step EvalKept → Type 0
Continues e vs = Goes (λ t. operands_row (t.tree e.0) vs)

-- what is kept of an expression's own step is that of the expression
abbrev pub IsOwn : Own → Form → Type 0
IsOwn (own.Const k) (form.Const j) = literal_of k ≡ literal_of j
IsOwn (own.Const k) _ = ⊥
IsOwn (own.Name x) (form.Name y) = x ≡ y
IsOwn (own.Name x) _ = ⊥
IsOwn (own.Bind x) (form.Bind y e) = x ≡ y
IsOwn (own.Bind x) _ = ⊥
IsOwn own.Tuple (form.Tuple es) = Unit {0}
IsOwn own.Tuple _ = ⊥
IsOwn own.List (form.List es) = Unit {0}
IsOwn own.List _ = ⊥
IsOwn own.Dict (form.Dict ps) = Unit {0}
IsOwn own.Dict _ = ⊥
IsOwn (own.Func x ps rest e) (form.Func parts) = (x ≡ parts.value.name) × (ps.items ≡ parts.value.params.items) × (rest ≡ parts.value.rest) × (e ≡ parts.value.body)
IsOwn (own.Func x ps rest e) _ = ⊥
IsOwn (own.Op word) (form.Op other es) = word ≡ other
IsOwn (own.Op word) _ = ⊥
IsOwn (own.Attr x) (form.Attr o y) = x ≡ y
IsOwn (own.Attr x) _ = ⊥
IsOwn (own.SetAttr x) (form.SetAttr o y e) = x ≡ y
IsOwn (own.SetAttr x) _ = ⊥
IsOwn (own.DelAttr x) (form.DelAttr o y) = x ≡ y
IsOwn (own.DelAttr x) _ = ⊥
IsOwn (own.If a b) (form.If c x y) = (a ≡ x) × (b ≡ y)
IsOwn (own.If a b) _ = ⊥
IsOwn own.Seq (form.Seq es) = Unit {0}
IsOwn own.Seq _ = ⊥
IsOwn (own.Call f) (form.Call parts) = f ≡ parts.value.function
IsOwn (own.Call f) _ = ⊥
IsOwn (own.Raise kind) (form.Raise other) = kind ≡ other
IsOwn (own.Raise kind) _ = ⊥
IsOwn (own.Class x n ks xs) (form.Class parts) =
    (x ≡ parts.value.name) × (n ≡ length parts.value.bases.items) × (ks.items ≡ map (λ e. e.0) parts.value.keywords.items) × (xs.items ≡ map (λ e. e.0) parts.value.entries.items)
IsOwn (own.Class x n ks xs) _ = ⊥

-- the expression's operands have so many values
abbrev pub HasValues : World → ExprRef → List PyObjectRef → Type 0
HasValues w e vs = length (operands_at (slice_get w.forms e.0)) ≡ length vs

-- a step ends a row, as the row says under every reading
abbrev pub EndsRow : (Reading → PlainWorld → Row) → World → World → Step EvalKept → Type 0
EndsRow row old new (Ask asked kept) = ⊥
EndsRow row old new (End r) = (t : Reading) → Reads t new → Reads t old × (row t (plain t old) [] ≡ Ends (plain t new) (ended_of r))

-- an operand was answered no object
abbrev pub IsOther : Result Answer Fault → Type 0
IsOther (Ok (Value r)) = ⊥
IsOther _ = Unit {0}
