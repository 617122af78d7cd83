-- Calls whose arguments are evaluated in order.
use Rattle.proto_call.proofs.Below.{ℕ, zero, suc, List, [], length, map, take, Some, None, true, refl, sym, ap, ◌∙◌, subst, arith, length-append, slice_get, Result, Vec, eqb-true, ltb-true, lt-ltb, map-append, length-map, take_all, slice_get_within, ExprRef, PyObjectRef, Raised as Fault, Answer, Form, Step, Ask, End, Text, Tree, list_of, entry_trees, PlainWorld, Told, Row, start, pass, end, evaluate, Held, Reading, Reads, entry_list, form_tree, spelled, plain, ended_of, Holds, AllHold, AreNames, IsExpression, HasForm, of_form, got-map, World, Arguments, Called, entry_names, given_say, Goes, answered, args_of, keywords_of, positional, named, called_task, eval_stands, arguments, arguments_at, has_argument, IsOther, Resumes, EvalKept, OutOfMemory, IfOk, Ok, Err, Value, Method, PyMethod, Load, Point, value, eval_group, arguments_row, arguments_say, call_say, callee_say, invoke_say, on_method, attribute, Trees, asks-follow, ends-follow, goes-as, goes-read}
use Rattle.std.proofs.Common.{◌≡◌, ◌==◌, ◌≤◌, ◌∷◌, ◌++◌}
use Rattle.py_node.specs.Tree.{Entries}
use Rattle.py_node.specs.declared.task.PyMethod.TheVariants as method
use Rattle.py_node.specs.declared.payload.Form.TheVariants as form
use Rattle.py_node.specs.declared.task.Task.TheVariants as task
use Rattle.py_node.specs.declared.task.EvalTask.TheVariants as eval
use Rattle.proto_call.specs.declared.eval_forms.call_form.Called.TheVariants as called
use Rattle.proto_call.proofs.EvalForms.Operands.{part, list_of-trees_of, entry_trees-list, long-trees, names-of-entries, append-nil, append-holds, there, told-more, evaluate-ask, evaluate-other, evaluate-all}

-- all that is evaluated for the arguments and keywords of a call
abbrev all : Tree → List Tree
all x = list_of (args_of x) ++ entry_trees (keywords_of x)

-- how a call goes on with the values of all
abbrev given : PlainWorld → Called → Tree → List PyObjectRef → Row
given u c x = given_say u (called_task c) (length (list_of (args_of x))) (entry_names (keywords_of x))

-- the arguments and keywords of an expression of the store are those of its tree
pub args-form : (text : ℕ → Text) (tree : ℕ → Tree) (f : Form) → all (form_tree text tree f) ≡ map (λ (e : ExprRef). tree e.0) (arguments f)
args-form text tree (form.Call parts) =
    ap (λ l. l ++ entry_trees (entry_list (map (part text tree) parts.value.keywords.items))) (list_of-trees_of (map (λ (e : ExprRef). tree e.0) parts.value.args.items))
    ∙ ap (λ l. map (λ (e : ExprRef). tree e.0) parts.value.args.items ++ l) (entry_trees-list text tree parts.value.keywords.items)
    ∙ sym (map-append (λ (e : ExprRef). tree e.0) parts.value.args.items (map (λ e. e.1) parts.value.keywords.items))
args-form text tree _ = refl

long-form : (text : ℕ → Text) (tree : ℕ → Tree) (f : Form) → length (list_of (args_of (form_tree text tree f))) ≡ length (positional f)
long-form text tree (form.Call parts) = long-trees tree parts.value.args.items
long-form text tree _ = refl

names-form : (text : ℕ → Text) (tree : ℕ → Tree) (f : Form) → entry_names (keywords_of (form_tree text tree f)) ≡ map (λ x. text x.0) (map (λ e. e.0) (named f))
names-form text tree (form.Call parts) = names-of-entries text tree parts.value.keywords.items
names-form text tree _ = refl

-- the next argument of a call is evaluated
pub argument-asked : (w : World) (e n : ExprRef) (f : Form) (c : Called) (vs : Vec PyObjectRef) → slice_get w.forms e.0 ≡ Some f → slice_get (arguments f) (length vs.items) ≡ Some n
    → Goes (λ t. arguments_row (t.tree e.0) c vs.items) w w (Ask (task.Eval (eval.Eval n)) (Arguments e c vs))
argument-asked w e n f c vs h k =
    let row = λ (t : Reading). arguments_row (t.tree e.0) c vs.items in
    asks-follow eval_group row (λ t u. row t u []) w w [] (task.Eval (eval.Eval n)) (Arguments e c vs) (λ t r.
    let u = plain t w in
    let x = t.tree e.0 in
    let got : slice_get (all x) (length vs.items) ≡ Some (t.tree n.0) =
    ap (λ x. slice_get (all x) (length vs.items)) (r.trees e.0 f h) ∙ ap (λ ts. slice_get ts (length vs.items)) (args-form t.text t.tree f) ∙ got-map (λ (e : ExprRef). t.tree e.0) (arguments f) (length vs.items) n k in
    (r, ap (evaluate u (all x) (given u c x)) (append-nil (map answered vs.items)) ∙ evaluate-ask u (all x) (given u c x) vs.items (t.tree n.0) got)) (λ t u s more. refl)

-- with the values of all arguments and keywords, it calls
row-called : (u : PlainWorld) (t : Reading) (w : World) (e : ExprRef) (f : Form) (c : Called) (vs : List PyObjectRef) (more : Told) → Reads t w → slice_get w.forms e.0 ≡ Some f → length (arguments f) ≡ length vs
    → arguments_row (t.tree e.0) c vs u more ≡ given_say u (called_task c) (length (positional f)) (map (spelled t) (map (λ k. k.0) (named f))) vs more
row-called u t w e f c vs more r h l =
    let x = t.tree e.0 in
    let here : length (all x) ≡ length vs =
    ap (λ x. length (all x)) (r.trees e.0 f h) ∙ ap length (args-form t.text t.tree f) ∙ length-map (arguments f) (λ (e : ExprRef). t.tree e.0) ∙ l in
    evaluate-all u (all x) (given u c x) vs more here
    ∙ ap (λ y. given u c y vs more) (r.trees e.0 f h)
    ∙ ap (λ n. given_say u (called_task c) n (entry_names (keywords_of (form_tree t.text t.tree f))) vs more) (long-form t.text t.tree f)
    ∙ ap (λ xs. given_say u (called_task c) (length (positional f)) xs vs more) (names-form t.text t.tree f)

none-past : (xs : List ExprRef) (n : ℕ) → slice_get xs n ≡ None → length xs ≤ n
none-past [] n k = omega arith
none-past (x ∷ xs) zero k = cc
none-past (x ∷ xs) (suc n) k = let r = none-past xs n k in omega (arith, r)

-- where there is no further argument, all have values
pub all-given : (w : World) (e : ExprRef) (f : Form) (n : ℕ) → slice_get w.forms e.0 ≡ Some f → slice_get (arguments f) n ≡ None → n ≤ length (arguments_at (slice_get w.forms e.0)) → length (arguments f) ≡ n
all-given w e f n h k l =
    let same = ap (λ o. length (arguments_at o)) h in
    let past = none-past (arguments f) n k in
    omega (arith, same, past, l)

-- a call goes on as it does with the values of all
pub arguments-given : (w : World) (e : ExprRef) (f : Form) (c : Called) (vs : Vec PyObjectRef) (next : Step EvalKept) → slice_get w.forms e.0 ≡ Some f → slice_get (arguments f) (length vs.items) ≡ None → length vs.items ≤ length (arguments_at (slice_get w.forms e.0))
    → Goes (λ t u. given_say u (called_task c) (length (positional f)) (map (spelled t) (map (λ k. k.0) (named f))) vs.items) w w next → Goes (λ t. arguments_row (t.tree e.0) c vs.items) w w next
arguments-given w e f c vs next h k l goes =
    goes-read eval_group (λ t u. given_say u (called_task c) (length (positional f)) (map (spelled t) (map (λ k. k.0) (named f))) vs.items) (λ t. arguments_row (t.tree e.0) c vs.items) w w next (λ t r u more. row-called u t w e f c vs.items more r h (all-given w e f (length vs.items) h k l)) goes

-- an argument that is answered no object ends the call so
pub argument-other : (w : World) (e : ExprRef) (c : Called) (vs : Vec PyObjectRef) (s : Result Answer Fault) → IsOther s → Holds w (HasForm e (has_argument (length vs.items))) → Resumes (Arguments e c vs) s w w (End s)
unfolding Holds
argument-other w e c vs s o h =
    let row = λ (t : Reading). eval_stands t (Arguments e c vs) (ended_of s) in
    ends-follow eval_group row (λ t u. row t u []) w w s (λ t r.
    let f = h.0 in
    let some = there (arguments f) (length vs.items) (ltb-true (length vs.items) (length (arguments f)) h.2) in
    let got : slice_get (all (t.tree e.0)) (length vs.items) ≡ Some (t.tree some.0.0) =
    ap (λ x. slice_get (all x) (length vs.items)) (r.trees e.0 f h.1) ∙ ap (λ ts. slice_get ts (length vs.items)) (args-form t.text t.tree f) ∙ got-map (λ (e : ExprRef). t.tree e.0) (arguments f) (length vs.items) some.0 some.1 in
    (r, evaluate-other (plain t w) (all (t.tree e.0)) (given (plain t w) c (t.tree e.0)) vs.items (t.tree some.0.0) s [] o got))

-- an argument has a value
pub argument-more : (w : World) (e : ExprRef) (c : Called) (vs more : Vec PyObjectRef) (v : PyObjectRef) (s : Result Answer Fault) (r : Result (Step EvalKept) OutOfMemory) → s ≡ Ok (Value v) → more.items ≡ vs.items ++ v ∷ [] → IfOk r (λ step. Goes (λ t. arguments_row (t.tree e.0) c more.items) w w step) → IfOk r (λ step. Resumes (Arguments e c vs) s w w step)
argument-more w e c vs more v s (Ok step) given is h =
    subst (λ s. Resumes (Arguments e c vs) s w w step) (sym given)
    (goes-as eval_group (λ t. arguments_row (t.tree e.0) c more.items) (λ t. eval_stands t (Arguments e c vs) (value v)) (λ t u told. ap (arguments_say u (args_of (t.tree e.0)) (keywords_of (t.tree e.0)) (called_task c)) (told-more vs.items v told ∙ ap (λ l. map answered l ++ told) (sym is))) w w step h)
argument-more w e c vs more v s (Err x) given is h = tt

-- a call that has learnt what it calls begins with its first argument
pub argument-first : (w : World) (e : ExprRef) (c : Called) (vs : Vec PyObjectRef) (row : Reading → Point) (r : Result (Step EvalKept) OutOfMemory) → vs.items ≡ [] → ((t : Reading) → Reads t w → (u : PlainWorld) (more : Told) → row t u more ≡ arguments_say u (args_of (t.tree e.0)) (keywords_of (t.tree e.0)) (called_task c) more) → IfOk r (λ step. Goes (λ t. arguments_row (t.tree e.0) c vs.items) w w step) → IfOk r (λ step. Goes row w w step)
argument-first w e c vs row (Ok step) none same h =
    goes-read eval_group (λ t. arguments_row (t.tree e.0) c vs.items) row w w step (λ t q u more. same t q u more ∙ ap (λ l. arguments_say u (args_of (t.tree e.0)) (keywords_of (t.tree e.0)) (called_task c) (map answered l ++ more)) (sym none)) h
argument-first w e c vs row (Err x) none same h = tt

-- what is no attribute is called
callee-plain : (text : ℕ → Text) (tree : ℕ → Tree) (f : Form) (u : PlainWorld) (es : Trees) (kw : Entries) (v : PyObjectRef) (more : Told) → attribute f ≡ None → callee_say u (form_tree text tree f) es kw v more ≡ call_say u es kw v more
callee-plain text tree (form.Attr o x) u es kw v more bare = cc
callee-plain text tree _ u es kw v more bare = refl

pub call-first : (w : World) (e g : ExprRef) (f : Form) (v : PyObjectRef) (vs : Vec PyObjectRef) (r : Result (Step EvalKept) OutOfMemory) → slice_get w.forms g.0 ≡ Some f → attribute f ≡ None → vs.items ≡ [] → IfOk r (λ step. Goes (λ t. arguments_row (t.tree e.0) (called.Object v) vs.items) w w step) → IfOk r (λ step. Goes (λ t u. callee_say u (t.tree g.0) (args_of (t.tree e.0)) (keywords_of (t.tree e.0)) v) w w step)
call-first w e g f v vs r stored bare none h =
    argument-first w e (called.Object v) vs (λ t u. callee_say u (t.tree g.0) (args_of (t.tree e.0)) (keywords_of (t.tree e.0)) v) r none (λ t q u more. ap (λ x. callee_say u x (args_of (t.tree e.0)) (keywords_of (t.tree e.0)) v more) (q.trees g.0 f stored) ∙ callee-plain t.text t.tree f u (args_of (t.tree e.0)) (keywords_of (t.tree e.0)) v more bare) h

pub method-first : (w : World) (e : ExprRef) (m : PyMethod) (vs : Vec PyObjectRef) (s : Result Answer Fault) (r : Result (Step EvalKept) OutOfMemory) → s ≡ Ok (Method m) → vs.items ≡ [] → IfOk r (λ step. Goes (λ t. arguments_row (t.tree e.0) (called.Method m) vs.items) w w step) → IfOk r (λ step. Resumes (Load e) s w w step)
method-first w e m vs s r given none h =
    argument-first w e (called.Method m) vs (λ t. eval_stands t (Load e) (ended_of s)) r none (λ t q u more. ap (λ (a : Result Answer Fault). on_method u (ended_of a) (invoke_say u (args_of (t.tree e.0)) (keywords_of (t.tree e.0))) more) given ∙ invoked m (t.tree e.0) u more) h
  where
    invoked : (m : PyMethod) (x : Tree) (u : PlainWorld) (more : Told) → on_method u (ended_of (Ok (Method m))) (invoke_say u (args_of x) (keywords_of x)) more ≡ arguments_say u (args_of x) (keywords_of x) (called_task (called.Method m)) more
    invoked (method.Function a f) x u more = refl
    invoked (method.Attribute f) x u more = refl

-- an argument is an expression
pub argument-holds : (w : Held) (f : Form) (n : ℕ) (e : ExprRef) → AllHold w (of_form f) → slice_get (arguments f) n ≡ Some e → Holds w (IsExpression e)
argument-holds w (form.Call parts) n e h p = append-holds w parts.value.args.items (map (λ k. k.1) parts.value.keywords.items) n e h.1.0 h.1.1.1.0 p
argument-holds w _ n e h p = cc

pub has-argument : (w : Held) (e : ExprRef) (n : ℕ) (f : Form) (x : ExprRef) → slice_get w.forms e.0 ≡ Some f → slice_get (arguments f) n ≡ Some x → Holds w (HasForm e (has_argument n))
unfolding Holds
has-argument w e n f x h k = (f, h, lt-ltb n (length (arguments f)) (slice_get_within (arguments f) n x k))

no-names : (w : Held) → Holds w (AreNames [])
unfolding Holds
no-names w = λ i d l. absurd (omega arith)

-- the names of keywords are names
pub named-hold : (w : Held) (f : Form) → AllHold w (of_form f) → Holds w (AreNames (map (λ k. k.0) (named f)))
named-hold w (form.Call parts) h = h.1.1.0
named-hold w _ h = no-names w

pub no-more : {A : Type 0} (xs : List A) → (length xs == 0) ≡ true → xs ≡ []
no-more [] h = refl
no-more (x ∷ xs) h = let none : length (x ∷ xs) ≡ 0 = eqb-true (length (x ∷ xs)) 0 h in absurd (omega (arith, none))

-- with no keywords, all values are arguments
pub plainly-given : (w : World) (f : Form) (c : Called) (vs : List PyObjectRef) (next : Step EvalKept) → length (arguments f) ≡ length vs → named f ≡ []
    → Goes (λ t u. start (pass u (called_task c vs [])) (end u)) w w next → Goes (λ t u. given_say u (called_task c) (length (positional f)) (map (spelled t) (map (λ k. k.0) (named f))) vs) w w next
plainly-given w f c vs next l none goes =
    let parts = length-append (positional f) (map (λ k. k.1) (named f)) in
    let count = length-map (named f) (λ k. k.1) in
    let empty = ap length none in
    let all : take (length (positional f)) vs ≡ vs = take_all (length (positional f)) vs (omega (arith, l, parts, count, empty)) in
    subst (λ ks. Goes (λ t u. given_say u (called_task c) (length (positional f)) (map (spelled t) (map (λ k. k.0) ks)) vs) w w next) (sym none)
    (subst (λ xs. Goes (λ t u. start (pass u (called_task c xs [])) (end u)) w w next) (sym all) goes)
