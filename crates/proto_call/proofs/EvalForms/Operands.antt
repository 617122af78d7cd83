-- Expressions whose operands are evaluated in order.
use Rattle.proto_call.proofs.Below.{ℕ, zero, suc, List, [], length, map, Some, None, Ok, Err, refl, sym, ap, ◌∙◌, arith, length-append, slice_get, Result, IfOk, Vec, ltb-true, lt-ltb, map-append, length-map, slice_get_within, ExprRef, PyObjectRef, PyStrInterned, OutOfMemory, Raised as Fault, Answer, Value, Done, Number, Truth, Maybe, Objects, Exhausted, Method, Start, Form, Text, Tree, trees_of, list_of, entry_trees, PlainWorld, DoEval, ToEval, Answered, Told, Asks, Ends, Row, on_value, evaluate, Held, Reading, Reads, form_tree, entry_list, stored_entries, spelled, plain, ended_of, Holds, AllHold, IsName, AreNames, AreNodes, IsExpression, AreExpressions, HasForm, of_form, of_node_ref, of_option, expression-in, got-map, node-in, Step, Ask, End, World, EvalKept, Operands, Word, Kind, one_of, op_say, operand_trees, own_say, func_say, tuple_say, list_say, set_attr_say, del_attr_say, attr_say, called_say, if_say, seq_say, raise_say, class_say, entry_names, eval_say, two_of, answered, eval_stands, Continues, EndsRow, HasValues, IsOther, IsOwn, operands, operands_at, has_operand, evaluated_tree, args_of, keywords_of, Goes, Resumes, eval_group, operands_row, value, asks-follow, ends-follow, goes-as, goes-read, subst, TConst, const_say, literal_of}
use Rattle.std.proofs.Common.{◌≡◌, ◌+◌, ◌<◌, ◌≤◌, ◌∷◌, ◌++◌}
use Rattle.std.specs.Prelude.{Bool}
use Rattle.py_node.specs.declared.expr.Constant.{Constant}
use Rattle.py_node.specs.declared.task.PyMethod.TheVariants as method
use Rattle.py_node.specs.declared.payload.Form.TheVariants as form
use Rattle.py_node.specs.declared.task.Task.TheVariants as task
use Rattle.py_node.specs.declared.task.EvalTask.TheVariants as eval
use Rattle.proto_call.specs.declared.eval_forms.Own.TheVariants as own

pub list_of-trees_of : (ts : List Tree) → list_of (trees_of ts) ≡ ts
list_of-trees_of [] = refl
list_of-trees_of (e ∷ ts) = ap (λ l. e ∷ l) (list_of-trees_of ts)

abbrev pub part : (ℕ → Text) → (ℕ → Tree) → PyStrInterned × ExprRef → Text × Tree
part text tree e = (text e.0.0, tree e.1.0)

pub entry_trees-list : (text : ℕ → Text) (tree : ℕ → Tree) (es : List (PyStrInterned × ExprRef)) → entry_trees (entry_list (map (part text tree) es)) ≡ map (λ (e : ExprRef). tree e.0) (map (λ e. e.1) es)
entry_trees-list text tree [] = refl
entry_trees-list text tree (e ∷ es) = ap (λ l. tree e.1.0 ∷ l) (entry_trees-list text tree es)

-- what is evaluated for the operands of an expression of the store are the operands of its tree
pub operand_trees-form : (text : ℕ → Text) (tree : ℕ → Tree) (f : Form) → operand_trees (form_tree text tree f) ≡ map (λ e. evaluated_tree f (tree e.0)) (operands f)
operand_trees-form text tree (form.Tuple es) = list_of-trees_of (map (λ (e : ExprRef). tree e.0) es.items)
operand_trees-form text tree (form.List es) = list_of-trees_of (map (λ (e : ExprRef). tree e.0) es.items)
operand_trees-form text tree (form.Op word es) = list_of-trees_of (map (λ (e : ExprRef). tree e.0) es.items)
operand_trees-form text tree (form.Seq es) = list_of-trees_of (map (λ (e : ExprRef). tree e.0) es.items)
operand_trees-form text tree (form.Class parts) =
    ap (λ l. l ++ (entry_trees (entry_list (map (part text tree) parts.value.keywords.items)) ++ entry_trees (entry_list (map (part text tree) parts.value.entries.items)))) (list_of-trees_of (map (λ (e : ExprRef). tree e.0) parts.value.bases.items))
    ∙ ap (λ l. map (λ (e : ExprRef). tree e.0) parts.value.bases.items ++ (l ++ entry_trees (entry_list (map (part text tree) parts.value.entries.items)))) (entry_trees-list text tree parts.value.keywords.items)
    ∙ ap (λ l. map (λ (e : ExprRef). tree e.0) parts.value.bases.items ++ (map (λ (e : ExprRef). tree e.0) (map (λ e. e.1) parts.value.keywords.items) ++ l)) (entry_trees-list text tree parts.value.entries.items)
    ∙ ap (λ l. map (λ (e : ExprRef). tree e.0) parts.value.bases.items ++ l) (sym (map-append (λ (e : ExprRef). tree e.0) (map (λ e. e.1) parts.value.keywords.items) (map (λ e. e.1) parts.value.entries.items)))
    ∙ sym (map-append (λ (e : ExprRef). tree e.0) parts.value.bases.items (map (λ e. e.1) parts.value.keywords.items ++ map (λ e. e.1) parts.value.entries.items))
operand_trees-form text tree _ = refl

pub append-nil : {A : Type 0} (xs : List A) → xs ++ [] ≡ xs
append-nil [] = refl
append-nil (x ∷ xs) = ap (λ l. x ∷ l) (append-nil xs)

-- there is an element at each place
pub there : (xs : List ExprRef) (n : ℕ) → n < length xs → (x : ExprRef) × (slice_get xs n ≡ Some x)
there [] n h = absurd (omega arith)
there (x ∷ xs) zero h = (x, refl)
there (x ∷ xs) (suc n) h = there xs n (omega arith)

module _ (w : PlainWorld) where
  -- the next operand is asked for
  pub evaluate-ask : (ts : List Tree) (go : List PyObjectRef → Row) (vs : List PyObjectRef) (e : Tree) → slice_get ts (length vs) ≡ Some e → evaluate w ts go (map answered vs) ≡ Asks w [] (ToEval (DoEval e))
  evaluate-ask [] go vs e h = cc
  evaluate-ask (t ∷ ts) go [] e h = let same : t ≡ e = cc in ap (λ e. Asks w [] (ToEval (DoEval e))) same
  evaluate-ask (t ∷ ts) go (v ∷ vs) e h = evaluate-ask ts (λ us. go (v ∷ us)) vs e h

  -- an answer that is no object is passed on
  pub on-other : (r : Result Answer Fault) (go : PyObjectRef → Row) (more : Told) → IsOther r → on_value w (ended_of r) go more ≡ Ends w (ended_of r)
  on-other (Ok (Value v)) go more o = absurd o
  on-other (Ok Done) go more o = refl
  on-other (Ok (Number z)) go more o = refl
  on-other (Ok (Truth b)) go more o = refl
  on-other (Ok (Maybe m)) go more o = refl
  on-other (Ok (Objects rs)) go more o = refl
  on-other (Ok Exhausted) go more o = refl
  on-other (Ok (Method (method.Function a f))) go more o = refl
  on-other (Ok (Method (method.Attribute a))) go more o = refl
  on-other (Ok (Start c)) go more o = refl
  on-other (Err x) go more o = refl

  -- an operand that is answered no object ends the expression so
  pub evaluate-other : (ts : List Tree) (go : List PyObjectRef → Row) (vs : List PyObjectRef) (e : Tree) (r : Result Answer Fault) (more : Told) → IsOther r → slice_get ts (length vs) ≡ Some e → evaluate w ts go (map answered vs ++ Answered (ended_of r) ∷ more) ≡ Ends w (ended_of r)
  evaluate-other [] go vs e r more o h = cc
  evaluate-other (t ∷ ts) go [] e r more o h = on-other r (λ v. evaluate w ts (λ vs. go (v ∷ vs))) more o
  evaluate-other (t ∷ ts) go (v ∷ vs) e r more o h = evaluate-other ts (λ us. go (v ∷ us)) vs e r more o h

  -- where all have values, the expression goes on with them
  pub evaluate-all : (ts : List Tree) (go : List PyObjectRef → Row) (vs : List PyObjectRef) (more : Told) → length ts ≡ length vs → evaluate w ts go (map answered vs ++ more) ≡ go vs more
  evaluate-all [] go [] more h = refl
  evaluate-all [] go (v ∷ vs) more h = absurd (omega arith)
  evaluate-all (t ∷ ts) go [] more h = absurd (omega arith)
  evaluate-all (t ∷ ts) go (v ∷ vs) more h = evaluate-all ts (λ us. go (v ∷ us)) vs more (omega arith)

-- the expressions of two lists, one after the other
pub both-hold : (w : Held) (xs ys : List ExprRef) → Holds w (AreExpressions xs) → Holds w (AreExpressions ys) → Holds w (AreExpressions (xs ++ ys))
unfolding Holds
both-hold w [] ys g h i d l = h i d l
both-hold w (x ∷ xs) ys g h zero d l = g zero d (omega arith)
both-hold w (x ∷ xs) ys g h (suc i) d l = both-hold w xs ys (λ j e m. g (suc j) e (omega arith)) h i d (omega arith)

pub append-holds : (w : Held) (xs ys : List ExprRef) (n : ℕ) (e : ExprRef) → Holds w (AreExpressions xs) → Holds w (AreExpressions ys) → slice_get (xs ++ ys) n ≡ Some e → Holds w (IsExpression e)
unfolding Holds
append-holds w [] ys n e g h k = expression-in w ys n e h k
append-holds w (x ∷ xs) ys zero e g h k = expression-in w (x ∷ xs) zero e g (k)
append-holds w (x ∷ xs) ys (suc n) e g h k = append-holds w xs ys n e (λ i d l. g (suc i) d (omega arith)) h k

-- each operand is an expression
pub operand-holds : (w : Held) (f : Form) (n : ℕ) (e : ExprRef) → AllHold w (of_form f) → slice_get (operands f) n ≡ Some e → Holds w (IsExpression e)
operand-holds w (form.Bind x b) zero e h p = let same : b ≡ e = cc in subst (λ e. Holds w (IsExpression e)) same h.1.0
operand-holds w (form.Bind x b) (suc n) e h p = cc
operand-holds w (form.Attr o x) zero e h p = let same : o ≡ e = cc in subst (λ e. Holds w (IsExpression e)) same h.0
operand-holds w (form.Attr o x) (suc n) e h p = cc
operand-holds w (form.SetAttr o x b) zero e h p = let same : o ≡ e = cc in subst (λ e. Holds w (IsExpression e)) same h.0
operand-holds w (form.SetAttr o x b) (suc zero) e h p = let same : b ≡ e = cc in subst (λ e. Holds w (IsExpression e)) same h.1.1.0
operand-holds w (form.SetAttr o x b) (suc (suc n)) e h p = cc
operand-holds w (form.DelAttr o x) zero e h p = let same : o ≡ e = cc in subst (λ e. Holds w (IsExpression e)) same h.0
operand-holds w (form.DelAttr o x) (suc n) e h p = cc
operand-holds w (form.If c a b) zero e h p = let same : c ≡ e = cc in subst (λ e. Holds w (IsExpression e)) same h.0
operand-holds w (form.If c a b) (suc n) e h p = cc
operand-holds w (form.Call parts) zero e h p = let same : parts.value.function ≡ e = cc in subst (λ e. Holds w (IsExpression e)) same h.0
operand-holds w (form.Call parts) (suc n) e h p = cc
operand-holds w (form.Tuple es) n e h p = expression-in w es.items n e h.0 p
operand-holds w (form.List es) n e h p = expression-in w es.items n e h.0 p
operand-holds w (form.Op word es) n e h p = expression-in w es.items n e h.0 p
operand-holds w (form.Seq es) n e h p = expression-in w es.items n e h.0 p
operand-holds w (form.Class parts) n e h p =
    append-holds w parts.value.bases.items (map (λ e. e.1) parts.value.keywords.items ++ map (λ e. e.1) parts.value.entries.items) n e h.1.0 (both-hold w (map (λ e. e.1) parts.value.keywords.items) (map (λ e. e.1) parts.value.entries.items) h.1.1.1.0 h.1.1.1.1.1.0) p
operand-holds w _ n e h p = cc

-- the next operand of an expression is evaluated
pub goes-on : (w : World) (e n m : ExprRef) (f : Form) (vs : Vec PyObjectRef) → slice_get w.forms e.0 ≡ Some f → slice_get (operands f) (length vs.items) ≡ Some n
    → ((t : Reading) → Reads t w → t.tree m.0 ≡ evaluated_tree f (t.tree n.0)) → Continues e vs.items w w (Ask (task.Eval (eval.Eval m)) (Operands e vs))
unfolding eval_say
goes-on w e n m f vs h k l =
    let row = λ (t : Reading). operands_row (t.tree e.0) vs.items in
    asks-follow eval_group row (λ t u. row t u []) w w [] (task.Eval (eval.Eval m)) (Operands e vs) (λ t r.
    let u = plain t w in
    let x = t.tree e.0 in
    let got : slice_get (operand_trees x) (length vs.items) ≡ Some (t.tree m.0) =
    ap (λ x. slice_get (operand_trees x) (length vs.items)) (r.trees e.0 f h) ∙ ap (λ ts. slice_get ts (length vs.items)) (operand_trees-form t.text t.tree f) ∙ got-map (λ x. evaluated_tree f (t.tree x.0)) (operands f) (length vs.items) n k ∙ ap Some (sym (l t r)) in
    (r, ap (evaluate u (operand_trees x) (own_say u x)) (append-nil (map answered vs.items)) ∙ evaluate-ask u (operand_trees x) (own_say u x) vs.items (t.tree m.0) got)) (λ t u r more. refl)

-- an operand that is answered no object ends the expression so
pub ends-with : (w : World) (e : ExprRef) (vs : Vec PyObjectRef) (s : Result Answer Fault) → IsOther s → Holds w (HasForm e (has_operand (length vs.items))) → Resumes (Operands e vs) s w w (End s)
unfolding Holds eval_say
ends-with w e vs s o h =
    let row = λ (t : Reading). eval_stands t (Operands e vs) (ended_of s) in
    ends-follow eval_group row (λ t u. row t u []) w w s (λ t r.
    let f = h.0 in
    let some = there (operands f) (length vs.items) (ltb-true (length vs.items) (length (operands f)) h.2) in
    let asks = evaluate-other (plain t w) (operand_trees (t.tree e.0)) (own_say (plain t w) (t.tree e.0)) vs.items (evaluated_tree f (t.tree some.0.0)) s [] o (ap (λ x. slice_get (operand_trees x) (length vs.items)) (r.trees e.0 f h.1) ∙ ap (λ ts. slice_get ts (length vs.items)) (operand_trees-form t.text t.tree f) ∙ got-map (λ x. evaluated_tree f (t.tree x.0)) (operands f) (length vs.items) some.0 some.1) in
    (r, asks))

-- an operand has a value
pub told-more : (vs : List PyObjectRef) (v : PyObjectRef) (told : Told) → map answered vs ++ answered v ∷ told ≡ map answered (vs ++ v ∷ []) ++ told
told-more [] v told = refl
told-more (x ∷ vs) v told = ap (λ l. answered x ∷ l) (told-more vs v told)

pub one-more : (w new : World) (e : ExprRef) (vs more : Vec PyObjectRef) (v : PyObjectRef) (r : Result (Step EvalKept) OutOfMemory) → more.items ≡ vs.items ++ v ∷ [] → IfOk r (λ step. Continues e more.items w new step) → IfOk r (λ step. Resumes (Operands e vs) (Ok (Value v)) w new step)
one-more w new e vs more v (Ok step) is h =
    goes-as eval_group (λ t. operands_row (t.tree e.0) more.items) (λ t. eval_stands t (Operands e vs) (value v)) (λ t u told. ap (eval_say u (DoEval (t.tree e.0))) (told-more vs.items v told ∙ ap (λ l. map answered l ++ told) (sym is))) w new step h
one-more w new e vs more v (Err x) is h = tt

pub has-operand : (w : Held) (e : ExprRef) (n : ℕ) (f : Form) (x : ExprRef) → slice_get w.forms e.0 ≡ Some f → slice_get (operands f) n ≡ Some x → Holds w (HasForm e (has_operand n))
unfolding Holds
has-operand w e n f x h k = (f, h, lt-ltb n (length (operands f)) (slice_get_within (operands f) n x k))

-- where there is no further operand, all have values
pub has-values : (w : World) (e : ExprRef) (f : Form) (vs : List PyObjectRef) → slice_get w.forms e.0 ≡ Some f → slice_get (operands f) (length vs) ≡ None → length vs ≤ length (operands_at (slice_get w.forms e.0)) → HasValues w e vs
has-values w e f vs h k l =
    let same = ap (λ o. length (operands_at o)) h in
    let past = none-past (operands f) (length vs) k in
    omega (arith, same, past, l)
  where
    none-past : (xs : List ExprRef) (n : ℕ) → slice_get xs n ≡ None → length xs ≤ n
    none-past [] n k = omega arith
    none-past (x ∷ xs) zero k = cc
    none-past (x ∷ xs) (suc n) k = let r = none-past xs n k in omega (arith, r)

-- with the values of all operands, the row is at the expression's own step
own-row : (u : PlainWorld) (t : Reading) (w : World) (e : ExprRef) (f : Form) (vs : List PyObjectRef) (more : Told) → Reads t w → slice_get w.forms e.0 ≡ Some f → length (operands f) ≡ length vs → eval_say u (DoEval (t.tree e.0)) (map answered vs ++ more) ≡ own_say u (t.tree e.0) vs more
unfolding eval_say
own-row u t w e f vs more r h l =
    let here : length (operand_trees (t.tree e.0)) ≡ length vs =
    ap (λ x. length (operand_trees x)) (r.trees e.0 f h) ∙ ap length (operand_trees-form t.text t.tree f) ∙ length-map (operands f) (λ x. evaluated_tree f (t.tree x.0)) ∙ l in
    evaluate-all u (operand_trees (t.tree e.0)) (own_say u (t.tree e.0)) vs more here

-- an expression ends as the row of its own step says
pub own-closes : (w new : World) (e : ExprRef) (f : Form) (vs : List PyObjectRef) (row : Reading → PlainWorld → Row) (next : Step EvalKept) → slice_get w.forms e.0 ≡ Some f → length (operands f) ≡ length vs → ((t : Reading) (u : PlainWorld) → own_say u (form_tree t.text t.tree f) vs [] ≡ row t u []) → EndsRow row w new next → Continues e vs w new next
own-closes w new e f vs row (Ask asked kept) h l says k = absurd k
own-closes w new e f vs row (End s) h l says k =
    let whole = λ (t : Reading). operands_row (t.tree e.0) vs in
    ends-follow eval_group whole (λ t u. whole t u []) w new s (λ t r.
    let here = k t r in
    (here.0, own-row (plain t w) t w e f vs [] here.0 h l ∙ ap (λ x. own_say (plain t w) x vs []) (here.0.trees e.0 f h) ∙ says t (plain t w) ∙ here.1))

pub append-on : {A : Type 0} (xs ys zs : List A) → (xs ++ ys) ++ zs ≡ xs ++ (ys ++ zs)
append-on [] ys zs = refl
append-on (x ∷ xs) ys zs = ap (λ l. x ∷ l) (append-on xs ys zs)

-- an expression goes on as the row of its own step says
pub own-takes-read : (w new : World) (e : ExprRef) (f : Form) (vs : List PyObjectRef) (row : Reading → PlainWorld → Row) (next : Step EvalKept) → slice_get w.forms e.0 ≡ Some f → length (operands f) ≡ length vs → ((t : Reading) → Reads t w → (u : PlainWorld) (more : Told) → own_say u (form_tree t.text t.tree f) vs more ≡ row t u more) → Goes row w new next → Continues e vs w new next
own-takes-read w new e f vs row next h l says k =
    goes-read eval_group row (λ t. operands_row (t.tree e.0) vs) w new next (λ t r u more. own-row u t w e f vs more r h l ∙ ap (λ x. own_say u x vs more) (r.trees e.0 f h) ∙ says t r u more) k

pub own-takes : (w new : World) (e : ExprRef) (f : Form) (vs : List PyObjectRef) (row : Reading → PlainWorld → Row) (next : Step EvalKept) → slice_get w.forms e.0 ≡ Some f → length (operands f) ≡ length vs → ((t : Reading) (u : PlainWorld) (more : Told) → own_say u (form_tree t.text t.tree f) vs more ≡ row t u more) → Goes row w new next → Continues e vs w new next
own-takes w new e f vs row next h l says k = own-takes-read w new e f vs row next h l (λ t r. says t) k

-- the text of a name is there
pub names-in : (w : Held) (x : PyStrInterned) → Holds w (IsName x) → x.0 < length w.names
unfolding Holds
names-in w x h = h

-- what is said of the operand of a form with one
pub one-holds : (w : Held) (vs : List PyObjectRef) → Holds w (AreNodes vs) → AllHold w (of_option of_node_ref (one_of vs))
one-holds w [] h = tt
one-holds w (a ∷ []) h = (node-in w (a ∷ []) 0 a h refl, tt)
one-holds w (a ∷ (b ∷ vs)) h = tt

-- a function
says-func : (x : PyStrInterned) (ps : Vec PyStrInterned) (rest : Bool) (e : ExprRef) (vs : List PyObjectRef) (f : Form) → IsOwn (own.Func x ps rest e) f
    → (t : Reading) (u : PlainWorld) → own_say u (form_tree t.text t.tree f) vs [] ≡ func_say u (t.text x.0) (map (λ p. t.text p.0) ps.items) rest (t.tree e.0) []
says-func x ps rest e vs (form.Func parts) o t u =
    ap (λ z. func_say u (t.text z.0) (map (λ p. t.text p.0) parts.value.params.items) parts.value.rest (t.tree parts.value.body.0) []) (sym o.0)
    ∙ ap (λ rs. func_say u (t.text x.0) (map (λ p. t.text p.0) rs) parts.value.rest (t.tree parts.value.body.0) []) (sym o.1)
    ∙ ap (λ m. func_say u (t.text x.0) (map (λ p. t.text p.0) ps.items) m (t.tree parts.value.body.0) []) (sym o.2)
    ∙ ap (λ c. func_say u (t.text x.0) (map (λ p. t.text p.0) ps.items) rest (t.tree c.0) []) (sym o.3)
says-func x ps rest e vs _ o t u = absurd o

pub own-func : (w new : World) (e : ExprRef) (f : Form) (vs : List PyObjectRef) (x : PyStrInterned) (ps : Vec PyStrInterned) (rest : Bool) (b : ExprRef) (r : Result (Step EvalKept) OutOfMemory)
    → slice_get w.forms e.0 ≡ Some f → length (operands f) ≡ length vs → IsOwn (own.Func x ps rest b) f
    → IfOk r (λ step. EndsRow (λ t u. func_say u (t.text x.0) (map (λ p. t.text p.0) ps.items) rest (t.tree b.0)) w new step) → IfOk r (λ step. Continues e vs w new step)
own-func w new e f vs x ps rest b (Ok step) h l o k =
    own-closes w new e f vs (λ t u. func_say u (t.text x.0) (map (λ p. t.text p.0) ps.items) rest (t.tree b.0)) step h l (says-func x ps rest b vs f o) k
own-func w new e f vs x ps rest b (Err out) h l o k = tt

-- a constant
says-const : (k : Constant) (vs : List PyObjectRef) (f : Form) → IsOwn (own.Const k) f → (t : Reading) (u : PlainWorld) (more : Told) → own_say u (form_tree t.text t.tree f) vs more ≡ operands_row (TConst (literal_of k)) [] u more
unfolding eval_say
says-const k vs (form.Const j) o t u more = ap (λ z. const_say u z more) (sym o)
says-const k vs _ o t u more = absurd o

pub own-const : (w new : World) (e : ExprRef) (f : Form) (vs : List PyObjectRef) (k : Constant) (r : Result (Step EvalKept) OutOfMemory) → slice_get w.forms e.0 ≡ Some f → length (operands f) ≡ length vs → IsOwn (own.Const k) f
    → IfOk r (λ step. Goes (λ t. operands_row (TConst (literal_of k)) []) w new step) → IfOk r (λ step. Continues e vs w new step)
own-const w new e f vs k (Ok step) h l o g =
    own-takes w new e f vs (λ t. operands_row (TConst (literal_of k)) []) step h l (says-const k vs f o) g
own-const w new e f vs k (Err out) h l o g = tt

-- a tuple and a list
says-tuple : (vs : List PyObjectRef) (f : Form) → IsOwn own.Tuple f → (t : Reading) (u : PlainWorld) → own_say u (form_tree t.text t.tree f) vs [] ≡ tuple_say u vs []
says-tuple vs (form.Tuple es) o t u = refl
says-tuple vs _ o t u = absurd o

pub own-tuple : (w new : World) (e : ExprRef) (f : Form) (vs : List PyObjectRef) (r : Result (Step EvalKept) OutOfMemory) → slice_get w.forms e.0 ≡ Some f → length (operands f) ≡ length vs → IsOwn own.Tuple f
    → IfOk r (λ step. EndsRow (λ t u. tuple_say u vs) w new step) → IfOk r (λ step. Continues e vs w new step)
own-tuple w new e f vs (Ok step) h l o k = own-closes w new e f vs (λ t u. tuple_say u vs) step h l (says-tuple vs f o) k
own-tuple w new e f vs (Err out) h l o k = tt

says-list : (vs : List PyObjectRef) (f : Form) → IsOwn own.List f → (t : Reading) (u : PlainWorld) → own_say u (form_tree t.text t.tree f) vs [] ≡ list_say u vs []
says-list vs (form.List es) o t u = refl
says-list vs _ o t u = absurd o

pub own-list : (w new : World) (e : ExprRef) (f : Form) (vs : List PyObjectRef) (r : Result (Step EvalKept) OutOfMemory) → slice_get w.forms e.0 ≡ Some f → length (operands f) ≡ length vs → IsOwn own.List f
    → IfOk r (λ step. EndsRow (λ t u. list_say u vs) w new step) → IfOk r (λ step. Continues e vs w new step)
own-list w new e f vs (Ok step) h l o k = own-closes w new e f vs (λ t u. list_say u vs) step h l (says-list vs f o) k
own-list w new e f vs (Err out) h l o k = tt

-- the steps of an attribute that is set, of a call, of an operation and of a class

pub says-set : (x : PyStrInterned) (vs : List PyObjectRef) (f : Form) → IsOwn (own.SetAttr x) f → (t : Reading) (u : PlainWorld) (more : Told) → own_say u (form_tree t.text t.tree f) vs more ≡ set_attr_say u (t.text x.0) (two_of vs) more
says-set x vs (form.SetAttr a y b) o t u more = ap (λ z. set_attr_say u (t.text z.0) (two_of vs) more) (sym o)
says-set x vs _ o t u more = absurd o

pub says-attr : (x : PyStrInterned) (vs : List PyObjectRef) (f : Form) → IsOwn (own.Attr x) f → (t : Reading) (u : PlainWorld) (more : Told) → own_say u (form_tree t.text t.tree f) vs more ≡ attr_say u (t.text x.0) (one_of vs) more
says-attr x vs (form.Attr a y) o t u more = ap (λ z. attr_say u (t.text z.0) (one_of vs) more) (sym o)
says-attr x vs _ o t u more = absurd o

pub says-call : (g : ExprRef) (vs : List PyObjectRef) (f : Form) → IsOwn (own.Call g) f → (t : Reading) (u : PlainWorld) (more : Told) → own_say u (form_tree t.text t.tree f) vs more ≡ called_say u (t.tree g.0) (args_of (form_tree t.text t.tree f)) (keywords_of (form_tree t.text t.tree f)) (one_of vs) more
says-call g vs (form.Call parts) o t u more =
    ap (λ k. called_say u (t.tree k.0) (trees_of (map (λ (e : ExprRef). t.tree e.0) parts.value.args.items)) (stored_entries t.text t.tree parts.value.keywords.items) (one_of vs) more) (sym o)
says-call g vs _ o t u more = absurd o

pub says-op : (word : Word) (vs : List PyObjectRef) (f : Form) → IsOwn (own.Op word) f → (t : Reading) (u : PlainWorld) (more : Told) → own_say u (form_tree t.text t.tree f) vs more ≡ op_say u word vs more
says-op word vs (form.Op v es) o t u more = ap (λ v. op_say u v vs more) (sym o)
says-op word vs _ o t u more = absurd o

pub says-raise : (kind : Kind) (vs : List PyObjectRef) (f : Form) → IsOwn (own.Raise kind) f → (t : Reading) (u : PlainWorld) → own_say u (form_tree t.text t.tree f) vs [] ≡ raise_say u kind []
says-raise kind vs (form.Raise other) o t u = ap (λ k. raise_say u k []) (sym o)
says-raise kind vs _ o t u = absurd o

-- the steps of an attribute that is taken out, of a condition, and of expressions one after another

pub says-del : (x : PyStrInterned) (vs : List PyObjectRef) (f : Form) → IsOwn (own.DelAttr x) f → (t : Reading) (u : PlainWorld) (more : Told) → own_say u (form_tree t.text t.tree f) vs more ≡ del_attr_say u (t.text x.0) (one_of vs) more
says-del x vs (form.DelAttr a y) o t u more = ap (λ z. del_attr_say u (t.text z.0) (one_of vs) more) (sym o)
says-del x vs _ o t u more = absurd o

pub says-if : (a b : ExprRef) (vs : List PyObjectRef) (f : Form) → IsOwn (own.If a b) f → (t : Reading) (u : PlainWorld) (more : Told) → own_say u (form_tree t.text t.tree f) vs more ≡ if_say u (t.tree a.0) (t.tree b.0) (one_of vs) more
says-if a b vs (form.If c x y) o t u more = ap (λ z. if_say u (t.tree z.0) (t.tree y.0) (one_of vs) more) (sym o.0) ∙ ap (λ z. if_say u (t.tree a.0) (t.tree z.0) (one_of vs) more) (sym o.1)
says-if a b vs _ o t u more = absurd o

pub says-seq : (vs : List PyObjectRef) (f : Form) → IsOwn own.Seq f → (t : Reading) (u : PlainWorld) → own_say u (form_tree t.text t.tree f) vs [] ≡ seq_say u vs []
says-seq vs (form.Seq es) o t u = refl
says-seq vs _ o t u = absurd o

pub long-trees : (tree : ℕ → Tree) (es : List ExprRef) → length (list_of (trees_of (map (λ (e : ExprRef). tree e.0) es))) ≡ length es
long-trees tree [] = refl
long-trees tree (e ∷ es) = ap suc (long-trees tree es)

pub names-of-entries : (text : ℕ → Text) (tree : ℕ → Tree) (es : List (PyStrInterned × ExprRef)) → entry_names (entry_list (map (part text tree) es)) ≡ map (λ x. text x.0) (map (λ e. e.0) es)
names-of-entries text tree [] = refl
names-of-entries text tree (e ∷ es) = ap (λ l. text e.0.0 ∷ l) (names-of-entries text tree es)

pub says-class : (x : PyStrInterned) (n : ℕ) (ks xs : Vec PyStrInterned) (vs : List PyObjectRef) (f : Form) → IsOwn (own.Class x n ks xs) f → (t : Reading) (u : PlainWorld) (more : Told) → own_say u (form_tree t.text t.tree f) vs more ≡ class_say u (t.text x.0) n (map (spelled t) ks.items) (map (spelled t) xs.items) vs more
says-class x n ks xs vs (form.Class parts) o t u more =
    ap (λ m. class_say u (t.text parts.value.name.0) m (entry_names (entry_list (map (part t.text t.tree) parts.value.keywords.items))) (entry_names (entry_list (map (part t.text t.tree) parts.value.entries.items))) vs more) (long-trees t.tree parts.value.bases.items ∙ sym o.1)
    ∙ ap (λ ys. class_say u (t.text parts.value.name.0) n ys (entry_names (entry_list (map (part t.text t.tree) parts.value.entries.items))) vs more) (names-of-entries t.text t.tree parts.value.keywords.items ∙ ap (map (spelled t)) (sym o.2))
    ∙ ap (λ ys. class_say u (t.text parts.value.name.0) n (map (spelled t) ks.items) ys vs more) (names-of-entries t.text t.tree parts.value.entries.items ∙ ap (map (spelled t)) (sym o.3))
    ∙ ap (λ z. class_say u (t.text z.0) n (map (spelled t) ks.items) (map (spelled t) xs.items) vs more) (sym o.0)
says-class x n ks xs vs _ o t u more = absurd o

-- how many operands a class has
pub class-long : (x : PyStrInterned) (n : ℕ) (ks xs : Vec PyStrInterned) (f : Form) → IsOwn (own.Class x n ks xs) f → length (operands f) ≡ n + (length ks.items + length xs.items)
class-long x n ks xs (form.Class parts) o =
    let all = length-append parts.value.bases.items (map (λ e. e.1) parts.value.keywords.items ++ map (λ e. e.1) parts.value.entries.items) in
    let both = length-append (map (λ e. e.1) parts.value.keywords.items) (map (λ e. e.1) parts.value.entries.items) in
    let keywords = length-map parts.value.keywords.items (λ e. e.1) in
    let entries = length-map parts.value.entries.items (λ e. e.1) in
    let keys = ap length o.2 ∙ length-map parts.value.keywords.items (λ e. e.0) in
    let names = ap length o.3 ∙ length-map parts.value.entries.items (λ e. e.0) in
    let bases = o.1 in
    omega (arith, all, both, keywords, entries, keys, names, bases)
class-long x n ks xs _ o = absurd o

-- what is said of the names of a class
pub class-names : (w : Held) (x : PyStrInterned) (n : ℕ) (ks xs : Vec PyStrInterned) (f : Form) → IsOwn (own.Class x n ks xs) f → AllHold w (of_form f) → Holds w (IsName x) × Holds w (AreNames ks.items) × Holds w (AreNames xs.items)
class-names w x n ks xs (form.Class parts) o h =
    (subst (λ z. Holds w (IsName z)) (sym o.0) h.0, subst (λ ys. Holds w (AreNames ys)) (sym o.2) h.1.1.0, subst (λ ys. Holds w (AreNames ys)) (sym o.3) h.1.1.1.1.0)
class-names w x n ks xs _ o h = absurd o

pub set-name : (w : Held) (x : PyStrInterned) (f : Form) → IsOwn (own.SetAttr x) f → AllHold w (of_form f) → Holds w (IsName x)
set-name w x (form.SetAttr a y b) o h = subst (λ z. Holds w (IsName z)) (sym o) h.1.0
set-name w x _ o h = absurd o

pub attr-name : (w : Held) (x : PyStrInterned) (f : Form) → IsOwn (own.Attr x) f → AllHold w (of_form f) → Holds w (IsName x)
attr-name w x (form.Attr a y) o h = subst (λ z. Holds w (IsName z)) (sym o) h.1.0
attr-name w x _ o h = absurd o

-- what a call calls is an expression
pub call-func : (w : Held) (g : ExprRef) (f : Form) → IsOwn (own.Call g) f → AllHold w (of_form f) → Holds w (IsExpression g)
call-func w g (form.Call parts) o k = subst (λ x. Holds w (IsExpression x)) (sym o) k.0
call-func w g _ o k = absurd o

pub del-name : (w : Held) (x : PyStrInterned) (f : Form) → IsOwn (own.DelAttr x) f → AllHold w (of_form f) → Holds w (IsName x)
del-name w x (form.DelAttr a y) o h = subst (λ z. Holds w (IsName z)) (sym o) h.1.0
del-name w x _ o h = absurd o

-- the branches of a condition are expressions
pub if-branches : (w : Held) (a b : ExprRef) (f : Form) → IsOwn (own.If a b) f → AllHold w (of_form f) → Holds w (IsExpression a) × Holds w (IsExpression b)
if-branches w a b (form.If c x y) o h = (subst (λ z. Holds w (IsExpression z)) (sym o.0) h.1.0, subst (λ z. Holds w (IsExpression z)) (sym o.1) h.1.1.0)
if-branches w a b _ o h = absurd o
