-- Dicts whose keys and values are evaluated in order.
use Rattle.proto_call.proofs.Below.{ℕ, zero, suc, true, false, cond, List, [], length, map, Some, None, Ok, Err, refl, sym, ap, ◌∙◌, arith, slice_get, is_some, Result, IfOk, Vec, ltb-true, lt-ltb, slice_get_within, ExprRef, PyObjectRef, OutOfMemory, Raised as Fault, KeyType, Answer, Value, Form, Step, Ask, End, Text, Tree, TDict, KeyedTrees, no_keyed, keyed_of, entries_from, PlainWorld, DoEval, Answered, Told, Row, fault, end, key_at, Held, of_pairs, Reading, Reads, form_tree, plain, ended_of, Holds, AllHold, IsNode, AreNodes, IsExpression, CanBeKeys, HasForm, held_key, of_form, expression-in, got-map, all-pushed, map-end, key_at-read, World, EvalKept, Key, Pairs, evaluate_pairs, make_dict, eval_say, answered, eval_stands, of_eval_kept, pairs_of, pairs_told, pairs, pairs_at, has_pair, IsOther, IsOwn, EndsRow, Continues, Resumes, operands, Goes, value, eval_group, pairs_row, operands_row, dict_say, asks-follow, ends-follow, goes-as, goes-read, subst}
use Rattle.std.proofs.Common.{◌≡◌, ◌<◌, ◌≤◌, ◌∷◌, ◌++◌}
use Rattle.py_node.specs.declared.payload.Form.TheVariants as form
use Rattle.py_node.specs.declared.task.Task.TheVariants as task
use Rattle.py_node.specs.declared.task.EvalTask.TheVariants as eval
use Rattle.py_node.specs.Tree.{keyed}
use Rattle.proto_call.specs.declared.eval_forms.EvalKept.TheVariants.{Value as OfKey}
use Rattle.proto_call.specs.declared.eval_forms.Own.TheVariants as own
use Rattle.proto_call.proofs.EvalForms.Operands.{append-nil, on-other}

-- the pairs past the first so many
abbrev past : ℕ → KeyedTrees → KeyedTrees
past zero ps = ps
past (suc n) no_keyed = no_keyed
past (suc n) (keyed k e ps) = past n ps

-- all keys are keys
abbrev AreKnown : PlainWorld → Pairs → Type 0
AreKnown w [] = Unit {0}
AreKnown w (e ∷ es) = (is_some (key_at w e.0) ≡ true) × AreKnown w es

trees : (ℕ → Tree) → List (ExprRef × ExprRef) → KeyedTrees
trees tree ps = keyed_of (map (λ p. (tree p.0.0, tree p.1.0)) ps)

pairs-form : (text : ℕ → Text) (tree : ℕ → Tree) (f : Form) → pairs_of (form_tree text tree f) ≡ keyed_of (map (λ p. (tree p.0.0, tree p.1.0)) (pairs f))
pairs-form text tree (form.Dict ps) = refl
pairs-form text tree _ = refl

-- the pair at a place
past-there : (tree : ℕ → Tree) (ps : List (ExprRef × ExprRef)) (n : ℕ) (p : ExprRef × ExprRef) → slice_get ps n ≡ Some p → past n (keyed_of (map (λ p. (tree p.0.0, tree p.1.0)) ps)) ≡ keyed (tree p.0.0) (tree p.1.0) (past (suc n) (keyed_of (map (λ p. (tree p.0.0, tree p.1.0)) ps)))
past-there tree [] n p e = cc
past-there tree (q ∷ ps) zero p e = let same : q ≡ p = cc in ap (λ (q : ExprRef × ExprRef). keyed (tree q.0.0) (tree q.1.0) (keyed_of (map (λ (p : ExprRef × ExprRef). (tree p.0.0, tree p.1.0)) ps))) same
past-there tree (q ∷ ps) (suc n) p e = past-there tree ps n p e

past-none : (tree : ℕ → Tree) (ps : List (ExprRef × ExprRef)) (n : ℕ) → slice_get ps n ≡ None → past n (keyed_of (map (λ p. (tree p.0.0, tree p.1.0)) ps)) ≡ no_keyed
past-none tree [] zero e = refl
past-none tree [] (suc n) e = refl
past-none tree (q ∷ ps) zero e = cc
past-none tree (q ∷ ps) (suc n) e = past-none tree ps n e

abbrev count : KeyedTrees → ℕ
count no_keyed = 0
count (keyed k e ps) = suc (count ps)

count-trees : (tree : ℕ → Tree) (ps : List (ExprRef × ExprRef)) → count (keyed_of (map (λ p. (tree p.0.0, tree p.1.0)) ps)) ≡ length ps
count-trees tree [] = refl
count-trees tree (p ∷ ps) = ap suc (count-trees tree ps)

-- pairs whose keys are keys are gone past
gone-past : (w : PlainWorld) (ps : KeyedTrees) (go : Pairs → Row) (es : Pairs) (more : Told) → AreKnown w es → length es ≤ count ps → evaluate_pairs w ps go (pairs_told es ++ more) ≡ evaluate_pairs w (past (length es) ps) (λ fs. go (es ++ fs)) more
gone-past w ps go [] more k l = refl
gone-past w no_keyed go (e ∷ es) more k l = absurd (omega arith)
gone-past w (keyed a b ps) go (e ∷ es) more k l =
    ap (λ t. cond t (evaluate_pairs w ps (λ fs. go (e ∷ fs))) (end w (fault KeyType)) (pairs_told es ++ more)) k.0
    ∙ gone-past w ps (λ fs. go (e ∷ fs)) es more k.1 (omega arith)

-- the row of a dict, past the pairs that have values
row-past : (u : PlainWorld) (t : Reading) (w : World) (e : ExprRef) (f : Form) (es : Pairs) (more : Told) → Reads t w → slice_get w.forms e.0 ≡ Some f → length es ≤ length (pairs f) → AreKnown u es
    → pairs_row (t.tree e.0) es u more ≡ evaluate_pairs u (past (length es) (keyed_of (map (λ p. (t.tree p.0.0, t.tree p.1.0)) (pairs f)))) (λ fs. make_dict u (entries_from u (es ++ fs))) more
row-past u t w e f es more r h l k =
    let all = ap pairs_of (r.trees e.0 f h) ∙ pairs-form t.text t.tree f in
    let many = count-trees t.tree (pairs f) in
    ap (λ ps. evaluate_pairs u ps (λ fs. make_dict u (entries_from u fs)) (pairs_told es ++ more)) all
    ∙ gone-past u (keyed_of (map (λ p. (t.tree p.0.0, t.tree p.1.0)) (pairs f))) (λ fs. make_dict u (entries_from u fs)) es more k (omega (arith, l, many))

known-read : (t : Reading) (w : Held) (es : Pairs) → Holds w (CanBeKeys (map (λ e. e.0) es)) → AreKnown (plain t w) es
unfolding Holds
known-read t w [] h = tt
known-read t w (e ∷ es) h = (ap is_some (key_at-read t w e.0) ∙ h 0 e.0 (omega arith), known-read t w es (λ i d l. h (suc i) d (omega arith)))

within : {A : Type 0} (xs : List A) (n : ℕ) (x : A) → slice_get xs n ≡ Some x → n ≤ length xs
within xs n x e = let l = slice_get_within xs n x e in omega (arith, l)

-- at a pair
module _ (w : World) (e : ExprRef) (f : Form) (es : Vec (PyObjectRef × PyObjectRef)) (p : ExprRef × ExprRef) (h : slice_get w.forms e.0 ≡ Some f) (k : slice_get (pairs f) (length es.items) ≡ Some p) (c : Holds w (CanBeKeys (map (λ e. e.0) es.items))) where
  abbrev rest : Reading → KeyedTrees
  rest t = past (suc (length es.items)) (keyed_of (map (λ p. (t.tree p.0.0, t.tree p.1.0)) (pairs f)))

  row-pair : (t : Reading) (more : Told) → Reads t w
      → pairs_row (t.tree e.0) es.items (plain t w) more ≡ evaluate_pairs (plain t w) (keyed (t.tree p.0.0) (t.tree p.1.0) (rest t)) (λ fs. make_dict (plain t w) (entries_from (plain t w) (es.items ++ fs))) more
  row-pair t more r =
      row-past (plain t w) t w e f es.items more r h (within (pairs f) (length es.items) p k) (known-read t w es.items c)
      ∙ ap (λ ps. evaluate_pairs (plain t w) ps (λ fs. make_dict (plain t w) (entries_from (plain t w) (es.items ++ fs))) more) (past-there t.tree (pairs f) (length es.items) p k)

  -- the next key is evaluated
  pub key-asked : Goes (λ t. pairs_row (t.tree e.0) es.items) w w (Ask (task.Eval (eval.Eval p.0)) (Key e es))
  key-asked =
      let row = λ (t : Reading). pairs_row (t.tree e.0) es.items in
      asks-follow eval_group row (λ t u. row t u []) w w [] (task.Eval (eval.Eval p.0)) (Key e es) (λ t r. (r, row-pair t [] r)) (λ t u s more. refl)

  -- the key has a value: what stands under it is evaluated
  pub value-asked : (v : PyObjectRef) → Resumes (Key e es) (Ok (Value v)) w w (Ask (task.Eval (eval.Eval p.1)) (OfKey e es v))
  value-asked v =
      let row = λ (t : Reading). eval_stands t (Key e es) (value v) in
      asks-follow eval_group row (λ t u. row t u []) w w [] (task.Eval (eval.Eval p.1)) (OfKey e es v) (λ t r. (r, row-pair t (answered v ∷ []) r)) (λ t u s more. refl)

  -- what is answered no object ends the dict so, in the place of a key
  key-other : (s : Result Answer Fault) → IsOther s → Resumes (Key e es) s w w (End s)
  key-other s o =
      let row = λ (t : Reading). eval_stands t (Key e es) (ended_of s) in
      ends-follow eval_group row (λ t u. row t u []) w w s (λ t r. (r, row-pair t (Answered (ended_of s) ∷ []) r ∙ on-other (plain t w) s _ [] o))

  -- and in that of a value
  value-other : (v : PyObjectRef) (s : Result Answer Fault) → IsOther s → Resumes (OfKey e es v) s w w (End s)
  value-other v s o =
      let row = λ (t : Reading). eval_stands t (OfKey e es v) (ended_of s) in
      ends-follow eval_group row (λ t u. row t u []) w w s (λ t r. (r, row-pair t (answered v ∷ Answered (ended_of s) ∷ []) r ∙ on-other (plain t w) s _ [] o))

  -- what is no key is refused
  key-refused : (v u : PyObjectRef) → ((t : Reading) → is_some (key_at (plain t w) v) ≡ false) → Resumes (OfKey e es v) (Ok (Value u)) w w (End (fault KeyType))
  key-refused v u n =
      let row = λ (t : Reading). eval_stands t (OfKey e es v) (value u) in
      ends-follow eval_group row (λ t u. row t u []) w w (fault KeyType) (λ t r. (
        r,
        row-pair t (answered v ∷ answered u ∷ []) r
            ∙ ap (λ b. cond b (evaluate_pairs (plain t w) (rest t) (λ fs. make_dict (plain t w) (entries_from (plain t w) (es.items ++ (v, u) ∷ fs)))) (end (plain t w) (fault KeyType)) []) (n t),
      ))

-- a dict that waits has the pair that it waits for
pair-there : (ps : List (ExprRef × ExprRef)) (n : ℕ) → n < length ps → (p : ExprRef × ExprRef) × (slice_get ps n ≡ Some p)
pair-there [] n h = absurd (omega arith)
pair-there (p ∷ ps) zero h = (p, refl)
pair-there (p ∷ ps) (suc n) h = pair-there ps n (omega arith)

pub key-ends : (w : World) (e : ExprRef) (es : Vec (PyObjectRef × PyObjectRef)) (s : Result Answer Fault) → IsOther s → AllHold w (of_eval_kept (Key e es)) → Resumes (Key e es) s w w (End s)
unfolding Holds
key-ends w e es s o h =
    let f = h.1.0.0 in
    let p = pair-there (pairs f) (length es.items) (ltb-true (length es.items) (length (pairs f)) h.1.0.2) in
    key-other w e f es p.0 h.1.0.1 p.1 h.1.1.1.1.0 s o

pub value-ends : (w : World) (e : ExprRef) (es : Vec (PyObjectRef × PyObjectRef)) (k : PyObjectRef) (s : Result Answer Fault) → IsOther s → AllHold w (of_eval_kept (OfKey e es k)) → Resumes (OfKey e es k) s w w (End s)
unfolding Holds
value-ends w e es k s o h =
    let f = h.1.0.0 in
    let p = pair-there (pairs f) (length es.items) (ltb-true (length es.items) (length (pairs f)) h.1.0.2) in
    value-other w e f es p.0 h.1.0.1 p.1 h.1.1.1.1.1.0 k s o

pub refused-ends : (w : World) (e : ExprRef) (es : Vec (PyObjectRef × PyObjectRef)) (k v : PyObjectRef) → ((t : Reading) → is_some (key_at (plain t w) k) ≡ false) → AllHold w (of_eval_kept (OfKey e es k)) → Resumes (OfKey e es k) (Ok (Value v)) w w (End (fault KeyType))
unfolding Holds
refused-ends w e es k v n h =
    let f = h.1.0.0 in
    let p = pair-there (pairs f) (length es.items) (ltb-true (length es.items) (length (pairs f)) h.1.0.2) in
    key-refused w e f es p.0 h.1.0.1 p.1 h.1.1.1.1.1.0 k v n

told-pushed : (es : Pairs) (k v : PyObjectRef) (told : Told) → pairs_told es ++ (answered k ∷ answered v ∷ told) ≡ pairs_told (es ++ (k, v) ∷ []) ++ told
told-pushed [] k v told = refl
told-pushed (e ∷ es) k v told = ap (λ l. answered e.0 ∷ answered e.1 ∷ l) (told-pushed es k v told)

-- a pair more
pub pair-found : (w new : World) (e : ExprRef) (es more : Vec (PyObjectRef × PyObjectRef)) (k v : PyObjectRef) (step : Step EvalKept) → more.items ≡ es.items ++ (k, v) ∷ [] → Goes (λ t. pairs_row (t.tree e.0) more.items) w new step → Resumes (OfKey e es k) (Ok (Value v)) w new step
pair-found w new e es more k v step q h =
    goes-as eval_group (λ t. pairs_row (t.tree e.0) more.items) (λ t. eval_stands t (OfKey e es k) (value v)) (λ t u told. ap (dict_say u (pairs_of (t.tree e.0))) (told-pushed es.items k v told ∙ ap (λ l. pairs_told l ++ told) (sym q))) w new step h

-- with the values of all pairs, the dict is made
pub dict-made : (w new : World) (e : ExprRef) (f : Form) (es : Vec (PyObjectRef × PyObjectRef)) (step : Step EvalKept) → slice_get w.forms e.0 ≡ Some f → slice_get (pairs f) (length es.items) ≡ None → length es.items ≤ length (pairs_at (slice_get w.forms e.0)) → Holds w (CanBeKeys (map (λ e. e.0) es.items))
    → EndsRow (λ t u. make_dict u (entries_from u es.items)) w new step → Goes (λ t. pairs_row (t.tree e.0) es.items) w new step
dict-made w new e f es (Ask asked kept) h n l c k = absurd k
dict-made w new e f es (End s) h n l c k =
    let row = λ (t : Reading). pairs_row (t.tree e.0) es.items in
    ends-follow eval_group row (λ t u. row t u []) w new s (λ t r.
    let here = k t r in
    let long = ap (λ o. length (pairs_at o)) h in (
      here.0,
      row-past (plain t w) t w e f es.items [] here.0 h (omega (arith, long, l)) (known-read t w es.items c)
          ∙ ap (λ ps. evaluate_pairs (plain t w) ps (λ fs. make_dict (plain t w) (entries_from (plain t w) (es.items ++ fs))) []) (past-none t.tree (pairs f) (length es.items) n)
          ∙ ap (λ fs. make_dict (plain t w) (entries_from (plain t w) fs) []) (append-nil es.items)
          ∙ here.1,
    ))

-- the parts of a pair are expressions
pub part-holds : (w : Held) (f : Form) (n : ℕ) (p : ExprRef × ExprRef) → AllHold w (of_form f) → slice_get (pairs f) n ≡ Some p → Holds w (IsExpression p.0) × Holds w (IsExpression p.1)
part-holds w (form.Dict ps) n p h k =
    (expression-in w (map (λ p. p.0) ps.items) n p.0 h.0 (got-map (λ p. p.0) ps.items n p k), expression-in w (map (λ p. p.1) ps.items) n p.1 h.1.0 (got-map (λ p. p.1) ps.items n p k))
part-holds w _ n p h k = cc

pub has-pair : (w : Held) (e : ExprRef) (n : ℕ) (f : Form) (p : ExprRef × ExprRef) → slice_get w.forms e.0 ≡ Some f → slice_get (pairs f) n ≡ Some p → Holds w (HasForm e (has_pair n))
unfolding Holds
has-pair w e n f p h k = (f, h, lt-ltb n (length (pairs f)) (slice_get_within (pairs f) n p k))

-- there is a pair at the place
pub below-pairs : (w : Held) (e : ExprRef) (n : ℕ) (f : Form) → slice_get w.forms e.0 ≡ Some f → Holds w (HasForm e (has_pair n)) → n < length (pairs f)
unfolding Holds
below-pairs w e n f h k =
    let same : k.0 ≡ f = cc (h, k.1) in
    subst (λ f. n < length (pairs f)) same (ltb-true n (length (pairs k.0)) k.2)

pub fits-more : (w : Held) (e : ExprRef) (n : ℕ) → Holds w (HasForm e (has_pair n)) → n < length (pairs_at (slice_get w.forms e.0))
unfolding Holds
fits-more w e n k = subst (λ o. n < length (pairs_at o)) (sym k.1) (ltb-true n (length (pairs k.0)) k.2)

pub pairs-pushed : (w : Held) (es : Pairs) (k v : PyObjectRef) → AllHold w (of_pairs es) → Holds w (IsNode k) → Holds w (IsNode v) → Holds w (CanBeKeys (k ∷ [])) → AllHold w (of_pairs (es ++ (k, v) ∷ []))
unfolding Holds
pairs-pushed w es k v h a b c =
    let keys = map-end (λ (e : PyObjectRef × PyObjectRef). e.0) es (k, v) in
    let values = map-end (λ (e : PyObjectRef × PyObjectRef). e.1) es (k, v) in (
      subst (λ rs. Holds w (AreNodes rs)) (sym keys) (all-pushed (λ r. r.0 < length w.nodes) (map (λ e. e.0) es) k h.0 a),
      (
        subst (λ rs. Holds w (AreNodes rs)) (sym values) (all-pushed (λ r. r.0 < length w.nodes) (map (λ e. e.1) es) v h.1.0 b),
        (subst (λ rs. Holds w (CanBeKeys rs)) (sym keys) (all-pushed (λ r. is_some (held_key w.nodes r) ≡ true) (map (λ e. e.0) es) k h.1.1.0 (c 0 k (omega arith))), tt),
      ),
    )

pub no-pairs : (w : Held) → AllHold w (of_pairs [])
unfolding Holds
no-pairs w = (λ i d l. absurd (omega arith), (λ i d l. absurd (omega arith), (λ i d l. absurd (omega arith), tt)))

dict-tree : (text : ℕ → Text) (tree : ℕ → Tree) (f : Form) → IsOwn own.Dict f → TDict (pairs_of (form_tree text tree f)) ≡ form_tree text tree f
dict-tree text tree (form.Dict ps) o = refl
dict-tree text tree _ o = absurd o

dict-alone : (f : Form) (vs : List PyObjectRef) → IsOwn own.Dict f → length (operands f) ≡ length vs → vs ≡ []
dict-alone (form.Dict ps) [] o l = refl
dict-alone (form.Dict ps) (v ∷ vs) o l = absurd (omega (arith, l))
dict-alone _ vs o l = absurd o

-- a dict begins with its first key
pub own-dict : (w new : World) (e : ExprRef) (f : Form) (vs : List PyObjectRef) (es : Vec (PyObjectRef × PyObjectRef)) (r : Result (Step EvalKept) OutOfMemory) → slice_get w.forms e.0 ≡ Some f → length (operands f) ≡ length vs → IsOwn own.Dict f → es.items ≡ []
    → IfOk r (λ step. Goes (λ t. pairs_row (t.tree e.0) es.items) w new step) → IfOk r (λ step. Continues e vs w new step)
unfolding eval_say
own-dict w new e f vs es (Ok step) h l o n k =
    goes-read eval_group (λ t. pairs_row (t.tree e.0) es.items) (λ t. operands_row (t.tree e.0) vs) w new step (λ t r u more.
    let first = r.trees e.0 f h in
    let tree : TDict (pairs_of (t.tree e.0)) ≡ t.tree e.0 = ap (λ x. TDict (pairs_of x)) first ∙ dict-tree t.text t.tree f o ∙ sym first in
    let told : map answered vs ≡ pairs_told es.items = ap (map answered) (dict-alone f vs o l) ∙ ap pairs_told (sym n) in
    ap (λ x. eval_say u (DoEval x) (map answered vs ++ more)) (sym tree) ∙ ap (λ l. dict_say u (pairs_of (t.tree e.0)) (l ++ more)) told) k
own-dict w new e f vs es (Err out) h l o n k = tt

-- a dict that is made once its keys are found, in a world that says the same as before
pub made-after : (old mid new : World) (ps es : Pairs) (step : Step EvalKept) → ((t : Reading) → plain t mid ≡ plain t old) → ((t : Reading) → Reads t mid → Reads t old) → ((t : Reading) → es ≡ entries_from (plain t old) ps) → EndsRow (λ t u. make_dict u es) mid new step → EndsRow (λ t u. make_dict u (entries_from u ps)) old new step
made-after old mid new ps es (Ask asked kept) same reads is h = absurd h
made-after old mid new ps es (End r) same reads is h = λ t q.
    let here = h t q in
    (reads t here.0, (λ i. make_dict (sym (same t) i) (sym (is t) i) []) ∙ here.1)
