-- The rows of expressions answer with objects.
use Rattle.vm_calls.proofs.Below.{Bool, Err, List, None, Ok, Option, Some, cond, drop, eqb, false, is_some, length, nat_le, not, take, true, ℕ, ℤ, [], PyObjectRef, ArgCount, IterEnd, KeyType, RepeatedKeyword, TooLong, Body, Call, Word, Manner, Counted, Part, made as made_of, one_of as lone, Text, Tree, TAttr, TConst, TName, TBind, TTuple, TList, TDict, TFunc, TSetAttr, TDelAttr, TCall, TOp, TIf, TSeq, TRaise, TClass, KeyedTrees, no_keyed, Trees, Literal, LNone, LFalse, LTrue, LInt, LText, list_of, entry_trees, Kind, kind_of, const_say, built_in_named, named_say, name_say, bind_say, Pairs, evaluate_pairs, make_dict, dict_say, change_attr, set_attr_say, del_attr_say, attr_say, entry_names, unrepeated, on_keywords, given_say, arguments_say, invoke_say, callee_say, called_say, class_by, class_within, class_say, branch_say, if_say, last_or_none, operand_trees, own_say, eval_say, unless_exhausted, manner_of, of_one, of_two, of_three, task_for, with_index, counted_task, counted_outcome, counted_by, counted_say, part_task, part_outcome, part_stop, part_start, part_say, slice_say, set_slice_say, del_slice_say, type_of, callable_of, format_of, has_attr_of, by_manner, Datum, ANumber, AText, ATuple, AList, ADict, AFunction, Bindings, PlainWorld, EvalJob, DoEval, DoGetAttr, DoSetAttr, DoHasAttr, DoLoadMethod, DoInvoke, DoCall, DoIsTrue, DoIndex, DoFormat, PlainTask, ToEval, ToAttribute, ToCall, ToProtocol, ToObject, AsValue, AsObjects, AsExhausted, AsFunction, AsAttribute, Ended, Said, datum_at, number_of, slot_at, with_node, with_binding, or_else_var, variable, type_object, the_int, the_str, the_tuple, the_list, the_dict, the_function, Row, start, ask, end, value, none, pass, fault, on_value, on_done, make, most_items, limited, truth, fits_index, evaluate, entries_from, with_text, two_of, filled, key_at, entries}
use Rattle.std.proofs.Common.{◌++◌, ◌∷◌}
use Rattle.py_node.specs.declared.expr.Word.TheVariants as word
use Rattle.py_node.specs.declared.expr.SequenceWord.TheVariants as sequence
use Rattle.py_node.specs.declared.expr.ObjectWord.TheVariants as object
use Rattle.py_node.specs.declared.task.PyNumberBinaryOp.TheVariants as op
use Rattle.proto_call.specs.declared.eval_forms.outcome.Outcome.{Outcome}
use Rattle.proto_call.specs.declared.eval_forms.outcome.Outcome.TheVariants as outcome
use Rattle.proto_call.specs.declared.eval_forms.manner.Manner.TheVariants as manner
use Rattle.proto_call.specs.declared.eval_forms.bounds.Counted.TheVariants as counted
use Rattle.proto_call.specs.declared.eval_forms.bounds.Part.TheVariants as part
use Rattle.proto_call.specs.EvalForms.Words.{is_of as same_of, on_objects as on_collected, asked as word_asked, index_by as number_by}
use Rattle.py_node.specs.Tree.{Entries}
use Rattle.py_node.specs.Tree.{keyed as keyed_tree}
use Rattle.vm_calls.specs.AnswerKinds.Kinds as kinds
use Rattle.vm_calls.proofs.AnswerKinds.Base.{So, Fits, within, Kinded, ended, Says, ends, asks, at_once, never, started, asking, finished, passed, on-value, on-truth, on-number, on-done, ended-by}
use Rattle.vm_calls.proofs.AnswerKinds.Said.{either, takes-text}
use Rattle.vm_calls.proofs.AnswerKinds.Guards.{guarded, make-row, limited-row}
use Rattle.proto_call.specs.EvalForms.Say.{tested, on_method}

-- operands are evaluated in order
evaluated : (es : List Tree) (go : PlainWorld → List PyObjectRef → Row) → ((vs : List PyObjectRef) → Kinded kinds.Value (λ w. go w vs)) → Kinded kinds.Value (λ w. evaluate w es (go w))
evaluated [] go p = p []
evaluated (e ∷ es) go p =
    asking kinds.Value kinds.Value (ToEval (DoEval e)) (λ w r. on_value w r (λ v. evaluate w es (λ vs. go w (v ∷ vs)))) tt
    (λ r f. on-value kinds.Value (λ w v. evaluate w es (λ vs. go w (v ∷ vs))) r f
    (λ v. evaluated es (λ w vs. go w (v ∷ vs)) (λ vs. p (v ∷ vs))))

refused-row : (r : Ended) → Fits kinds.Value r → Kinded kinds.Value (λ w. end w r)
refused-row r f = ended kinds.Value r f

const-row : (k : Literal) → Kinded kinds.Value (λ w. const_say w k)
const-row LNone = ended kinds.Value (value none) tt
const-row LFalse = ended kinds.Value (value (truth false)) tt
const-row LTrue = ended kinds.Value (value (truth true)) tt
const-row (LInt z) = make-row the_int (ANumber z)
const-row (LText x) = limited-row x (λ w. make w the_str (AText x)) (make-row the_str (AText x))

name-row : (x : Text) → Kinded kinds.Value (λ w. name_say w x)
name-row x = finished kinds.Value (λ w. name_say w x) (λ w. named w (or_else_var (variable w x) (built_in_named x)))
  where
    named : (w : PlainWorld) (o : Option PyObjectRef) → Says never kinds.Value (named_say w o [])
    named w None = ends tt
    named w (Some r) = ends tt

bind-row : (x : Text) (o : Option PyObjectRef) → Kinded kinds.Value (λ w. bind_say w x o)
bind-row x None = ended kinds.Value (fault ArgCount) tt
bind-row x (Some v) = finished kinds.Value (λ w. end (with_binding w x v) (value v)) (λ w. ends tt)

pairs-row : (ps : KeyedTrees) (go : PlainWorld → Pairs → Row) → ((es : Pairs) → Kinded kinds.Value (λ w. go w es)) → Kinded kinds.Value (λ w. evaluate_pairs w ps (go w))
pairs-row no_keyed go p = p []
pairs-row (keyed_tree k e ps) go p =
    asking kinds.Value kinds.Value (ToEval (DoEval k)) (λ w r. on_value w r (λ key. ask w (ToEval (DoEval e)) (λ s. on_value w s (λ v. tested w key (evaluate_pairs w ps (λ es. go w ((key, v) ∷ es))))))) tt
    (λ r f. on-value kinds.Value (λ w key. ask w (ToEval (DoEval e)) (λ s. on_value w s (λ v. tested w key (evaluate_pairs w ps (λ es. go w ((key, v) ∷ es)))))) r f
    (λ key. asking kinds.Value kinds.Value (ToEval (DoEval e)) (λ w s. on_value w s (λ v. tested w key (evaluate_pairs w ps (λ es. go w ((key, v) ∷ es))))) tt
    (λ s h. on-value kinds.Value (λ w v. tested w key (evaluate_pairs w ps (λ es. go w ((key, v) ∷ es)))) s h
    (λ v. guarded kinds.Value (λ w. is_some (key_at w key)) (λ w. evaluate_pairs w ps (λ es. go w ((key, v) ∷ es))) (fault KeyType) tt
    (pairs-row ps (λ w es. go w ((key, v) ∷ es)) (λ es. p ((key, v) ∷ es)))))))

dict-row : (ps : KeyedTrees) → Kinded kinds.Value (λ w. dict_say w ps)
dict-row ps = pairs-row ps (λ w es. make_dict w (entries_from w es)) (λ es. finished kinds.Value (λ w. make_dict w (entries_from w es)) (λ w. made w (entries_from w es)))
  where
    short : (w : PlainWorld) (b : Bool) (es : Pairs) → Says never kinds.Value (cond b (make w the_dict (ADict es)) (end w (fault TooLong)) [])
    short w true es = ends tt
    short w false es = ends tt

    made : (w : PlainWorld) (es : Pairs) → Says never kinds.Value (make_dict w es [])
    made w es = short w (nat_le (length es) most_items) es

change-row : (o : PyObjectRef) (x : Text) (v : Option PyObjectRef) → Kinded kinds.Value (λ w. change_attr w o x v)
change-row o x v = asking kinds.DoneOrValue kinds.Value (ToAttribute (DoSetAttr o x v)) (λ w r. on_done w r (end w (value none))) tt (λ r f. on-done kinds.Value (λ w. end w (value none)) r (ended kinds.Value (value none) tt))

set-attr-row : (x : Text) (p : Option (PyObjectRef × PyObjectRef)) → Kinded kinds.Value (λ w. set_attr_say w x p)
set-attr-row x None = ended kinds.Value (fault ArgCount) tt
set-attr-row x (Some p) = change-row p.0 x (Some p.1)

del-attr-row : (x : Text) (o : Option PyObjectRef) → Kinded kinds.Value (λ w. del_attr_say w x o)
del-attr-row x None = ended kinds.Value (fault ArgCount) tt
del-attr-row x (Some o) = change-row o x None

attr-row : (x : Text) (o : Option PyObjectRef) → Kinded kinds.Value (λ w. attr_say w x o)
attr-row x None = ended kinds.Value (fault ArgCount) tt
attr-row x (Some o) = passed kinds.Value (λ w. pass w (ToAttribute (DoGetAttr o x))) (λ w. asks tt)

keywords-row : (o : Option Bindings) (go : PlainWorld → Bindings → Row) → ((kw : Bindings) → Kinded kinds.Value (λ w. go w kw)) → Kinded kinds.Value (λ w. on_keywords w o (go w))
keywords-row None go p = ended kinds.Value (fault RepeatedKeyword) tt
keywords-row (Some kw) go p = p kw

arguments-row : (es : Trees) (kw : Entries) (task : List PyObjectRef → Bindings → PlainTask) → ((args : List PyObjectRef) (kw : Bindings) → So (within (kind_of (task args kw)) kinds.Value)) → Kinded kinds.Value (λ w. arguments_say w es kw task)
arguments-row es kw task h =
    evaluated (list_of es ++ entry_trees kw) (λ w. given_say w task (length (list_of es)) (entry_names kw))
    (λ vs. keywords-row (unrepeated [] (entry_names kw) (drop (length (list_of es)) vs)) (λ w kw. start (pass w (task (take (length (list_of es)) vs) kw)) (end w))
    (λ kw. passed kinds.Value (λ w. pass w (task (take (length (list_of es)) vs) kw)) (λ w. asks (h _ kw))))

method-row : (es : Trees) (kw : Entries) (r : Ended) → Fits kinds.Method r → Kinded kinds.Value (λ w. on_method w r (invoke_say w es kw))
method-row es kw (Ok (AsFunction o m)) f = arguments-row es kw (λ args keywords. ToAttribute (DoInvoke (Some o) m args keywords)) (λ args keywords. tt)
method-row es kw (Ok (AsAttribute m)) f = arguments-row es kw (λ args keywords. ToAttribute (DoInvoke None m args keywords)) (λ args keywords. tt)
method-row es kw (Ok a) f = absurd f
method-row es kw (Err x) f = ended kinds.Value (Err x) tt

callee-row : (e : Tree) (es : Trees) (kw : Entries) (v : PyObjectRef) → Kinded kinds.Value (λ w. callee_say w e es kw v)
callee-row (TAttr o x) es kw v = asking kinds.Method kinds.Value (ToAttribute (DoLoadMethod v x)) (λ w r. on_method w r (invoke_say w es kw)) tt (λ r f. method-row es kw r f)
callee-row e es kw v = arguments-row es kw (λ args keywords. ToCall (DoCall v args keywords)) (λ args keywords. tt)

called-row : (e : Tree) (es : Trees) (kw : Entries) (o : Option PyObjectRef) → Kinded kinds.Value (λ w. called_say w e es kw o)
called-row e es kw None = ended kinds.Value (fault ArgCount) tt
called-row e es kw (Some v) = callee-row e es kw v

-- a class

class-said : (w : PlainWorld) (x : Text) (bases : List PyObjectRef) (kw entries : Bindings) → Says (at_once kinds.Value) kinds.Value (class_by w x bases kw entries)
class-said w x bases kw entries =
    let named = with_node w the_str (AText x) in
    let based = with_node named the_tuple (ATuple bases) in
    asks tt

class-row : (x : Text) (bases : ℕ) (keys names : List Text) (vs : List PyObjectRef) → Kinded kinds.Value (λ w. class_say w x bases keys names vs)
class-row x bases keys names vs =
    keywords-row (unrepeated [] keys (take (length keys) (drop bases vs))) (λ w kw. class_within w x (take bases vs) kw (filled [] names (drop (length keys) (drop bases vs))))
    (λ kw. limited-row (take bases vs) (λ w. limited w (filled [] names (drop (length keys) (drop bases vs))) (start (class_by w x (take bases vs) kw (filled [] names (drop (length keys) (drop bases vs)))) (end w)))
    (limited-row (filled [] names (drop (length keys) (drop bases vs))) (λ w. start (class_by w x (take bases vs) kw (filled [] names (drop (length keys) (drop bases vs)))) (end w))
    (passed kinds.Value (λ w. class_by w x (take bases vs) kw (filled [] names (drop (length keys) (drop bases vs)))) (λ w. class-said w x (take bases vs) kw (filled [] names (drop (length keys) (drop bases vs)))))))

-- branches

if-row : (a b : Tree) (o : Option PyObjectRef) → Kinded kinds.Value (λ w. if_say w a b o)
if-row a b None = ended kinds.Value (fault ArgCount) tt
if-row a b (Some c) =
    asking kinds.Truth kinds.Value (ToProtocol (DoIsTrue c)) (λ w. branch_say w a b) tt
    (λ r f. on-truth kinds.Value (λ w holds. start (pass w (ToEval (DoEval (cond holds a b)))) (end w)) r f
    (λ holds. passed kinds.Value (λ w. pass w (ToEval (DoEval (cond holds a b)))) (λ w. asks tt)))

-- words

-- the kind of what an outcome is made of
abbrev outcome_kind : Outcome → Kind
outcome_kind outcome.Same = kinds.Value
outcome_kind outcome.Nothing = kinds.Done
outcome_kind outcome.Truth = kinds.Truth
outcome_kind outcome.Negated = kinds.Truth
outcome_kind outcome.Number = kinds.Number
outcome_kind outcome.List = kinds.Objects
outcome_kind outcome.Tuple = kinds.Objects
outcome_kind outcome.Item = kinds.Item

collected : (c : ℕ) (of : List PyObjectRef → Datum) → (r : Ended) → Fits kinds.Objects r → Kinded kinds.Value (λ w. on_collected w r (λ rs. limited w rs (make w c (of rs))))
collected c of (Ok (AsObjects rs)) f = limited-row rs (λ w. make w c (of rs)) (make-row c (of rs))
collected c of (Ok a) f = absurd f
collected c of (Err x) f = ended kinds.Value (Err x) tt

item-row : (r : Ended) → Fits kinds.Item r → Kinded kinds.Value (λ w. unless_exhausted w r)
item-row (Ok AsExhausted) f = ended kinds.Value (fault IterEnd) tt
item-row (Ok (AsValue v)) f = ended kinds.Value (value v) tt
item-row (Ok a) f = absurd f
item-row (Err x) f = ended kinds.Value (Err x) tt

made-row : (o : Outcome) (r : Ended) → Fits (outcome_kind o) r → Kinded kinds.Value (λ w. made_of w o r)
made-row outcome.Same r f = ended kinds.Value r f
made-row outcome.Nothing r f = on-done kinds.Value (λ w. end w (value none)) r (ended kinds.Value (value none) tt)
made-row outcome.Truth r f = on-truth kinds.Value (λ w b. end w (value (truth b))) r f (λ b. ended kinds.Value (value (truth b)) tt)
made-row outcome.Negated r f = on-truth kinds.Value (λ w b. end w (value (truth (not b)))) r f (λ b. ended kinds.Value (value (truth (not b))) tt)
made-row outcome.Number r f = on-number kinds.Value (λ w z. make w the_int (ANumber z)) r f (λ z. make-row the_int (ANumber z))
made-row outcome.List r f = collected the_list (λ rs. AList rs) r f
made-row outcome.Tuple r f = collected the_tuple (λ rs. ATuple rs) r f
made-row outcome.Item r f = item-row r f

abbrev Takes : Manner → Option PlainTask → Type 0
Takes (manner.Asks o) (Some task) = So (within (kind_of task) (outcome_kind o))
Takes m task = Unit {0}

one-fits : (x : Word) (a : PyObjectRef) → Takes (manner_of x) (of_one x a)
one-fits (word.Sequence sequence.Len) a = tt
one-fits (word.Object object.Not) a = tt
one-fits (word.Unary u) a = tt
one-fits x a = tt

two-fit : (x : Word) (a b : PyObjectRef) → Takes (manner_of x) (of_two x a b)
two-fit (word.Binary op.Add) a b = tt
two-fit (word.Inplace op.Add) a b = tt
two-fit (word.Sequence sequence.In) a b = tt
two-fit (word.Object object.IsInstance) a b = tt
two-fit x a b = tt

three-fit : (x : Word) (a b c : PyObjectRef) → Takes (manner_of x) (of_three x a b c)
three-fit (word.Sequence sequence.SetItem) a b c = tt
three-fit (word.Object object.Not) a b c = tt
three-fit word.Power a b c = tt
three-fit x a b c = tt

none-fits : (m : Manner) → Takes m None
none-fits (manner.Asks o) = tt
none-fits m = tt

word-fits : (x : Word) (vs : List PyObjectRef) → Takes (manner_of x) (task_for x vs)
word-fits x [] = none-fits (manner_of x)
word-fits x (a ∷ []) = one-fits x a
word-fits x (a ∷ b ∷ []) = two-fit x a b
word-fits x (a ∷ b ∷ c ∷ []) = three-fit x a b c
word-fits x (a ∷ b ∷ c ∷ (d ∷ vs)) = none-fits (manner_of x)

asked-row : (o : Outcome) (task : Option PlainTask) → Takes (manner.Asks o) task → Kinded kinds.Value (λ w. word_asked w o task)
asked-row o None h = ended kinds.Value (fault ArgCount) tt
asked-row o (Some task) h = asking (outcome_kind o) kinds.Value task (λ w. made_of w o) h (λ r f. made-row o r f)

number-said : (j : Kind) (w : PlainWorld) (z : Option ℤ) (go : ℤ → Said) → ((z : ℤ) → Says (at_once j) kinds.Value (go z)) → Says (at_once j) kinds.Value (number_by w z go)
number-said j w None go p = ends tt
number-said j w (Some z) go p = either (fits_index z) (p z) (ends tt)

index-said : (j : Kind) (w : PlainWorld) (r : Ended) (go : ℤ → Said) → Fits kinds.Value r → ((z : ℤ) → Says (at_once j) kinds.Value (go z)) → Says (at_once j) kinds.Value (with_index w r go)
index-said j w (Ok (AsValue i)) go f p = number-said j w (number_of (datum_at w i)) go p
index-said j w (Ok a) go f p = absurd f
index-said j w (Err x) go f p = ends tt

counted-fits : (k : Counted) (o : PyObjectRef) (z : ℤ) → So (within (kind_of (counted_task k o z)) (outcome_kind (counted_outcome k)))
counted-fits counted.Repeat o z = tt
counted-fits counted.InplaceRepeat o z = tt
counted-fits counted.Hint o z = tt

counted-row : (k : Counted) (p : Option (PyObjectRef × PyObjectRef)) → Kinded kinds.Value (λ w. counted_say w k p)
counted-row k None = ended kinds.Value (fault ArgCount) tt
counted-row k (Some p) =
    asking kinds.Value kinds.Value (ToProtocol (DoIndex p.1)) (λ w. counted_by w k p.0) tt
    (λ r f. started (outcome_kind (counted_outcome k)) kinds.Value (λ w. with_index w r (λ z. pass w (counted_task k p.0 z))) (λ w. made_of w (counted_outcome k))
    (λ w. index-said (outcome_kind (counted_outcome k)) w r (λ z. pass w (counted_task k p.0 z)) f (λ z. asks (counted-fits k p.0 z))) (λ s h. made-row (counted_outcome k) s h))

part-fits : (p : Part) (o : PyObjectRef) (i j : ℤ) → So (within (kind_of (part_task p o i j)) (outcome_kind (part_outcome p)))
part-fits part.Get o i j = tt
part-fits (part.Set v) o i j = tt
part-fits part.Delete o i j = tt

part-row : (p : Part) (o i j : PyObjectRef) → Kinded kinds.Value (λ w. part_say w p o i j)
part-row p o i j =
    asking kinds.Value kinds.Value (ToProtocol (DoIndex i)) (λ w. part_start w p o j) tt
    (λ r f. started kinds.Value kinds.Value (λ w. with_index w r (λ i. pass w (ToProtocol (DoIndex j)))) (λ w. part_stop w p o r)
    (λ w. index-said kinds.Value w r (λ i. pass w (ToProtocol (DoIndex j))) f (λ i. asks tt))
    (λ s h. started (outcome_kind (part_outcome p)) kinds.Value (λ w. with_index w r (λ i. with_index w s (λ j. pass w (part_task p o i j)))) (λ w. made_of w (part_outcome p))
    (λ w. index-said (outcome_kind (part_outcome p)) w r (λ i. with_index w s (λ j. pass w (part_task p o i j))) f (λ i. index-said (outcome_kind (part_outcome p)) w s (λ j. pass w (part_task p o i j)) h (λ j. asks (part-fits p o i j))))
    (λ t x. made-row (part_outcome p) t x)))

slice-row : (vs : List PyObjectRef) → Kinded kinds.Value (λ w. slice_say w vs)
slice-row (o ∷ i ∷ j ∷ []) = part-row part.Get o i j
slice-row vs = ended kinds.Value (fault ArgCount) tt

set-slice-row : (vs : List PyObjectRef) → Kinded kinds.Value (λ w. set_slice_say w vs)
set-slice-row (o ∷ i ∷ j ∷ v ∷ []) = part-row (part.Set v) o i j
set-slice-row vs = ended kinds.Value (fault ArgCount) tt

del-slice-row : (vs : List PyObjectRef) → Kinded kinds.Value (λ w. del_slice_say w vs)
del-slice-row (o ∷ i ∷ j ∷ []) = part-row part.Delete o i j
del-slice-row vs = ended kinds.Value (fault ArgCount) tt

same-row : (p : Option (PyObjectRef × PyObjectRef)) → Kinded kinds.Value (λ w. same_of w p)
same-row None = ended kinds.Value (fault ArgCount) tt
same-row (Some p) = ended kinds.Value (value (truth (eqb p.0.0 p.1.0))) tt

type-row : (o : Option PyObjectRef) → Kinded kinds.Value (λ w. type_of w o)
type-row None = ended kinds.Value (fault ArgCount) tt
type-row (Some o) = ended-by kinds.Value (λ w. value (type_object w o)) (λ w. tt)

callable-row : (o : Option PyObjectRef) → Kinded kinds.Value (λ w. callable_of w o)
callable-row None = ended kinds.Value (fault ArgCount) tt
callable-row (Some o) = ended-by kinds.Value (λ w. value (truth (is_some (slot_at w o Call)))) (λ w. tt)

format-row : (p : Option (PyObjectRef × PyObjectRef)) → Kinded kinds.Value (λ w. format_of w p)
format-row None = ended kinds.Value (fault ArgCount) tt
format-row (Some p) = passed kinds.Value (λ w. with_text w p.1 (λ x. pass w (ToObject (DoFormat p.0 p.1)))) (λ w. takes-text w p.1 (λ x. pass w (ToObject (DoFormat p.0 p.1))) (λ x. asks tt))

has-attr-row : (p : Option (PyObjectRef × PyObjectRef)) → Kinded kinds.Value (λ w. has_attr_of w p)
has-attr-row None = ended kinds.Value (fault ArgCount) tt
has-attr-row (Some p) =
    started kinds.Truth kinds.Value (λ w. with_text w p.1 (λ x. pass w (ToAttribute (DoHasAttr p.0 x)))) (λ w. made_of w outcome.Truth)
    (λ w. takes-text w p.1 (λ x. pass w (ToAttribute (DoHasAttr p.0 x))) (λ x. asks tt)) (λ r f. made-row outcome.Truth r f)

manner-row : (m : Manner) (x : Word) (vs : List PyObjectRef) → Takes m (task_for x vs) → Kinded kinds.Value (λ w. by_manner w m x vs)
manner-row (manner.Asks o) x vs h = asked-row o (task_for x vs) h
manner-row (manner.Counts k) x vs h = counted-row k (two_of vs)
manner-row manner.Slices x vs h = slice-row vs
manner-row manner.SetsSlice x vs h = set-slice-row vs
manner-row manner.DeletesSlice x vs h = del-slice-row vs
manner-row manner.IsSame x vs h = same-row (two_of vs)
manner-row manner.TypeOf x vs h = type-row (lone vs)
manner-row manner.IsCallable x vs h = callable-row (lone vs)
manner-row manner.Formats x vs h = format-row (two_of vs)
manner-row manner.HasAttr x vs h = has-attr-row (two_of vs)

own-row : (e : Tree) (vs : List PyObjectRef) → Kinded kinds.Value (λ w. own_say w e vs)
own-row (TConst k) vs = const-row k
own-row (TName x) vs = name-row x
own-row (TBind x e) vs = bind-row x (lone vs)
own-row (TTuple es) vs = limited-row vs (λ w. make w the_tuple (ATuple vs)) (make-row the_tuple (ATuple vs))
own-row (TList es) vs = limited-row vs (λ w. make w the_list (AList vs)) (make-row the_list (AList vs))
own-row (TDict ps) vs = dict-row ps
own-row (TFunc x ps rest e) vs = make-row the_function (AFunction x ps rest e None)
own-row (TAttr o x) vs = attr-row x (lone vs)
own-row (TSetAttr o x e) vs = set-attr-row x (two_of vs)
own-row (TDelAttr o x) vs = del-attr-row x (lone vs)
own-row (TCall f es kw) vs = called-row f es kw (lone vs)
own-row (TOp x es) vs = manner-row (manner_of x) x vs (word-fits x vs)
own-row (TIf c a b) vs = if-row a b (lone vs)
own-row (TSeq es) vs = ended kinds.Value (value (last_or_none vs)) tt
own-row (TRaise kind) vs = ended kinds.Value (Err (record { kind = kind; cause = Body })) tt
own-row (TClass x bs kw es) vs = class-row x (length (list_of bs)) (entry_names kw) (entry_names es) vs

pub expressions : (job : EvalJob) → Kinded kinds.Value (λ w. eval_say w job)
unfolding eval_say
expressions (DoEval e) = evaluated (operand_trees e) (λ w. own_say w e) (λ vs. own-row e vs)
