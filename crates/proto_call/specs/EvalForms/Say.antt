-- What the rows of expressions say.
use Rattle.proto_call.specs.Below.{ℕ, Bool, cond, bytes_eq, codes, List, [], Option, Some, None, option_map, Ok, Err, is_some, true, false, not, filter, length, take, drop, slice_get, find, PyObjectRef, BuiltIn, Metaclass, Kind, ArgCount, Body, KeyType, RepeatedKeyword, Unbound, value_of, place_of, known_text, Text, Tree, TConst, TName, TBind, TTuple, TList, TDict, TFunc, TAttr, TSetAttr, TDelAttr, TCall, TOp, TIf, TSeq, TRaise, TClass, KeyedTrees, no_keyed, Trees, Entries, no_entries, Literal, LNone, LFalse, LTrue, LInt, LText, list_of, entry_trees, ANumber, AText, ATuple, AList, ADict, AFunction, PlainWorld, Bindings, EvalJob, DoEval, ToEval, DoGetAttr, DoSetAttr, DoLoadMethod, DoInvoke, DoCall, AsFunction, AsAttribute, Ended, PlainTask, ToAttribute, ToCall, ToProtocol, DoIsTrue, Said, ref, is_text, variable, or_else_var, with_binding, with_node, next_node, two_of, filled, the_type, the_int, the_str, the_tuple, the_list, the_dict, the_function, entries_from, class_object, type_object, key_at, Row, start, ask, pass, end, value, none, fault, on_value, on_truth, on_done, make, limited, truth, not_implemented, evaluate}
use Rattle.std.specs.Prelude.{if◌then◌else◌, ◌∷◌, ◌++◌}
use Rattle.py_node.specs.declared.built_in.BuiltIn.TheVariants as built_in
use Rattle.py_node.specs.Tree.{keyed as keyed_tree, entry}
use Rattle.proto_call.specs.EvalForms.Words.{one_of, op_say}

-- a constant is a fixed object, or a new one
abbrev pub const_say : PlainWorld → Literal → Row
const_say w LNone = end w (value none)
const_say w LFalse = end w (value (truth false))
const_say w LTrue = end w (value (truth true))
const_say w (LInt z) = make w the_int (ANumber z)
const_say w (LText x) = limited w x (make w the_str (AText x))

-- the built-in classes that every body can name, with their names
unfoldable pub class_names : List (Text × BuiltIn)
class_names =
    (codes "object", built_in.Object) ∷ (codes "type", built_in.TypeType) ∷ (codes "int", built_in.Int)
    ∷ (codes "bool", built_in.Bool) ∷ (codes "str", built_in.Str) ∷ (codes "tuple", built_in.Tuple)
    ∷ (codes "list", built_in.List) ∷ (codes "dict", built_in.Dict) ∷ (codes "property", built_in.Property)
    ∷ (codes "classmethod", built_in.ClassMethod) ∷ (codes "staticmethod", built_in.StaticMethod)
    ∷ (codes "super", built_in.Super) ∷ []

unfoldable pub class_named : Text → Option BuiltIn
class_named x = option_map (λ row. row.1) (find (λ row. bytes_eq x row.0) class_names)

-- the fixed object that every body can name
unfoldable pub fixed_named : Text → Option PyObjectRef
fixed_named x = if bytes_eq x (codes "NotImplemented") then Some not_implemented else None

-- what every body can name: one of these classes, or NotImplemented
unfoldable pub built_in_named : Text → Option PyObjectRef
built_in_named x = or_else_var (option_map (λ b. ref (place_of b)) (class_named x)) (fixed_named x)

-- what a name names, or a fault where it names nothing
abbrev pub named_say : PlainWorld → Option PyObjectRef → Row
named_say w None = end w (fault Unbound)
named_say w (Some r) = end w (value r)

-- a name is that of a variable, or else of a built-in object
abbrev pub name_say : PlainWorld → Text → Row
name_say w x = named_say w (or_else_var (variable w x) (built_in_named x))

-- a binding binds a variable to its operand, which is its value
abbrev pub bind_say : PlainWorld → Text → Option PyObjectRef → Row
bind_say w x None = end w (fault ArgCount)
bind_say w x (Some v) = end (with_binding w x v) (value v)

-- keys with their values
abbrev pub Pairs : Type 0
Pairs = List (PyObjectRef × PyObjectRef)

-- a tuple of the operands
abbrev pub tuple_say : PlainWorld → List PyObjectRef → Row
tuple_say w vs = limited w vs (make w the_tuple (ATuple vs))

-- a list of the operands
abbrev pub list_say : PlainWorld → List PyObjectRef → Row
list_say w vs = limited w vs (make w the_list (AList vs))

-- goes on where an object can be the key of a dict
abbrev pub tested : PlainWorld → PyObjectRef → Row → Row
tested w k go = cond (is_some (key_at w k)) go (end w (fault KeyType))

-- each key is evaluated and then its value, and then the key is tested, before the next pair
abbrev pub evaluate_pairs : PlainWorld → KeyedTrees → (Pairs → Row) → Row
evaluate_pairs w no_keyed go = go []
evaluate_pairs w (keyed_tree k e ps) go =
    ask w (ToEval (DoEval k)) (λ r. on_value w r (λ key.
    ask w (ToEval (DoEval e)) (λ s. on_value w s (λ v.
    tested w key (evaluate_pairs w ps (λ es. go ((key, v) ∷ es)))))))

-- a dict of keys with their values
abbrev pub make_dict : PlainWorld → Pairs → Row
make_dict w es = limited w es (make w the_dict (ADict es))

abbrev pub dict_say : PlainWorld → KeyedTrees → Row
dict_say w ps = evaluate_pairs w ps (λ es. make_dict w (entries_from w es))

-- a function is a new object
abbrev pub func_say : PlainWorld → Text → List Text → Bool → Tree → Row
func_say w x ps rest e = make w the_function (AFunction x ps rest e None)

-- an attribute is set, or taken out, and the answer is None
abbrev pub change_attr : PlainWorld → PyObjectRef → Text → Option PyObjectRef → Row
change_attr w o x v = ask w (ToAttribute (DoSetAttr o x v)) (λ r. on_done w r (end w (value none)))

-- it is set to the second operand
abbrev pub set_attr_say : PlainWorld → Text → Option (PyObjectRef × PyObjectRef) → Row
set_attr_say w x None = end w (fault ArgCount)
set_attr_say w x (Some p) = change_attr w p.0 x (Some p.1)

abbrev pub del_attr_say : PlainWorld → Text → Option PyObjectRef → Row
del_attr_say w x None = end w (fault ArgCount)
del_attr_say w x (Some o) = change_attr w o x None

-- an attribute of the operand
abbrev pub attr_say : PlainWorld → Text → Option PyObjectRef → Row
attr_say w x None = end w (fault ArgCount)
attr_say w x (Some o) = start (pass w (ToAttribute (DoGetAttr o x))) (end w)

-- the names of entries
abbrev pub entry_names : Entries → List Text
entry_names no_entries = []
entry_names (entry x e es) = x ∷ entry_names es

-- keywords: names with values in order, after some that are there already, unless a name stands twice
abbrev pub unrepeated : Bindings → List Text → List PyObjectRef → Option Bindings
unrepeated kw [] vs = Some kw
unrepeated kw (x ∷ xs) [] = Some kw
unrepeated kw (x ∷ xs) (v ∷ vs) = cond (is_some (value_of (λ y. is_text y x) kw)) None (unrepeated (kw ++ (x, v) ∷ []) xs vs)

-- goes on with keywords, unless one is repeated
abbrev pub on_keywords : PlainWorld → Option Bindings → (Bindings → Row) → Row
on_keywords w None go = end w (fault RepeatedKeyword)
on_keywords w (Some kw) go = go kw

-- something is called with arguments, and with keywords of these names, whose values come after them
abbrev pub given_say : PlainWorld → (List PyObjectRef → Bindings → PlainTask) → ℕ → List Text → List PyObjectRef → Row
given_say w task args names vs =
    on_keywords w (unrepeated [] names (drop args vs)) (λ kw. start (pass w (task (take args vs) kw)) (end w))

-- the arguments and then the keywords are evaluated, and something is called with them
abbrev pub arguments_say : PlainWorld → Trees → Entries → (List PyObjectRef → Bindings → PlainTask) → Row
arguments_say w es kw task =
    evaluate w (list_of es ++ entry_trees kw) (given_say w task (length (list_of es)) (entry_names kw))

-- an object is called
abbrev pub call_say : PlainWorld → Trees → Entries → PyObjectRef → Row
call_say w es kw f = arguments_say w es kw (λ args keywords. ToCall (DoCall f args keywords))

-- a method is invoked
abbrev pub invoke_say : PlainWorld → Trees → Entries → Option PyObjectRef → PyObjectRef → Row
invoke_say w es kw target f = arguments_say w es kw (λ args keywords. ToAttribute (DoInvoke target f args keywords))

-- a method that was loaded: the object that goes before its arguments, if any, and what is called
abbrev pub on_method : PlainWorld → Ended → (Option PyObjectRef → PyObjectRef → Row) → Row
on_method w (Ok (AsFunction o f)) go = go (Some o) f
on_method w (Ok (AsAttribute f)) go = go None f
on_method w other go = end w other

-- the operand is called, or else an attribute of it, which is loaded as a method before the arguments are evaluated
abbrev pub callee_say : PlainWorld → Tree → Trees → Entries → PyObjectRef → Row
callee_say w (TAttr o x) es kw v = ask w (ToAttribute (DoLoadMethod v x)) (λ r. on_method w r (invoke_say w es kw))
callee_say w f es kw v = call_say w es kw v

abbrev pub called_say : PlainWorld → Tree → Trees → Entries → Option PyObjectRef → Row
called_say w f es kw None = end w (fault ArgCount)
called_say w f es kw (Some v) = callee_say w f es kw v

-- a class: its name is a new text, its bases are a new tuple, its entries are a new dict, with a new text for each name. What the keyword `metaclass` gives, or else the class of the first base, or else `type`, is called with these and with the other keywords

-- new texts for names, with their values
abbrev pub keyed : PlainWorld → Pairs → Bindings → PlainWorld × Pairs
keyed w ps [] = (w, ps)
keyed w ps (b ∷ bs) = keyed (with_node w the_str (AText b.0)) (ps ++ (next_node w the_str, b.1) ∷ []) bs

-- what is called for a class: the one that is given, or else the class of the first base, or else `type`
abbrev pub metaclass : PlainWorld → Option PyObjectRef → Option PyObjectRef → PyObjectRef
metaclass w (Some meta) first = meta
metaclass w None None = class_object w the_type
metaclass w None (Some b) = type_object w b

-- the metaclass among keywords, and all others
abbrev pub given_metaclass : Bindings → Option PyObjectRef
given_metaclass kw = value_of (λ y. is_text y (known_text Metaclass)) kw

abbrev pub other_keywords : Bindings → Bindings
other_keywords kw = filter (λ k. not (is_text k.0 (known_text Metaclass))) kw

-- a new dict
abbrev pub with_dict : PlainWorld × Pairs → PlainWorld × PyObjectRef
with_dict s = (with_node s.0 the_dict (ADict s.1), next_node s.0 the_dict)

abbrev pub call_with : PyObjectRef → PyObjectRef → PyObjectRef → Bindings → PlainWorld × PyObjectRef → Said
call_with meta name bases kw s = pass s.0 (ToCall (DoCall meta (name ∷ bases ∷ s.1 ∷ []) kw))

abbrev pub class_by : PlainWorld → Text → List PyObjectRef → Bindings → Bindings → Said
class_by w x bases kw entries =
    let named = with_node w the_str (AText x) in
    call_with (metaclass w (given_metaclass kw) (slice_get bases 0)) (next_node w the_str) (next_node named the_tuple) (other_keywords kw) (with_dict (keyed (with_node named the_tuple (ATuple bases)) [] entries))

-- the same, where neither the bases nor the entries are too many
abbrev pub class_within : PlainWorld → Text → List PyObjectRef → Bindings → Bindings → Row
class_within w x bases kw entries = limited w bases (limited w entries (start (class_by w x bases kw entries) (end w)))

-- the values of so many bases, of the keywords, and of the entries
abbrev pub class_say : PlainWorld → Text → ℕ → List Text → List Text → List PyObjectRef → Row
class_say w x bases keys names vs =
    on_keywords w (unrepeated [] keys (take (length keys) (drop bases vs))) (λ kw.
    class_within w x (take bases vs) kw (filled [] names (drop (length keys) (drop bases vs))))

-- a condition, and then the one branch or the other
abbrev pub branch_say : PlainWorld → Tree → Tree → Ended → Row
branch_say w a b r = on_truth w r (λ holds. start (pass w (ToEval (DoEval (cond holds a b)))) (end w))

abbrev pub if_say : PlainWorld → Tree → Tree → Option PyObjectRef → Row
if_say w a b None = end w (fault ArgCount)
if_say w a b (Some c) = ask w (ToProtocol (DoIsTrue c)) (branch_say w a b)

-- the last of some values, or else None
abbrev pub last_or_none : List PyObjectRef → PyObjectRef
last_or_none [] = none
last_or_none (v ∷ []) = v
last_or_none (v ∷ (u ∷ vs)) = last_or_none (u ∷ vs)

-- expressions one after another: the value of the last
abbrev pub seq_say : PlainWorld → List PyObjectRef → Row
seq_say w vs = end w (value (last_or_none vs))

-- a fault of this kind
abbrev pub raise_say : PlainWorld → Kind → Row
raise_say w kind = end w (Err (record { kind = kind; cause = Body }))

-- what a call evaluates first: what it calls, or the object whose method it calls
abbrev pub callee_tree : Tree → Tree
callee_tree (TAttr o x) = o
callee_tree f = f

-- the parts of an expression that are evaluated first, in order. A dict evaluates its pairs in its own step
abbrev pub operand_trees : Tree → List Tree
operand_trees (TBind x e) = e ∷ []
operand_trees (TTuple es) = list_of es
operand_trees (TList es) = list_of es
operand_trees (TAttr o x) = o ∷ []
operand_trees (TSetAttr o x e) = o ∷ e ∷ []
operand_trees (TDelAttr o x) = o ∷ []
operand_trees (TCall f es kw) = callee_tree f ∷ []
operand_trees (TOp word es) = list_of es
operand_trees (TIf c a b) = c ∷ []
operand_trees (TSeq es) = list_of es
operand_trees (TClass x bs kw es) = list_of bs ++ (entry_trees kw ++ entry_trees es)
operand_trees _ = []

-- what an expression does with the values of its operands
abbrev pub own_say : PlainWorld → Tree → List PyObjectRef → Row
own_say w (TConst k) vs = const_say w k
own_say w (TName x) vs = name_say w x
own_say w (TBind x e) vs = bind_say w x (one_of vs)
own_say w (TTuple es) vs = tuple_say w vs
own_say w (TList es) vs = list_say w vs
own_say w (TDict ps) vs = dict_say w ps
own_say w (TFunc x ps rest e) vs = func_say w x ps rest e
own_say w (TAttr o x) vs = attr_say w x (one_of vs)
own_say w (TSetAttr o x e) vs = set_attr_say w x (two_of vs)
own_say w (TDelAttr o x) vs = del_attr_say w x (one_of vs)
own_say w (TCall f es kw) vs = called_say w f es kw (one_of vs)
own_say w (TOp word es) vs = op_say w word vs
own_say w (TIf c a b) vs = if_say w a b (one_of vs)
own_say w (TSeq es) vs = seq_say w vs
own_say w (TRaise kind) vs = raise_say w kind
own_say w (TClass x bs kw es) vs = class_say w x (length (list_of bs)) (entry_names kw) (entry_names es) vs

-- an expression's operands are evaluated in order. Then it has a step of its own
unfoldable pub eval_say : PlainWorld → EvalJob → Row
eval_say w (DoEval e) told = evaluate w (operand_trees e) (own_say w e) told
