-- Which expression a JSON value spells.
use Rattle.script_text.specs.Below.{List, [], length, map, codes, bytes_eq, Bool, true, false, not, Option, Some, None, option_map, option_and_then, String, string_bytes, find, list_any, Data, null, boolean, number, string, array, object, Items, no_items, item, as_i64, as_str, Global, Expr, Word, Kind, KINDS, Text, LNone, LFalse, LTrue, LInt, LText, Tree, TConst, TName, TBind, TTuple, TList, TDict, TFunc, TAttr, TSetAttr, TDelAttr, TCall, TOp, TIf, TSeq, TRaise, TClass, Entries, no_entries, entry, keyed_of, trees_of, tree_of}
use Rattle.std.specs.Prelude.{◌&&◌, ◌∷◌, if◌then◌else◌}
use Rattle.script_text.specs.JsonText.Texts.{of_two, texts_in}
use Rattle.script_text.specs.declared.words.Arity.{Arity}
use Rattle.script_text.specs.Words.{allows, operation_of}

-- f of three parts, where all are there
abbrev pub of_three : {A B C D : Type 0} → (A → B → C → D) → Option A → Option B → Option C → Option D
of_three f (Some a) b c = of_two (f a) b c
of_three f None b c = None

-- f of four parts, where all are there
abbrev pub of_four : {A B C D E : Type 0} → (A → B → C → D → E) → Option A → Option B → Option C → Option D → Option E
of_four f (Some a) b c d = of_three (f a) b c d
of_four f None b c d = None

-- the kinds of faults with their words
unfoldable pub kinds : List (Kind × Text)
kinds = map (λ row. (row.0, row.1.now)) KINDS

-- the kind of faults that a word stands for
unfoldable pub kind_named : Text → Option Kind
kind_named text = option_map (λ row. row.0) (find (λ row. bytes_eq text row.1) kinds)

-- no text of a list stands twice
abbrev pub all_differ : List Text → Bool
all_differ [] = true
all_differ (t ∷ ts) = not (list_any (bytes_eq t) ts) && all_differ ts

-- the strings of a list that all differ
abbrev pub differing : Items → Option (List Text)
differing ds = option_and_then (λ texts. if all_differ texts then Some texts else None) (texts_in ds)

-- where one of them is to take the rest of the arguments, there is one at least
abbrev pub enough : Bool → List Text → Option (List Text)
enough true [] = None
enough rest params = Some params

-- the parameters of a function: a list of strings that all differ
abbrev pub params_of : Bool → Data → Option (List Text)
params_of rest (array ds) = option_and_then (enough rest) (differing ds)
params_of rest _ = None

abbrev pub Named : Type 0
Named = Text × Tree

-- an entry of the code
abbrev pub named : String Global × Expr → Named
named e = (string_bytes e.0, tree_of e.1)

abbrev pub named_entries : List Named → Entries
named_entries [] = no_entries
named_entries (e ∷ es) = entry e.0 e.1 (named_entries es)

-- an operation of as many operands as its word takes
abbrev pub operation : Option (Word × Arity) → Option (List Tree) → Option Tree
operation (Some w) (Some ts) = if allows w.1 (length ts) then Some (TOp w.0 (trees_of ts)) else None
operation (Some w) None = None
operation None ts = None

abbrev pub pair : {A : Type 0} → A → Tree → A × Tree
pair a t = (a, t)

abbrev pub tuple : List Tree → Tree
tuple ts = TTuple (trees_of ts)

abbrev pub list : List Tree → Tree
list ts = TList (trees_of ts)

abbrev pub seq : List Tree → Tree
seq ts = TSeq (trees_of ts)

abbrev pub dict : List (Tree × Tree) → Tree
dict ps = TDict (keyed_of ps)

abbrev pub func : Bool → Text → List Text → Tree → Tree
func rest name params body = TFunc name params rest body

abbrev pub call : Tree → List Tree → List Named → Tree
call callee args keywords = TCall callee (trees_of args) (named_entries keywords)

abbrev pub class : Text → List Tree → List Named → List Named → Tree
class name bases body keywords = TClass name (trees_of bases) (named_entries keywords) (named_entries body)

unfoldable mutual
  -- the expression that a value spells
  pub expr_of : Data → Option Tree
  expr_of null = Some (TConst LNone)
  expr_of (boolean false) = Some (TConst LFalse)
  expr_of (boolean true) = Some (TConst LTrue)
  expr_of (number n) = option_map (λ z. TConst (LInt z)) (as_i64 n)
  expr_of (string s) = Some (TConst (LText s))
  expr_of (array ds) = array_of ds
  expr_of (object ms) = None

  -- an array is the word of a form, and what the form takes
  pub array_of : Items → Option Tree
  array_of no_items = None
  array_of (item head ds) = option_and_then (λ word.
      if bytes_eq word (codes "name") then name_of ds
      else (if bytes_eq word (codes "op") then op_of ds
      else (if bytes_eq word (codes "attr") then attr_of ds
      else (if bytes_eq word (codes "call") then call_of ds
      else (if bytes_eq word (codes "seq") then option_map seq (exprs_of ds)
      else (if bytes_eq word (codes "bind") then bind_of ds
      else (if bytes_eq word (codes "setattr") then setattr_of ds
      else (if bytes_eq word (codes "tuple") then option_map tuple (exprs_of ds)
      else (if bytes_eq word (codes "list") then option_map list (exprs_of ds)
      else (if bytes_eq word (codes "dict") then option_map dict (pairs_in ds)
      else (if bytes_eq word (codes "func") then func_of false ds
      else (if bytes_eq word (codes "func*") then func_of true ds
      else (if bytes_eq word (codes "delattr") then delattr_of ds
      else (if bytes_eq word (codes "if") then if_of ds
      else (if bytes_eq word (codes "raise") then raise_of ds
      else (if bytes_eq word (codes "class") then class_of ds
      else None)))))))))))))))) (as_str head)

  -- a name
  pub name_of : Items → Option Tree
  name_of (item n no_items) = option_map TName (as_str n)
  name_of _ = None

  -- a name, and the expression whose value is bound to it
  pub bind_of : Items → Option Tree
  bind_of (item n (item e no_items)) = of_two TBind (as_str n) (expr_of e)
  bind_of _ = None

  -- a name, the parameters, of which the last one may take the rest of the arguments, and the body
  pub func_of : Bool → Items → Option Tree
  func_of rest (item n (item ps (item e no_items))) = of_three (func rest) (as_str n) (params_of rest ps) (expr_of e)
  func_of rest _ = None

  -- an object, and the name of an attribute
  pub attr_of : Items → Option Tree
  attr_of (item o (item n no_items)) = of_two TAttr (expr_of o) (as_str n)
  attr_of _ = None

  -- an object, the name of an attribute, and what it is set to
  pub setattr_of : Items → Option Tree
  setattr_of (item o (item n (item e no_items))) = of_three TSetAttr (expr_of o) (as_str n) (expr_of e)
  setattr_of _ = None

  -- an object, and the name of an attribute that is taken out
  pub delattr_of : Items → Option Tree
  delattr_of (item o (item n no_items)) = of_two TDelAttr (expr_of o) (as_str n)
  delattr_of _ = None

  -- what is called, the arguments, and the keywords
  pub call_of : Items → Option Tree
  call_of (item f (item list rest)) = of_three call (expr_of f) (list_of list) (keywords_of rest)
  call_of _ = None

  -- the word of an operation, and its operands
  pub op_of : Items → Option Tree
  op_of (item w es) = operation (operation_of w) (exprs_of es)
  op_of no_items = None

  -- a condition, and what is evaluated where it is true and where it isn't
  pub if_of : Items → Option Tree
  if_of (item c (item a (item b no_items))) = of_three TIf (expr_of c) (expr_of a) (expr_of b)
  if_of _ = None

  -- the kind of the fault
  pub raise_of : Items → Option Tree
  raise_of (item k no_items) = option_map TRaise (option_and_then kind_named (as_str k))
  raise_of _ = None

  -- a name, the bases, the entries of the body, and the keywords
  pub class_of : Items → Option Tree
  class_of (item n (item bs (item es rest))) = of_four class (as_str n) (list_of bs) (body_of es) (keywords_of rest)
  class_of _ = None

  -- nothing more, or a list of keywords
  pub keywords_of : Items → Option (List Named)
  keywords_of no_items = Some []
  keywords_of (item d no_items) = body_of d
  keywords_of _ = None

  -- a list of expressions
  pub list_of : Data → Option (List Tree)
  list_of (array ds) = exprs_of ds
  list_of _ = None

  pub exprs_of : Items → Option (List Tree)
  exprs_of no_items = Some []
  exprs_of (item d ds) = of_two ◌∷◌ (expr_of d) (exprs_of ds)

  -- the pairs of a dict: each is an array of a key and a value
  pub pairs_in : Items → Option (List (Tree × Tree))
  pairs_in no_items = Some []
  pairs_in (item d ds) = of_two ◌∷◌ (pair_in d) (pairs_in ds)

  pub pair_in : Data → Option (Tree × Tree)
  pair_in (array ds) = paired_of ds
  pair_in _ = None

  pub paired_of : Items → Option (Tree × Tree)
  paired_of (item k (item e no_items)) = of_two pair (expr_of k) (expr_of e)
  paired_of _ = None

  -- a list of entries
  pub body_of : Data → Option (List Named)
  body_of (array ds) = entries_in ds
  body_of _ = None

  pub entries_in : Items → Option (List Named)
  entries_in no_items = Some []
  entries_in (item d ds) = of_two ◌∷◌ (entry_of d) (entries_in ds)

  -- an entry is an array of a name and an expression
  pub entry_of : Data → Option Named
  entry_of (array ds) = named_of ds
  entry_of _ = None

  pub named_of : Items → Option Named
  named_of (item n (item e no_items)) = of_two pair (as_str n) (expr_of e)
  named_of _ = None
