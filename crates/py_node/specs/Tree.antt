-- The expressions of scripts, as trees, with texts for the strings of the code.
use Rattle.py_node.specs.Below.{ℕ, ℤ, Bool, List, [], map, String, string_bytes, Global}
use Rattle.std.specs.Prelude.{◌∷◌}
use Rattle.py_node.specs.declared.expr.Constant.{Constant}
use Rattle.py_node.specs.declared.expr.Constant.TheVariants.{None, False, True, Int, Str}
use Rattle.py_node.specs.declared.expr.Word.{Word}
use Rattle.py_node.specs.declared.expr.Expr.{Expr, fold-Expr}
use Rattle.py_node.specs.declared.expr.Expr.TheOpen.{Expr-F}
use Rattle.py_node.specs.declared.raised.Kind.{Kind}

-- a text, by its bytes
abbrev pub Text : Type 0
Text = List ℕ

pub data Literal : Type 0 where
  LNone : Literal
  LFalse : Literal
  LTrue : Literal
  LInt : ℤ → Literal
  LText : Text → Literal

mutual
  pub data Tree : Type 0 where
    TConst : Literal → Tree
    TName : Text → Tree
    TBind : Text → Tree → Tree
    TTuple : Trees → Tree
    TList : Trees → Tree
    TDict : KeyedTrees → Tree
    -- whether the last parameter takes the rest of the arguments stands before the body
    TFunc : Text → List Text → Bool → Tree → Tree
    TAttr : Tree → Text → Tree
    TSetAttr : Tree → Text → Tree → Tree
    TDelAttr : Tree → Text → Tree
    -- what is called, the arguments, and the keywords
    TCall : Tree → Trees → Entries → Tree
    TOp : Word → Trees → Tree
    TIf : Tree → Tree → Tree → Tree
    TSeq : Trees → Tree
    TRaise : Kind → Tree
    -- a name, the bases, the keywords, and the entries of the body
    TClass : Text → Trees → Entries → Entries → Tree

  pub data Trees : Type 0 where
    no_trees : Trees
    tree : Tree → Trees → Trees

  pub data Entries : Type 0 where
    no_entries : Entries
    entry : Text → Tree → Entries → Entries

  pub data KeyedTrees : Type 0 where
    no_keyed : KeyedTrees
    keyed : Tree → Tree → KeyedTrees → KeyedTrees

abbrev pub trees_of : List Tree → Trees
trees_of [] = no_trees
trees_of (e ∷ es) = tree e (trees_of es)

-- the trees, as a list
abbrev pub list_of : Trees → List Tree
list_of no_trees = []
list_of (tree e es) = e ∷ list_of es

-- the trees of entries, as a list
abbrev pub entry_trees : Entries → List Tree
entry_trees no_entries = []
entry_trees (entry x e es) = e ∷ entry_trees es

abbrev pub entries_of : List (String Global × Tree) → Entries
entries_of [] = no_entries
entries_of (e ∷ es) = entry (string_bytes e.0) e.1 (entries_of es)

abbrev pub keyed_of : List (Tree × Tree) → KeyedTrees
keyed_of [] = no_keyed
keyed_of (p ∷ ps) = keyed p.0 p.1 (keyed_of ps)

abbrev pub literal_of : Constant → Literal
literal_of None = LNone
literal_of False = LFalse
literal_of True = LTrue
literal_of (Int z) = LInt z
literal_of (Str s) = LText (string_bytes s)

abbrev pub texts_of : List (String Global) → List Text
texts_of ss = map (λ s. string_bytes s) ss

-- one level of an expression, with the trees of its parts
abbrev pub tree_step : Expr-F Tree → Tree
tree_step (Expr-F.Const k) = TConst (literal_of k)
tree_step (Expr-F.Name x) = TName (string_bytes x)
tree_step (Expr-F.Bind x e) = TBind (string_bytes x) e.value
tree_step (Expr-F.Tuple es) = TTuple (trees_of es.items)
tree_step (Expr-F.List es) = TList (trees_of es.items)
tree_step (Expr-F.Dict ps) = TDict (keyed_of ps.items)
tree_step (Expr-F.Func f) = TFunc (string_bytes f.value.name) (texts_of f.value.params.items) f.value.rest f.value.body
tree_step (Expr-F.Attr o x) = TAttr o.value (string_bytes x)
tree_step (Expr-F.SetAttr s) = TSetAttr s.value.object (string_bytes s.value.name) s.value.value
tree_step (Expr-F.DelAttr o x) = TDelAttr o.value (string_bytes x)
tree_step (Expr-F.Call c) = TCall c.value.function (trees_of c.value.args.items) (entries_of c.value.keywords.items)
tree_step (Expr-F.Op word es) = TOp word (trees_of es.items)
tree_step (Expr-F.If c a b) = TIf c.value a.value b.value
tree_step (Expr-F.Seq es) = TSeq (trees_of es.items)
tree_step (Expr-F.Raise kind) = TRaise kind
tree_step (Expr-F.Class k) =
    TClass (string_bytes k.value.name) (trees_of k.value.bases.items) (entries_of k.value.keywords.items) (entries_of k.value.entries.items)

-- the tree that an expression of the code stands for
abbrev pub tree_of : Expr → Tree
tree_of = fold-Expr Tree tree_step

-- a name's text, with the tree that its expression stands for
abbrev pub part_of : String Global × Expr → Text × Tree
part_of p = (string_bytes p.0, tree_of p.1)

-- a key's tree, with that of its value
abbrev pub pair_of : Expr × Expr → Tree × Tree
pair_of p = (tree_of p.0, tree_of p.1)
