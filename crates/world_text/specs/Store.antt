-- What is in the store of a world, and a store that has more.
use Rattle.world_text.specs.Below.{List, map, ExprRef, PyStrInterned, Form, Text, Tree, Held, Reading, Reads, form_tree, plain, IsName, AreNames, IsExpression, AreExpressions, Holds, AllHold, Grows, of_form}
use Rattle.std.specs.Prelude.{◌≡◌}

-- a world with more names and expressions: it says the same, and what reads it reads the old one
pub record Adds (old new : Held) : Type 0 where
  pub same : (t : Reading) → plain t new ≡ plain t old
  pub reads : (t : Reading) → Reads t new → Reads t old
  pub grows : Grows old new

-- a name that is spelled so
pub record HasName (w : Held) (x : PyStrInterned) (text : Text) : Type 0 where
  pub there : Holds w (IsName x)
  pub read : (t : Reading) → Reads t w → t.text x.0 ≡ text

pub record HasNames (w : Held) (xs : List PyStrInterned) (texts : List Text) : Type 0 where
  pub there : Holds w (AreNames xs)
  pub read : (t : Reading) → Reads t w → map (λ x. t.text x.0) xs ≡ texts

-- an expression that stands for the tree
pub record HasTree (w : Held) (n : ExprRef) (e : Tree) : Type 0 where
  pub there : Holds w (IsExpression n)
  pub read : (t : Reading) → Reads t w → t.tree n.0 ≡ e

pub record HasTrees (w : Held) (ns : List ExprRef) (es : List Tree) : Type 0 where
  pub there : Holds w (AreExpressions ns)
  pub read : (t : Reading) → Reads t w → map (λ n. t.tree n.0) ns ≡ es

-- keys with their values
pub record HasPairs (w : Held) (ps : List (ExprRef × ExprRef)) (es : List (Tree × Tree)) : Type 0 where
  pub keys : Holds w (AreExpressions (map (λ p. p.0) ps))
  pub values : Holds w (AreExpressions (map (λ p. p.1) ps))
  pub read : (t : Reading) → Reads t w → map (λ p. (t.tree p.0.0, t.tree p.1.0)) ps ≡ es

-- names with their expressions
pub record HasEntries (w : Held) (xs : List (PyStrInterned × ExprRef)) (es : List (Text × Tree)) : Type 0 where
  pub names : Holds w (AreNames (map (λ e. e.0) xs))
  pub values : Holds w (AreExpressions (map (λ e. e.1) xs))
  pub read : (t : Reading) → Reads t w → map (λ e. (t.text e.0.0, t.tree e.1.0)) xs ≡ es

-- what is to be stored, whose parts are there, would stand for the tree
pub record HasForm (w : Held) (f : Form) (e : Tree) : Type 0 where
  pub there : AllHold w (of_form f)
  pub read : (t : Reading) → Reads t w → form_tree t.text t.tree f ≡ e
