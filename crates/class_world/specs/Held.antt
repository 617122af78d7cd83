-- What a world holds.
use Rattle.class_world.specs.Below.{ℕ, List, length, PyObjectRef, PyStrInterned, Node, Form, Started, Class, Numbered, Change}
use Rattle.class_world.specs.declared.scope.Scope.{Scope}

-- the tables of names and of expressions, the nodes, the classes, the variables, the scopes of running bodies, the bodies that were started, and the changes of classes that were accepted, in order
pub record Held : Type 0 where
  pub names : List (List ℕ)
  pub forms : List Form
  pub nodes : List Node
  pub classes : List (Class PyStrInterned)
  pub vars : List (PyStrInterned × PyObjectRef)
  pub scopes : List Scope
  pub calls : List Started
  pub log : List Change

-- the classes, and the number of the next node
abbrev pub numbered : Held → Numbered
numbered w = (w.classes, length w.nodes)
