-- The changes of a plain world. Each touches what it names, and nothing else.
use Rattle.plain_machine.specs.Below.{ℕ, cond, eqb, List, Option, Some, None, PyObjectRef, Text, Class, without_class_attr, with_class_name, with_bases}
use Rattle.std.specs.Prelude.{◌&&◌}
use Rattle.plain_machine.specs.Plain.{Datum, Places, Node, PlainWorld}
use Rattle.plain_machine.specs.World.{is_text, with_node, with_node_changed, with_binding, with_own_attr, with_new_class}

pub data Change : Type 0 where
  -- a new node of a class, after its dict where the class gives it one
  MakeNode : ℕ → Datum → Change
  -- a new class of a metaclass, and its node, which has no dict
  MakeClass : ℕ → Class Text → Change
  -- a variable of the running body, or else of the machine
  Bind : Text → PyObjectRef → Change
  -- an own attribute of a class: set, in its place or last, or taken out
  SetOwn : ℕ → Text → Option PyObjectRef → Change
  -- the bases of a class
  SetBases : ℕ → List ℕ → Change
  -- the name of a class
  SetName : ℕ → Text → Change
  -- the class of an object
  SetClass : PyObjectRef → ℕ → Change
  -- a place of an object, by its solid class and its index: set, or emptied
  SetMember : PyObjectRef → ℕ × ℕ → Option PyObjectRef → Change
  -- the dict of an object
  SetDict : PyObjectRef → PyObjectRef → Change
  -- what an object holds
  SetDatum : PyObjectRef → Datum → Change

-- one place written, or emptied
abbrev pub with_place : Places → ℕ → ℕ → Option PyObjectRef → Places
with_place members c i v = λ d j. cond (eqb d c && eqb j i) v (members d j)

-- one node changed
abbrev pub with_object_changed : PlainWorld → (Node → Node) → PyObjectRef → PlainWorld
with_object_changed w f r = record w { nodes = with_node_changed f w.nodes r.0 }

abbrev pub without_own_attr : PlainWorld → ℕ → Text → PlainWorld
without_own_attr w c x = record w { classes = without_class_attr is_text w.classes c x }

abbrev pub apply : PlainWorld → Change → PlainWorld
apply w (MakeNode c d) = with_node w c d
apply w (MakeClass meta k) = with_new_class w meta k
apply w (Bind x r) = with_binding w x r
apply w (SetOwn c x None) = without_own_attr w c x
apply w (SetOwn c x (Some r)) = with_own_attr w c x r
apply w (SetBases c bs) = record w { classes = with_bases w.classes c bs }
apply w (SetName c x) = record w { classes = with_class_name w.classes c x }
apply w (SetClass r c) = with_object_changed w (λ n. record n { class = c }) r
apply w (SetMember r p v) = with_object_changed w (λ n. record n { members = with_place n.members p.0 p.1 v }) r
apply w (SetDict r d) = with_object_changed w (λ n. record n { dict = Some d }) r
apply w (SetDatum r d) = with_object_changed w (λ n. record n { datum = d }) r
