-- The commands that are generated from a seed: eight classes are made, each but the first below one of those before it; then their objects are added, and the classes are changed.
use Rattle.generator.specs.Below.{ℕ, pos, false, List, [], map, codes, range_with_len, decimal, Binary, Add, Text, Tree, Trees, trees_of, no_trees, no_entries, TConst, TName, TBind, TTuple, TFunc, TSetAttr, TCall, TOp, TClass, LInt}
use Rattle.std.specs.Prelude.{◌+◌, ◌-◌, ◌*◌, ◌==◌, ◌∷◌, ◌++◌, if◌then◌else◌}
use Rattle.generator.specs.Draws.{after, draw}

-- the name of class number i
abbrev pub name : ℕ → Text
name i = codes "K" ++ decimal i

-- the base of class number i: one that is drawn of the classes before it
abbrev pub base : ℕ → ℕ → Trees
base x i = if i == 0 then no_trees else trees_of (TName (name (draw 1 x i)) ∷ [])

-- class number i is made and bound to its name; x is the state before its draw
unfoldable pub class_command : ℕ → ℕ → Tree
class_command x i = TBind (name i) (TClass (name i) (base x i) no_entries no_entries)

abbrev pub integer : ℕ → Tree
integer i = TConst (LInt (pos i))

-- a new object of a class
abbrev pub object_of : ℕ → Tree
object_of p = TCall (TName (name p)) no_trees no_entries

-- objects of two classes are added
abbrev pub sum : ℕ → ℕ → Tree
sum p q = TOp (Binary Add) (trees_of (object_of p ∷ object_of q ∷ []))

-- an attribute of a class is set
abbrev pub set : ℕ → Text → Tree → Tree
set p x e = TSetAttr (TName (name p)) x e

-- a function of two parameters that gives i
abbrev pub adder : ℕ → Tree
adder i = TFunc (codes "add") (codes "s" ∷ codes "o" ∷ []) false (integer i)

-- what is done with the classes p and q, by a draw t of four
abbrev pub change : ℕ → ℕ → ℕ → ℕ → Tree
change t p q i =
    if t == 0 then sum p q
    else if t == 1 then set p (codes "__add__") (adder i)
    else if t == 2 then set p (codes "__bases__") (TTuple (trees_of (TName (name q) ∷ [])))
    else set p (codes "x") (integer i)

-- change number i, of three draws; x is the state before them
unfoldable pub change_command : ℕ → ℕ → Tree
change_command x i = change (draw 1 x 4) (draw 2 x 8) (draw 3 x 8) i

-- all commands of a seed: seven draws make the eight classes, and three draws each of so many changes
unfoldable pub generated : ℕ → ℕ → List Tree
generated seed count =
    map (λ i. class_command (after (i - 1) seed) i) (range_with_len 0 8) ++ map (λ i. change_command (after (7 + 3 * i) seed) i) (range_with_len 0 count)
