-- Objects that are there, one by one and as a list.
use Rattle.row_kit.proofs.Below.{ℕ, zero, suc, List, [], length, arith, get_or, PyObjectRef, Held, IsNode, AreNodes, Holds, AllHold, of_each, of_node_ref, no-nodes}
use Rattle.std.proofs.Common.{◌<◌, ◌∷◌, ◌++◌}

pub first_node : (w : Held) (r : PyObjectRef) (rs : List PyObjectRef) → Holds w (IsNode r) → Holds w (AreNodes rs) → Holds w (AreNodes (r ∷ rs))
unfolding Holds
first_node w r rs h k = go
  where
    go : (i : ℕ) (d : PyObjectRef) → i < length (r ∷ rs) → (get_or (r ∷ rs) i d).0 < length w.nodes
    go zero d l = h
    go (suc i) d l = k i d (omega arith)

pub all_nodes : (w : Held) (rs : List PyObjectRef) → AllHold w (of_each of_node_ref rs) → Holds w (AreNodes rs)
all_nodes w [] h = no-nodes w
all_nodes w (r ∷ rs) h = first_node w r rs h.0 (all_nodes w rs h.1)
