-- Arguments that are nodes.
use Rattle.proto_attr.proofs.Below.{ℕ, zero, suc, List, [], length, get_or, arith, PyObjectRef, Held, Claim, IsNode, AreNodes, Holds, AllHold, all-append}
use Rattle.std.proofs.Common.{◌<◌, ◌∷◌, ◌++◌}

-- a node before the others
pub first-node : (w : Held) (r : PyObjectRef) (rs : List PyObjectRef) → Holds w (IsNode r) → Holds w (AreNodes rs) → Holds w (AreNodes (r ∷ rs))
unfolding Holds
first-node w r rs h k = go
  where
    go : (i : ℕ) (d : PyObjectRef) → i < length (r ∷ rs) → (get_or (r ∷ rs) i d).0 < length w.nodes
    go zero d l = h
    go (suc i) d l = k i d (omega arith)

-- a list of claims, and no more
pub claims-alone : (w : Held) (cs : List Claim) → AllHold w cs → AllHold w (cs ++ [])
claims-alone w cs h = all-append w cs [] h tt
