-- Items of lists of nodes.
use Rattle.class_world.proofs.Below.{ℕ, List, length, slice_index_or, PyObjectRef, Held, IsNode, AreNodes, Holds}
use Rattle.std.proofs.Common.{◌<◌}

pub item_holds : (w : Held) (rs : List PyObjectRef) (i : ℕ) (d : PyObjectRef) → i < length rs → Holds w (AreNodes rs) → Holds w (IsNode (slice_index_or rs i d))
unfolding Holds
item_holds w rs i d l h = h i d l
