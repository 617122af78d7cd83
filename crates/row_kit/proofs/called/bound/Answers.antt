use Rattle.row_kit.proofs.Lemmas.{ℕ, zero, suc, List, length, get_or, arith, PyObjectRef, Held, IsNode, AreNodes, Holds}
use Rattle.std.proofs.Common.{◌<◌, ◌∷◌}
use Rattle.row_kit.proofs.called.bound.Goals as goal

first-node : (w : Held) (r : PyObjectRef) (rs : List PyObjectRef) → Holds w (IsNode r) → Holds w (AreNodes rs) → Holds w (AreNodes (r ∷ rs))
unfolding Holds
first-node w r rs h k = λ i d l. one i d l
  where
    one : (i : ℕ) (d : PyObjectRef) → i < length (r ∷ rs) → (get_or (r ∷ rs) i d).0 < length w.nodes
    one zero d l = h
    one (suc i) d l = k i d (omega arith)

pub returns-clause-holds : goal.returns-clause-holds
returns-clause-holds c = λ w h k.
    rw c.in_ok-all.ensures (rw c.deref.ensures.value (first-node w c.args.object c.args.args.items h k))
