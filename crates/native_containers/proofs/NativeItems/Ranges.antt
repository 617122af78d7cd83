-- Parts of lists of nodes, and such lists with others in the place of some.
use Rattle.native_containers.proofs.Below.{ℕ, zero, suc, List, [], arith, length, take, drop, max, slice_get, slice_range, slice_set, All-append, All-drop, All-set, All-take, PyObjectRef, Held, AllHold, AreNodes, Holds, IsNode, item_found, put_between, of_found}
use Rattle.std.proofs.Common.{◌<◌, ◌-◌, ◌∷◌, ◌++◌}

module _ (w : Held) (rs : List PyObjectRef) (h : Holds w (AreNodes rs)) where
  pub range-nodes : (start stop : ℕ) → Holds w (AreNodes (slice_range rs start stop))
  unfolding Holds
  range-nodes start stop = All-take (λ r. r.0 < length w.nodes) (stop - start) (drop start rs) (All-drop (λ r. r.0 < length w.nodes) start rs h)

  pub put-nodes : (start stop : ℕ) (ss : List PyObjectRef) → Holds w (AreNodes ss) → Holds w (AreNodes (put_between start stop rs ss))
  unfolding Holds
  put-nodes start stop ss k =
      All-append (λ r. r.0 < length w.nodes) (take start rs) (ss ++ drop (max start stop) rs) (All-take (λ r. r.0 < length w.nodes) start rs h)
      (All-append (λ r. r.0 < length w.nodes) ss (drop (max start stop) rs) k (All-drop (λ r. r.0 < length w.nodes) (max start stop) rs h))

  pub set-nodes : (i : ℕ) (r : PyObjectRef) → Holds w (IsNode r) → Holds w (AreNodes (slice_set rs i r))
  unfolding Holds
  set-nodes i r k = All-set (λ r. r.0 < length w.nodes) rs i r k h

  pub without-nodes : (i : ℕ) → Holds w (AreNodes (take i rs ++ drop (suc i) rs))
  unfolding Holds
  without-nodes i =
      All-append (λ r. r.0 < length w.nodes) (take i rs) (drop (suc i) rs) (All-take (λ r. r.0 < length w.nodes) i rs h) (All-drop (λ r. r.0 < length w.nodes) (suc i) rs h)

  pub both-nodes : (ss : List PyObjectRef) → Holds w (AreNodes ss) → Holds w (AreNodes (rs ++ ss))
  unfolding Holds
  both-nodes ss k = All-append (λ r. r.0 < length w.nodes) rs ss h k

-- the item at a place
pub found-holds : (w : Held) (rs : List PyObjectRef) (n : ℕ) → Holds w (AreNodes rs) → AllHold w (of_found (item_found (slice_get rs n)))
unfolding Holds
found-holds w [] zero h = tt
found-holds w [] (suc n) h = tt
found-holds w (r ∷ rs) zero h = (h 0 r (omega arith), tt)
found-holds w (r ∷ rs) (suc n) h = found-holds w rs n (λ i d l. h (suc i) d (omega arith))
