-- A row may keep several facts in mind, one after another.
use Rattle.plain_machine.proofs.Below.{ℕ, List, [], refl, PyObjectRef, SlotEntry, Bindings, PlainWorld, PlainTask, Ended, Answered, Read, ReadObjects, ReadNames, Chose, Told, Asks, Row, ask, choose, read_once, read_objects, read_names}
use Rattle.std.proofs.Common.{◌≡◌, ◌∷◌}

-- entries, objects, names and a way that are read in turn, and then a task is asked
abbrev all_of : PlainWorld → List SlotEntry → List PyObjectRef → Bindings → ℕ → PlainTask → (List SlotEntry → List PyObjectRef → Bindings → ℕ → Ended → Row) → Row
all_of w ss rs bs n task go =
    read_once ss (λ ss. read_objects rs (λ rs. read_names bs (λ bs. choose n (λ n. ask w task (go ss rs bs n)))))

-- each is noted, in order
pub all-noted : (w : PlainWorld) (ss : List SlotEntry) (rs : List PyObjectRef) (bs : Bindings) (n : ℕ) (task : PlainTask) (go : List SlotEntry → List PyObjectRef → Bindings → ℕ → Ended → Row) → all_of w ss rs bs n task go [] ≡ Asks w (Read ss ∷ ReadObjects rs ∷ ReadNames bs ∷ Chose n ∷ []) task
all-noted w ss rs bs n task go = refl

-- and at the answer each is as it was noted, whatever it would be by then
pub all-kept : (w : PlainWorld) (ss ss' : List SlotEntry) (rs rs' : List PyObjectRef) (bs bs' : Bindings) (n n' : ℕ) (task : PlainTask) (go : List SlotEntry → List PyObjectRef → Bindings → ℕ → Ended → Row) (r : Ended) (more : Told) → all_of w ss' rs' bs' n' task go (Read ss ∷ ReadObjects rs ∷ ReadNames bs ∷ Chose n ∷ Answered r ∷ more) ≡ go ss rs bs n r more
all-kept w ss ss' rs rs' bs bs' n n' task go r more = refl
