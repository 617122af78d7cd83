-- Rows that go over items one after another, and what rows do with answers that are no objects.
use Rattle.row_kit.specs.Below.{ℕ, ℤ, Bool, true, false, cond, nat_le, length, List, [], Result, Ok, Err, PyObjectRef, TooLong, PlainWorld, DoBoolEq, DoNext, PlainTask, ToCompare, ToProtocol, AsValue, AsNumber, AsTruth, AsObjects, AsExhausted, Ended, Answered, Said, Ends, Row, ask, pass, end, fault, on_value, on_truth, on_number, most_items}
use Rattle.std.specs.Prelude.{◌∷◌, ◌++◌}

-- a truth value, a number or a list of objects, as the answer of a row
abbrev pub says : Bool → Ended
says b = Ok (AsTruth b)

abbrev pub number : ℤ → Ended
number z = Ok (AsNumber z)

abbrev pub objects : List PyObjectRef → Ended
objects rs = Ok (AsObjects rs)

-- goes on with a list of objects. A row that gets any other answer ends with it
abbrev pub on_objects : PlainWorld → Ended → (List PyObjectRef → Row) → Row
on_objects w (Ok (AsObjects rs)) go = go rs
on_objects w other go = end w other

-- over a list: one task for each object, in order

-- ends as it does whether the task's answer is true for one of them: those after the first such are not asked
abbrev pub any_of : PlainWorld → (PyObjectRef → PlainTask) → (Bool → Ended) → List PyObjectRef → Row
any_of w task ends [] = end w (ends false)
any_of w task ends (r ∷ rs) = ask w (task r) (λ s. on_truth w s (λ b. cond b (end w (ends true)) (any_of w task ends rs)))

-- goes on with the objects that the tasks answer
abbrev pub each_value : PlainWorld → (PyObjectRef → PlainTask) → List PyObjectRef → (List PyObjectRef → Row) → Row
each_value w task [] go = go []
each_value w task (r ∷ rs) go = ask w (task r) (λ s. on_value w s (λ v. each_value w task rs (λ vs. go (v ∷ vs))))

-- goes on with what the numbers that the tasks answer come to, one after another
abbrev pub each_number : PlainWorld → (PyObjectRef → PlainTask) → (ℤ → ℤ → ℤ) → ℤ → List PyObjectRef → (ℤ → Row) → Row
each_number w task f z [] go = go z
each_number w task f z (r ∷ rs) go = ask w (task r) (λ s. on_number w s (λ n. each_number w task f (f z n) rs go))

-- over an iteration: its next item is asked for until it is exhausted

-- goes on with all items, those so far first. Where there are more than a list can have, it ends
abbrev pub all_items : PlainWorld → PyObjectRef → List PyObjectRef → (List PyObjectRef → Row) → Row
all_items w it rs go (Answered (Ok (AsValue v)) ∷ more) = all_items w it (rs ++ v ∷ []) go more
all_items w it rs go (Answered (Ok AsExhausted) ∷ more) = go rs more
all_items w it rs go (Answered r ∷ more) = Ends w r
all_items w it rs go _ = cond (nat_le (length rs) most_items) (pass w (ToProtocol (DoNext it))) (Ends w (fault TooLong))

-- the number that a search goes on with, or how it ends
abbrev pub turned : PlainWorld → Result ℕ Ended → (ℕ → Said) → Said
turned w (Ok n) go = go n
turned w (Err r) go = Ends w r

-- each item is asked whether it equals an object, and a number goes on from one to the next
abbrev pub each_equal : PlainWorld → PyObjectRef → PyObjectRef → (ℕ → Bool → Result ℕ Ended) → (ℕ → Ended) → ℕ → Row
each_equal w it x turn last n (Answered (Ok (AsValue v)) ∷ (Answered (Ok (AsTruth b)) ∷ more)) =
    turned w (turn n b) (λ m. each_equal w it x turn last m more)
each_equal w it x turn last n (Answered (Ok (AsValue v)) ∷ (Answered r ∷ more)) = Ends w r
each_equal w it x turn last n (Answered (Ok (AsValue v)) ∷ more) = pass w (ToCompare (DoBoolEq v x))
each_equal w it x turn last n (Answered (Ok AsExhausted) ∷ more) = Ends w (last n)
each_equal w it x turn last n (Answered r ∷ more) = Ends w r
each_equal w it x turn last n _ = pass w (ToProtocol (DoNext it))
