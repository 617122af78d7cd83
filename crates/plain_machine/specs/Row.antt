-- The words that rows are written in.
use Rattle.plain_machine.specs.Below.{ℕ, ℤ, pos, negsuc, Bool, true, false, cond, eqb, nat_le, nat_lt, length, List, [], Option, Some, None, Result, Ok, Err, PyObjectRef, Raised as Fault, Kind, AttributeError, Cause, SelfType, TooLong, SlotEntry, fixed_none, fixed_not_implemented, fixed_false, fixed_true, Tree, raised}
use Rattle.std.specs.Prelude.{◌^◌, ◌∷◌}
use Rattle.plain_machine.specs.Plain.{Datum, Bindings, PlainWorld, DoEval, PlainTask, ToEval, AsValue, AsDone, AsNumber, AsTruth, AsMaybe, Ended, Fact, Answered, Made, Read, ReadObjects, ReadNames, Chose, Told, Said, Asks, Ends}
use Rattle.plain_machine.specs.World.{ref, datum_at, number_of, with_node, next_node}

-- a row, at a point where it has learnt nothing that follows
abbrev pub Row : Type 0
Row = Told → Said

-- does this, and goes on with the answer to what it asked
abbrev pub start : Said → (Ended → Row) → Row
start said go (Answered r ∷ more) = go r more
start said go _ = said

-- does this, having gone one of several ways, and goes on with its number and the answer to what it asked
abbrev pub fork : Said → (ℕ → Ended → Row) → Row
fork said go (Chose way ∷ (Answered r ∷ more)) = go way r more
fork said go _ = said

-- does this, having made a node, and goes on with both and the answer to what it asked; where none was made, it ends as that did
abbrev pub build : PlainWorld → Said → (PyObjectRef → Ended → Row) → Row
build w said go (Made r ∷ (Answered s ∷ more)) = go r s more
build w said go (Answered s ∷ more) = Ends w s
build w said go _ = said

abbrev pub ask : PlainWorld → PlainTask → (Ended → Row) → Row
ask w task go = start (Asks w [] task) go

abbrev pub end : PlainWorld → Ended → Row
end w r told = Ends w r

abbrev pub value : PyObjectRef → Ended
value r = Ok (AsValue r)

abbrev pub done : Ended
done = Ok AsDone

-- None, as an object
abbrev pub none : PyObjectRef
none = ref fixed_none

-- asks this, and ends as it does
abbrev pub pass : PlainWorld → PlainTask → Said
pass w task = Asks w [] task

-- a fault of a cause, which tells its kind
abbrev pub fault : {A : Type 0} → Cause → Result A Fault
fault cause = Err (raised cause)

-- what a row says that is asked for what another group of rows does. No task comes to it: each is handed to its own group
abbrev pub elsewhere : {A : Type 0} → Result A Fault
elsewhere = fault SelfType

-- whether a fault is an AttributeError
abbrev pub is_attribute_error : Kind → Bool
is_attribute_error AttributeError = true
is_attribute_error _ = false

-- goes on with an object. A row that gets any other answer ends with it
abbrev pub on_value : PlainWorld → Ended → (PyObjectRef → Row) → Row
on_value w (Ok (AsValue r)) go = go r
on_value w other go = end w other

-- goes on with a truth value
abbrev pub on_truth : PlainWorld → Ended → (Bool → Row) → Row
on_truth w (Ok (AsTruth b)) go = go b
on_truth w other go = end w other

-- goes on with a number
abbrev pub on_number : PlainWorld → Ended → (ℤ → Row) → Row
on_number w (Ok (AsNumber z)) go = go z
on_number w other go = end w other

-- goes on with an object, or that there is none
abbrev pub on_maybe : PlainWorld → Ended → (Option PyObjectRef → Row) → Row
on_maybe w (Ok (AsMaybe o)) go = go o
on_maybe w other go = end w other

-- goes on unless there was a fault
abbrev pub on_done : PlainWorld → Ended → Row → Row
on_done w (Ok a) go = go
on_done w (Err x) go = end w (Err x)

-- ends with a new node of a class
abbrev pub make : PlainWorld → ℕ → Datum → Row
make w c d = end (with_node w c d) (value (next_node w c))

-- no tuple, list or dict has more items
abbrev pub most_items : ℕ
most_items = 2 ^ 24

-- goes on unless these are too many items
abbrev pub limited : {A : Type 0} → PlainWorld → List A → Row → Row
limited w xs go = cond (nat_le (length xs) most_items) go (end w (fault TooLong))

-- True or False, as an object
abbrev pub truth : Bool → PyObjectRef
truth b = cond b (ref fixed_true) (ref fixed_false)

-- NotImplemented, as an object: what an operator or a comparison gives that is not for its operands
abbrev pub not_implemented : PyObjectRef
not_implemented = ref fixed_not_implemented

abbrev pub is_not_implemented : PyObjectRef → Bool
is_not_implemented r = eqb r.0 fixed_not_implemented

-- goes on where what was asked is not for its operands. Any other object is the answer
abbrev pub or_else : PlainWorld → Ended → Row → Row
or_else w r go = on_value w r (λ x. cond (is_not_implemented x) go (end w (value x)))

-- a number has at most 128 bits, with its sign
abbrev pub fits : ℤ → Bool
fits (pos n) = nat_lt n (2 ^ 127)
fits (negsuc n) = nat_lt n (2 ^ 127)

-- a number that counts, or that is an index, has at most 64 bits with its sign
abbrev pub fits_index : ℤ → Bool
fits_index (pos n) = nat_lt n (2 ^ 63)
fits_index (negsuc n) = nat_lt n (2 ^ 63)

-- goes on with a number of no more bits. Another one is refused with this cause
abbrev pub within_index : PlainWorld → Cause → Option ℤ → (ℤ → Row) → Row
within_index w cause None go = end w (fault SelfType)
within_index w cause (Some z) go = cond (fits_index z) (go z) (end w (fault cause))

-- goes on with the number of an index
abbrev pub on_index : PlainWorld → Cause → Ended → (ℤ → Row) → Row
on_index w cause r go = on_value w r (λ i. within_index w cause (number_of (datum_at w i)) go)

-- keeps a fact in mind
abbrev pub noting : Fact → Said → Said
noting f (Asks w learnt task) = Asks w (f ∷ learnt) task
noting f (Ends w r) = Ends w r

abbrev pub once_told : {A : Type 0} → A → (A → Row) → Fact → Told → Option A → Said
once_told x go f more (Some y) = go y more
once_told x go f more None = go x (f ∷ more)

-- goes on with what is read but once: as it is now, or as it was then, which the next fact tells. What is read so can be read in turn
abbrev pub once : {A : Type 0} → (A → Fact) → (Fact → Option A) → A → (A → Row) → Row
once note of x go [] = noting (note x) (go x [])
once note of x go (f ∷ more) = once_told x go f more (of f)

abbrev pub entries_in : Fact → Option (List SlotEntry)
entries_in (Read ss) = Some ss
entries_in _ = None

abbrev pub objects_in : Fact → Option (List PyObjectRef)
objects_in (ReadObjects rs) = Some rs
objects_in _ = None

abbrev pub names_in : Fact → Option Bindings
names_in (ReadNames bs) = Some bs
names_in _ = None

abbrev pub way_in : Fact → Option ℕ
way_in (Chose way) = Some way
way_in _ = None

abbrev pub read_once : List SlotEntry → (List SlotEntry → Row) → Row
read_once ss go = once Read entries_in ss go

abbrev pub read_objects : List PyObjectRef → (List PyObjectRef → Row) → Row
read_objects rs go = once ReadObjects objects_in rs go

abbrev pub read_names : Bindings → (Bindings → Row) → Row
read_names bs go = once ReadNames names_in bs go

-- chooses one of several ways, and keeps to it
abbrev pub choose : ℕ → (ℕ → Row) → Row
choose way go = once Chose way_in way go

-- evaluates expressions in order, and goes on with their values
abbrev pub evaluate : PlainWorld → List Tree → (List PyObjectRef → Row) → Row
evaluate w [] go = go []
evaluate w (e ∷ es) go = ask w (ToEval (DoEval e)) (λ r. on_value w r (λ v. evaluate w es (λ vs. go (v ∷ vs))))
