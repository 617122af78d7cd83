-- What a host is told that asks the machine by a view of an object.
use Rattle.vm_calls.specs.Below.{ℕ, ℤ, true, false, cond, is_some, List, [], length, nat_le, Option, Some, None, Result, Vec, SlotEntry, Cause, NoItemAssignment, NoItemDeletion, TooLong, SetItem, DelItem, Collect, PyObjectRef, Answer, PyResult, Done, Raised, Budget, Task, raised, Out, answer, the_int, the_list, the_tuple, Datum, ANumber, AList, ATuple, PlainWorld, PlainTask, ToProtocol, DoCollect, most_items, with_node, next_node, Held, Reading, Reads, plain, Claim, AreNodes, of_node_ref, RunFault, ending_in, unnoted, of_done, say, State}
use Rattle.std.specs.Prelude.{◌≡◌, ◌∷◌}
use Rattle.py_node.specs.declared.task.Task.TheVariants as task
use Rattle.vm_calls.specs.declared.made.Made.{Made}
use Rattle.vm_calls.specs.declared.made.Made.TheVariants as made
use Rattle.vm_calls.specs.Answers.{AreObjects}
use Rattle.vm_calls.specs.Told.{EndIs, EndsLike, Keeps, Tells, Told}

-- a fault of a cause
abbrev pub lacks : {T : Type 0} → Cause → PyResult T
lacks cause = Raised (raised cause)

-- the call tells this where the view's table has the entry; else it ends so, and no task is asked
pub record ToldIf {T : Type 0} (entry : Option SlotEntry) (other : PyResult T) (Gives : State → State → Result (PyResult T) RunFault → Type 0) (old new : State) (result : Result (PyResult T) RunFault) : Type 0 where
  pub there : is_some entry ≡ true → Gives old new result
  pub absent : is_some entry ≡ false → Keeps other old new result

-- what a mapping does to set the item of a key, or to take it out, and the cause where it can't
abbrev pub item_task : PyObjectRef → PyObjectRef → Option PyObjectRef → Task
item_task o k (Some v) = task.Protocol (SetItem o k v)
item_task o k None = task.Protocol (DelItem o k)

abbrev pub missing_item : Option PyObjectRef → Cause
missing_item (Some v) = NoItemAssignment
missing_item None = NoItemDeletion

-- an object of the class that holds this is made, and nothing else changes
abbrev pub NodeMade : ℕ → (Reading → Datum) → Held → Held → PyObjectRef → Type 0
NodeMade class datum old new r =
    (t : Reading) → Reads t new → Reads t old × (plain t new ≡ with_node (plain t old) class (datum t)) × (r ≡ next_node (plain t old) class)

abbrev pub MakesNode : ℕ → (Reading → Datum) → State → State → Result PyObjectRef RunFault → Type 0
MakesNode class datum = Tells (NodeMade class datum) of_node_ref

-- the same, as a call ends that may also raise
abbrev pub NewIs : ℕ → (Reading → Datum) → Held → Held → PyResult PyObjectRef → Type 0
NewIs class datum old new end = (r : PyObjectRef) × (end ≡ Done r) × NodeMade class datum old new r

abbrev pub TellsNew : ℕ → (Reading → Datum) → State → State → Result (PyResult PyObjectRef) RunFault → Type 0
TellsNew class datum = Tells (NewIs class datum) (of_done of_node_ref)

-- the task of a new whole number, asked with so many units in the world that has it, ended between the worlds
abbrev pub AskedWith : ℤ → (PyObjectRef → PlainTask) → ℕ → Held → Held → PyResult Answer → Type 0
AskedWith z task units old new end =
    (t : Reading) → Reads t new → Reads t old × (left : ℕ) × (unnoted (answer say (with_node (plain t old) the_int (ANumber z)) (task (next_node (plain t old) the_int)) units 0) ≡ Out (plain t new) (ending_in end) left)

abbrev pub ToldWith : {T : Type 0} → (T → Answer → Type 0) → (T → List Claim) → ℤ → (PyObjectRef → PlainTask) → ℕ → State → State → Result (PyResult T) RunFault → Type 0
ToldWith Is of z task units = Tells (EndIs (AskedWith z task units) Is) (of_done of)

abbrev pub of_items : Vec PyObjectRef → List Claim
of_items v = AreNodes v.items ∷ []

-- the items of an object are told
abbrev pub TellsItems : PyObjectRef → ℕ → State → State → Result (PyResult (Vec PyObjectRef)) RunFault → Type 0
TellsItems o = Told AreObjects of_items (task.Protocol (Collect o))

-- of which class it is what is made of items, and what it holds
abbrev pub class_of : Made → ℕ
class_of made.Tuple = the_tuple
class_of made.List = the_list

abbrev pub datum_of : Made → List PyObjectRef → Datum
datum_of made.Tuple rs = ATuple rs
datum_of made.List rs = AList rs

-- an object of the class is made of items, unless they are too many for one: the world then, and how the call ends
abbrev pub made_of : ℕ → (List PyObjectRef → Datum) → PlainWorld → PyResult (Vec PyObjectRef) → PlainWorld × PyResult PyObjectRef
made_of class datum w (Done v) = cond (nat_le (length v.items) most_items) (with_node w class (datum v.items), Done (next_node w class)) (w, lacks TooLong)
made_of class datum w (Raised x) = (w, Raised x)
made_of class datum w Budget = (w, Budget)

-- the items of an object are collected, which leads to some world, and a new object of the class is made of them there
abbrev pub MadeOfItems : ℕ → (List PyObjectRef → Datum) → PyObjectRef → ℕ → Held → Held → PyResult PyObjectRef → Type 0
MadeOfItems class datum o units old new told =
    (items : PyResult (Vec PyObjectRef)) × (end : PyResult Answer) × EndsLike AreObjects items end × ((t : Reading) → Reads t new → Reads t old × (mid : PlainWorld) × (left : ℕ) × (unnoted (answer say (plain t old) (ToProtocol (DoCollect o)) units 0) ≡ Out mid (ending_in end) left) × (made_of class datum mid items ≡ (plain t new, told)))

abbrev pub TellsMadeOf : ℕ → (List PyObjectRef → Datum) → PyObjectRef → ℕ → State → State → Result (PyResult PyObjectRef) RunFault → Type 0
TellsMadeOf class datum o units = Tells (MadeOfItems class datum o units) (of_done of_node_ref)
