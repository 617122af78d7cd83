-- What the contracts of the natives of items say.
use Rattle.native_containers.specs.Below.{ℕ, drop, false, List, [], Result, Ok, Option, Some, None, Vec, PyObjectRef, PyStrInterned, Raised as Fault, NativeEntry, OfTuple, OfList, IdEq, Answer, Value, Task, Step, Ask, End, PlainWorld, Bindings, ToNative, ReadObjects, Told, Said, truth, World, Reading, bindings, task_of, Claim, IsNode, AreNodes, Holding, Kind, tuple_made, list_made, items_at, Ended, on_truth, cond, end, value, true, datum_at}
use Rattle.std.specs.Prelude.{◌+◌, ◌∷◌}
use Rattle.py_node.specs.declared.built_in.BuiltIn.TheVariants as built_in
use Rattle.py_node.specs.declared.entry.TupleNative.TheVariants as tuple
use Rattle.py_node.specs.declared.entry.ListNative.TheVariants as list
use Rattle.py_node.specs.declared.task.Task.TheVariants as task
use Rattle.row_kit.specs.Points as points
use Rattle.row_kit.specs.Points.{Group, Point}
use Rattle.row_kit.specs.declared.take_containers.Kind.TheVariants as kind
use Rattle.native_containers.specs.declared.native_items.get.Sequence.{Sequence}
use Rattle.native_containers.specs.declared.native_items.get.Sequence.TheVariants as sequence
use Rattle.native_containers.specs.declared.native_items.next.Found.{Found}
use Rattle.native_containers.specs.declared.native_items.next.Found.TheVariants.{Item}
use Rattle.native_containers.specs.declared.native_items.ItemKept.{ItemKept}
use Rattle.native_containers.specs.declared.native_items.ItemKept.TheVariants.{Getting, GettingCharacter, Setting, Deleting, Extending, Searching, Iterating}
use Rattle.native_containers.specs.NativeItems.Items.{char_rest, chars_at, del_rest, extend_rest, is_among, item_got, set_rest}
use Rattle.native_containers.specs.NativeItems.Iterators.{iterator_in, next_rest}
use Rattle.native_containers.specs.NativeItems.Say.{item_job_say}

-- the items that were read at the start, if they were
abbrev pub stood_told : Option (Vec PyObjectRef) → Told
stood_told None = []
stood_told (Some rs) = ReadObjects rs.items ∷ []

-- those items, or else the items that there are now
abbrev pub items_stood : PlainWorld → Option (Vec PyObjectRef) → PyObjectRef → List PyObjectRef
items_stood w None o = items_at w o
items_stood w (Some rs) o = rs.items

abbrev pub of_stood : Option (Vec PyObjectRef) → List Claim
of_stood None = []
of_stood (Some rs) = AreNodes rs.items ∷ []

-- what is done with the answer where this is kept
abbrev pub item_stands : Reading → ItemKept → Ended → Point
item_stands t (Getting o stood) r w = item_got w (items_stood w stood o) r
item_stands t (GettingCharacter o) r w = char_rest w (chars_at w o) r
item_stands t (Setting o k v stood) r w = set_rest w o k v (items_stood w stood o) r
item_stands t (Deleting o stood) r w = del_rest w o (items_stood w stood o) r
item_stands t (Extending o stood) r w = extend_rest w o (items_stood w stood o) r
item_stands t (Searching x items next) r w =
    on_truth w r (λ b. cond b (end w (value (truth true))) (is_among w x (drop next items.items)))
item_stands t (Iterating o) r w = next_rest w o (iterator_in (datum_at w o)) r

-- what is said of what is kept
abbrev pub of_item_kept : ItemKept → List Claim
of_item_kept (Getting o stood) = IsNode o ∷ of_stood stood
of_item_kept (GettingCharacter o) = IsNode o ∷ []
of_item_kept (Setting o k v stood) = IsNode o ∷ Holding o built_in.List ∷ IsNode k ∷ IsNode v ∷ of_stood stood
of_item_kept (Deleting o stood) = IsNode o ∷ Holding o built_in.List ∷ of_stood stood
of_item_kept (Extending o stood) = IsNode o ∷ Holding o built_in.List ∷ of_stood stood
of_item_kept (Searching x items next) = IsNode x ∷ AreNodes items.items ∷ []
of_item_kept (Iterating o) = IsNode o ∷ Holding o built_in.Iterator ∷ []

-- the group: the row of a task, and what is done with an answer
abbrev pub item_group : Group Task ItemKept
item_group = record { row = λ t task w. item_job_say w (task_of t task); stands = item_stands }

abbrev pub Begins : Task → World → World → Step ItemKept → Type 0
Begins = points.Begins item_group

abbrev pub Resumes : ItemKept → Result Answer Fault → World → World → Step ItemKept → Type 0
Resumes = points.Resumes item_group

-- the first step of a native
abbrev pub Enters : NativeEntry → List PyObjectRef → List (PyStrInterned × PyObjectRef) → World → World → Step ItemKept → Type 0
Enters n args kw old new step = points.Goes item_group (λ t w. item_job_say w (ToNative n args (bindings t kw))) old new step

-- a native does so with these arguments
abbrev pub Does : NativeEntry → List PyObjectRef → (Reading → PlainWorld → Said) → World → World → Step ItemKept → Type 0
Does n args said old new step =
    (kw : Reading → Bindings) → points.Follows item_group (λ t w. item_job_say w (ToNative n args (kw t))) said old new step

-- what is said of what an object has at a place
abbrev pub of_found : Found → List Claim
of_found (Item r) = IsNode r ∷ []
of_found _ = []

-- a tuple or a list, and its natives
abbrev pub kind_of : Sequence → Kind
kind_of sequence.Tuple = kind.Tuple
kind_of sequence.List = kind.List

abbrev pub made_as : Sequence → PlainWorld → List PyObjectRef → Said
made_as sequence.Tuple w rs = tuple_made w rs
made_as sequence.List w rs = list_made w rs

abbrev pub getter_of : Sequence → NativeEntry
getter_of sequence.Tuple = OfTuple tuple.GetItem
getter_of sequence.List = OfList list.GetItem

abbrev pub searcher_of : Sequence → NativeEntry
searcher_of sequence.Tuple = OfTuple tuple.Contains
searcher_of sequence.List = OfList list.Contains

-- the next item is asked whether it is the object that is looked for
abbrev pub next_asked : PyObjectRef → Vec PyObjectRef → ℕ → Option PyObjectRef → Step ItemKept
next_asked x items next None = End (Ok (Value (truth false)))
next_asked x items next (Some r) = Ask (task.Compare (IdEq r x)) (Searching x items (next + 1))
