-- What the contracts of the rows of items, slices and mappings say.
use Rattle.proto_object.specs.Below.{List, [], Option, Some, None, Result, Ok, Raised as Fault, PyObjectRef, SeqItem, Answer, Value, Exhausted, ProtocolTask, Step, DoInvoke, ToAttribute, AList, the_list, Answered, Ended, start, ask, end, make, on_value, slot_at, all_items, World, Reading, protocol_job, Group, Point, Claim, AreNodes, IsNode}
use Rattle.std.specs.Prelude.{◌∷◌}
use Rattle.row_kit.specs.Points as points
use Rattle.proto_object.specs.declared.proto_items.ItemsKept.{ItemsKept}
use Rattle.proto_object.specs.declared.proto_items.ItemsKept.TheVariants.{Pass, AfterIndex, AfterClass, Ending, Loaded, Invoked, Iterating, Gathering}
use Rattle.proto_object.specs.ProtoItems.Items.{class_item, ends_done, item_by}
use Rattle.proto_object.specs.ProtoItems.Say.{items_job_say}
use Rattle.proto_object.specs.ProtoItems.Views.{listed, on_iterable, on_method}

-- what is done with the answer where this is kept
abbrev pub items_stands : Reading → ItemsKept → Ended → Point
items_stands t Pass r w = end w r
items_stands t (AfterIndex o) r w = on_value w r (λ i. start (item_by w (slot_at w o SeqItem) o i) (end w))
items_stands t (AfterClass k) r w = class_item w k r
items_stands t Ending r w = ends_done w r
items_stands t Loaded r w = on_method w r (λ target f. ask w (ToAttribute (DoInvoke target f [] [])) (λ s. on_value w s (listed w)))
items_stands t Invoked r w = on_value w r (listed w)
items_stands t Iterating r w = on_iterable w r (λ it. all_items w it [] (λ rs. make w the_list (AList rs)))
items_stands t (Gathering it rs) r w = λ told. all_items w it rs.items (λ rs. make w the_list (AList rs)) (Answered r ∷ told)

-- an item that an iteration gives, or that it gives no more
abbrev pub item_answer : Option PyObjectRef → Result Answer Fault
item_answer (Some r) = Ok (Value r)
item_answer None = Ok Exhausted

-- what is said of what is kept
abbrev pub of_items_kept : ItemsKept → List Claim
of_items_kept (AfterIndex o) = IsNode o ∷ []
of_items_kept (AfterClass k) = IsNode k ∷ []
of_items_kept (Gathering it rs) = IsNode it ∷ AreNodes rs.items ∷ []
of_items_kept _ = []

-- the group: the row of a task, and what is done with an answer
abbrev pub items_group : Group ProtocolTask ItemsKept
items_group = record { row = λ t task w. items_job_say w (protocol_job task); stands = items_stands }

abbrev pub Begins : ProtocolTask → World → World → Step ItemsKept → Type 0
Begins = points.Begins items_group

abbrev pub Resumes : ItemsKept → Result Answer Fault → World → World → Step ItemsKept → Type 0
Resumes = points.Resumes items_group
