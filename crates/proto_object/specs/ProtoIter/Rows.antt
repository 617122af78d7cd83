-- What the contracts of the rows of iterations say.
use Rattle.proto_object.specs.Below.{ℕ, Bool, false, List, [], Option, Some, None, Result, Ok, Raised as Fault, PyObjectRef, Answer, Value, Truth, Exhausted, ProtocolTask, Step, NotFound, PlainWorld, DoIsTrue, ToProtocol, Answered, Ended, Row, start, pass, end, fault, on_truth, on_value, truth_of, World, Reading, protocol_job, Group, Point, Claim, IsNode, AreNodes, says, each_equal, all_items, objects, turned}
use Rattle.std.specs.Prelude.{◌≡◌, ◌^◌, ◌≤◌, ◌⊎◌, ◌∷◌}
use Rattle.row_kit.specs.Points as points
use Rattle.proto_object.specs.declared.proto_iter.IterKept.{IterKept}
use Rattle.proto_object.specs.declared.proto_iter.IterKept.TheVariants.{Pass, AfterIter, AfterNext, Beginning, Collecting, AfterNative, AfterContains, Begun, Next, Equal}
use Rattle.proto_object.specs.declared.proto_iter.seek.Search.{Search}
use Rattle.proto_object.specs.declared.proto_iter.seek.Search.TheVariants as search
use Rattle.proto_object.specs.declared.proto_iter.seek.Seeking.{Seeking}
use Rattle.proto_object.specs.ProtoIter.Iteration.{as_truth, counted, iterator_only, next_rest, one_more, until_found, until_true}
use Rattle.proto_object.specs.ProtoIter.Say.{iter_job_say}

-- how a search goes on at an item that is equal or is not, and how it ends at the last one
abbrev pub turn_of : Search → ℕ → Bool → Result ℕ Ended
turn_of search.Contains n b = until_true n b
turn_of search.Count n b = one_more n b
turn_of search.Find n b = until_found n b

abbrev pub last_of : Search → ℕ → Ended
last_of search.Contains n = says false
last_of search.Count n = counted n
last_of search.Find n = fault NotFound

-- the search from a number on
abbrev pub seeking : PlainWorld → Search → PyObjectRef → PyObjectRef → ℕ → Row
seeking w s it x n = each_equal w it x (turn_of s) (last_of s) n

-- an item was asked whether it is equal
abbrev pub equal_rest : PlainWorld → Seeking → Ended → Row
equal_rest w s r = on_truth w r (λ b told. turned w (turn_of s.search s.number b) (λ n. seeking w s.search s.iterator s.needle n told))

-- numbers of items with which a search goes on alike: they are one, or both are too great to be told
abbrev pub CountsAlike : ℕ → ℕ → Type 0
CountsAlike n m = (n ≡ m) ⊎ ((2 ^ 63 ≤ n) × (2 ^ 63 ≤ m))

-- an answer that is this item, or that there is none, and one that is neither
abbrev pub IsItem : Option PyObjectRef → Result Answer Fault → Type 0
IsItem (Some v) r = r ≡ Ok (Value v)
IsItem None r = r ≡ Ok Exhausted

abbrev pub IsNoItem : Result Answer Fault → Type 0
IsNoItem (Ok (Value v)) = ⊥
IsNoItem (Ok Exhausted) = ⊥
IsNoItem _ = Unit {0}

-- an answer that is no truth value
abbrev pub IsNoTruth : Result Answer Fault → Type 0
IsNoTruth (Ok (Truth b)) = ⊥
IsNoTruth _ = Unit {0}

-- what is done with the answer where this is kept
abbrev pub iter_stands : Reading → IterKept → Ended → Point
iter_stands t Pass r w = end w r
iter_stands t AfterIter r w = on_value w r (iterator_only w)
iter_stands t AfterNext r w = next_rest w r
iter_stands t Beginning r w = on_value w r (λ it. all_items w it [] (λ rs. end w (objects rs)))
iter_stands t (Collecting it items) r w = λ told. all_items w it items.items (λ rs. end w (objects rs)) (Answered r ∷ told)
iter_stands t AfterNative r w = on_value w r (λ v. end w (as_truth (truth_of v) v))
iter_stands t AfterContains r w = on_value w r (λ v. start (pass w (ToProtocol (DoIsTrue v))) (end w))
iter_stands t (Begun s x) r w = on_value w r (λ it. seeking w s it x 0)
iter_stands t (Next s) r w = λ told. seeking w s.search s.iterator s.needle s.number (Answered r ∷ told)
iter_stands t (Equal s) r w = equal_rest w s r

-- what is said of what is kept
abbrev pub of_seeking : Seeking → List Claim
of_seeking s = IsNode s.iterator ∷ IsNode s.needle ∷ []

abbrev pub of_iter_kept : IterKept → List Claim
of_iter_kept (Collecting it items) = IsNode it ∷ AreNodes items.items ∷ []
of_iter_kept (Begun s x) = IsNode x ∷ []
of_iter_kept (Next s) = of_seeking s
of_iter_kept (Equal s) = of_seeking s
of_iter_kept _ = []

-- the group: the row of a task, and what is done with an answer
abbrev pub iter_group : Group ProtocolTask IterKept
iter_group = record { row = λ t task w. iter_job_say w (protocol_job task); stands = iter_stands }

abbrev pub Begins : ProtocolTask → World → World → Step IterKept → Type 0
Begins = points.Begins iter_group

abbrev pub Resumes : IterKept → Result Answer Fault → World → World → Step IterKept → Type 0
Resumes = points.Resumes iter_group
