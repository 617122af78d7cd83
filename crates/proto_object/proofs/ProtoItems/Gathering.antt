-- The items of what a mapping's method gave, one after another.
use Rattle.proto_object.proofs.Below.{true, false, List, [], length, Result, Ok, Err, sym, ap, nat_le, Vec, PyObjectRef, Raised as Fault, TooLong, Answer, Value, Exhausted, Ask, End, the_list, AList, PlainWorld, Answered, Row, make, most_items, refl, value, World, Reading, ended_of, plain, EndsAs, list_made, raised, all_items, IsNoItem, Gathering, Iterating, items_group, items_stands, asks-follow, ends-follow}
use Rattle.std.proofs.Common.{◌≡◌, ◌∷◌, ◌++◌}
use Rattle.py_node.specs.declared.protocol.ProtocolTask.TheVariants as protocol
use Rattle.py_node.specs.declared.task.Task.TheVariants as task
use Rattle.proto_object.specs.ProtoItems.Rows.{Resumes}
use Rattle.proto_object.proofs.AllItems.{item-given, item-told, none-given}

-- a new list of the items
abbrev list_row : PlainWorld → List PyObjectRef → Row
list_row u rs = make u the_list (AList rs)

-- an iteration begins, and nothing was given yet
pub first-asked : (w : World) (it : PyObjectRef) (items : Vec PyObjectRef) → items.items ≡ [] → Resumes Iterating (Ok (Value it)) w w (Ask (task.Protocol (protocol.Next it)) (Gathering it items))
first-asked w it items is = λ t q.
    (q, (refl, refl, λ u r more. ap (λ rs. all_items u it rs (list_row u) (Answered r ∷ more)) (sym is)))

module _ (w : World) (it : PyObjectRef) (items : Vec PyObjectRef) where
  pub next-asked : (v : PyObjectRef) (later : Vec PyObjectRef) → later.items ≡ items.items ++ v ∷ [] → nat_le (length later.items) most_items ≡ true → Resumes (Gathering it items) (Ok (Value v)) w w (Ask (task.Protocol (protocol.Next it)) (Gathering it later))
  next-asked v later e room =
      let row = λ (t : Reading). items_stands t (Gathering it items) (value v) in
      asks-follow items_group row (λ t u. row t u []) w w [] (task.Protocol (protocol.Next it)) (Gathering it later) (λ t q. let u = plain t w in (q, item-given u it (list_row u) items.items v later.items e true room)) (λ t u r told. item-told u it (list_row u) items.items v later.items e r told)

  pub too-many : (v : PyObjectRef) (later : Vec PyObjectRef) → later.items ≡ items.items ++ v ∷ [] → nat_le (length later.items) most_items ≡ false → Resumes (Gathering it items) (Ok (Value v)) w w (End (Err (raised TooLong)))
  too-many v later e room =
      let row = λ (t : Reading). items_stands t (Gathering it items) (value v) in
      ends-follow items_group row (λ t u. row t u []) w w (Err (raised TooLong)) (λ t q. let u = plain t w in (q, item-given u it (list_row u) items.items v later.items e false room))

  -- the iteration is over
  pub all-gathered : (new : World) (r : Result Answer Fault) → EndsAs (λ t u. list_made u items.items) w new r → Resumes (Gathering it items) (Ok Exhausted) w new (End r)
  all-gathered new r h = ends-follow items_group (λ t. items_stands t (Gathering it items) (ended_of (Ok Exhausted))) (λ t u. list_made u items.items) w new r h

  -- any other answer is the end
  pub no-item : (r : Result Answer Fault) → IsNoItem r → Resumes (Gathering it items) r w w (End r)
  no-item r is =
      let row = λ (t : Reading). items_stands t (Gathering it items) (ended_of r) in
      ends-follow items_group row (λ t u. row t u []) w w r (λ t q. let u = plain t w in (q, none-given u it (list_row u) items.items r is))
