-- How all items of an iteration are collected.
use Rattle.proto_object.proofs.Below.{true, false, List, [], Result, Ok, refl, nat_le, Vec, TooLong, PyObjectRef, Answer, Value, Exhausted, Objects, Raised as Fault, Ask, End, PlainWorld, Row, end, fault, most_items, value, Reading, ended_of, plain, World, objects, Collecting, IsNoItem, Resumes, iter_group, iter_stands, asks-follow, ends-follow}
use Rattle.std.proofs.Common.{◌≡◌, ◌∷◌, ◌++◌}
use Rattle.std.specs.Prelude.{length}
use Rattle.py_node.specs.declared.protocol.ProtocolTask.TheVariants as protocol
use Rattle.py_node.specs.declared.task.Task.TheVariants as task
use Rattle.proto_object.proofs.AllItems.{item-given, item-told, none-given}

abbrev objects_end : PlainWorld → List PyObjectRef → Row
objects_end u rs = end u (objects rs)

module _ (it : PyObjectRef) (items : Vec PyObjectRef) where
  -- one more item was given, and there is room for it
  pub asks-more : (more : Vec PyObjectRef) (v : PyObjectRef) (w : World) → more.items ≡ items.items ++ v ∷ [] → nat_le (length more.items) most_items ≡ true → Resumes (Collecting it items) (Ok (Value v)) w w (Ask (task.Protocol (protocol.Next it)) (Collecting it more))
  asks-more more v w e room =
      let row = λ (t : Reading). iter_stands t (Collecting it items) (value v) in
      asks-follow iter_group row (λ t u. row t u []) w w [] (task.Protocol (protocol.Next it)) (Collecting it more) (λ t q. let u = plain t w in (q, item-given u it (objects_end u) items.items v more.items e true room)) (λ t u r told. item-told u it (objects_end u) items.items v more.items e r told)

  -- or there is not
  pub ends-long : (more : Vec PyObjectRef) (v : PyObjectRef) (w : World) → more.items ≡ items.items ++ v ∷ [] → nat_le (length more.items) most_items ≡ false → Resumes (Collecting it items) (Ok (Value v)) w w (End (fault TooLong))
  ends-long more v w e room =
      let row = λ (t : Reading). iter_stands t (Collecting it items) (value v) in
      ends-follow iter_group row (λ t u. row t u []) w w (fault TooLong) (λ t q. let u = plain t w in (q, item-given u it (objects_end u) items.items v more.items e false room))

  -- there is no item any more
  pub ends-all : (w : World) → Resumes (Collecting it items) (Ok Exhausted) w w (End (Ok (Objects items)))
  ends-all w = λ t q. (q, (refl, refl))

  -- another answer ends it
  pub ends-other : (r : Result Answer Fault) (w : World) → IsNoItem r → Resumes (Collecting it items) r w w (End r)
  ends-other r w is =
      let row = λ (t : Reading). iter_stands t (Collecting it items) (ended_of r) in
      ends-follow iter_group row (λ t u. row t u []) w w r (λ t q. let u = plain t w in (q, none-given u it (objects_end u) items.items r is))
