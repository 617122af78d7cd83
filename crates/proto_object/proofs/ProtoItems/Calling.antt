-- A mapping's method that was loaded is called with nothing.
use Rattle.proto_object.proofs.Below.{[], Some, None, Ok, refl, Vec, PyObjectRef, PyStrInterned, Method, PyMethod, Ask, DoInvoke, ToAttribute, World, Held, bindings, AllHold, of_method, of_step, no-nodes, Invoked, Loaded, of_items_kept}
use Rattle.std.proofs.Common.{◌≡◌}
use Rattle.py_node.specs.declared.task.PyMethod.TheVariants as method
use Rattle.py_node.specs.declared.task.AttributeTask.TheVariants as attribute
use Rattle.py_node.specs.declared.task.Task.TheVariants as task
use Rattle.proto_object.specs.ProtoItems.Rows.{Resumes}

module _ (args : Vec PyObjectRef) (kw : Vec (PyStrInterned × PyObjectRef)) (no : args.items ≡ []) (none : kw.items ≡ []) where
  pub calls : (w : World) (m : PyMethod) → Resumes Loaded (Ok (Method m)) w w (Ask (task.Attribute (attribute.Invoke m args kw)) Invoked)
  calls w (method.Function a f) = λ t r.
      (r, ((λ i. ToAttribute (DoInvoke (Some a) f (no i) (bindings t (none i)))), refl, λ v s more. refl))
  calls w (method.Attribute f) = λ t r.
      (r, ((λ i. ToAttribute (DoInvoke None f (no i) (bindings t (none i)))), refl, λ v s more. refl))

  pub calls-safe : (w : Held) (m : PyMethod) → AllHold w (of_method m) → AllHold w (of_step of_items_kept (Ask (task.Attribute (attribute.Invoke m args kw)) Invoked))
  calls-safe w (method.Function a f) h = (h.0, (h.1.0, (rw no (no-nodes w), rw none tt)))
  calls-safe w (method.Attribute f) h = (h.0, (rw no (no-nodes w), rw none tt))
