-- A comparison begins as is said of what it takes.
use Rattle.native_containers.proofs.Below.{Ok, Err, IfOk, ap, refl, Vec, CompareNative, NativeEntry, OutOfMemory, PyObjectRef, PyStrInterned, Step, PlainWorld, Said, World, Reading, bindings, ComparedKept, items_compared, with_items, Begins, Compares, compare_native_say, compared_job_say, compared_group, goes-as}
use Rattle.std.proofs.Common.{◌≡◌}
use Rattle.std.specs.Prelude.{Result}
use Rattle.py_node.specs.declared.task.Task.TheVariants as task

module _ (n : NativeEntry) (m : CompareNative) (args : Vec PyObjectRef) (kw : Vec (PyStrInterned × PyObjectRef)) (said : Reading → PlainWorld → Said) (w : World) where
  begins : (step : Step ComparedKept) → ((t : Reading) (u : PlainWorld) → compare_native_say u n args.items (bindings t kw.items) ≡ with_items (said t u) (items_compared u m)) → Compares m said w step → Begins (task.Native n args kw) w w step
  unfolding compared_job_say
  begins step says h =
      goes-as compared_group (λ t u. with_items (said t u) (items_compared u m)) (λ t. compared_group.row t (task.Native n args kw)) (λ t u more. ap (λ row. row more) (says t u)) w w step (h (λ t u. with_items (said t u) (items_compared u m)) (λ t u xs ys more. refl))

  pub begins-ok : (r : Result (Step ComparedKept) OutOfMemory) → ((t : Reading) (u : PlainWorld) → compare_native_say u n args.items (bindings t kw.items) ≡ with_items (said t u) (items_compared u m)) → IfOk r (λ step. Compares m said w step) → IfOk r (λ step. Begins (task.Native n args kw) w w step)
  begins-ok (Ok step) says h = begins step says h
  begins-ok (Err x) says h = tt
