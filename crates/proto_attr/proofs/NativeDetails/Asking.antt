-- The steps by which a property tells whether it is abstract.
use Rattle.proto_attr.proofs.Below.{List, [], Ok, false, refl, sym, ap, subst, Detail, GetterOf, Isabstractmethod, known_text, PyObjectRef, PyStrInterned, Ask, Task, PlainWorld, PlainTask, Answered, ReadObjects, DoGetAttr, ToAttribute, ToNative, Asks, read_objects, truth, datum_at, World, Reading, Reads, bindings, plain, task_of, Steps, argument, AfterGetter, AfterSetter, AfterBoth, Does, detail_stands, abstract_of, detail_job_say, joined, or_false, property_abstract, setter_at}
use Rattle.std.proofs.Common.{◌≡◌, ◌∷◌, ◌++◌}
use Rattle.py_node.specs.declared.built_in.BuiltIn.TheVariants.{Property}

-- what asks an accessor
abbrev pub whether : PyObjectRef → PlainTask
whether f = ToAttribute (DoGetAttr f (known_text Isabstractmethod))

module _ (w : World) (d : Detail) (args : List PyObjectRef) (kw : List (PyStrInterned × PyObjectRef)) (task : Task) where
  -- the getter is asked
  pub asks-getter : (m f : PyObjectRef) → argument args 0 ≡ m → ((t : Reading) → property_abstract (plain t w) args (bindings t kw) [] ≡ Asks (plain t w) (ReadObjects (f ∷ []) ∷ []) (whether f)) → ((t : Reading) → Reads t w → task_of t task ≡ whether f) → Does (GetterOf Property d) args (λ t. bindings t kw) (λ t u. property_abstract u args (bindings t kw) []) w w (Ask task (AfterGetter m))
  unfolding detail_job_say
  asks-getter m f first says asked = λ t q. (
    q,
    subst (λ s. Steps (detail_stands t) t (λ u. detail_job_say u (ToNative (GetterOf Property d) args (bindings t kw))) s (Ask task (AfterGetter m)) w) (sym (says t)) (
      asked t q,
      refl,
      λ v r more. ap (λ o. read_objects (setter_at (datum_at v o)) (λ ss. abstract_of v ss (λ s. joined v s (or_false r))) more) first,
    ),
  )

  -- where there is no getter, the setter is asked
  pub asks-setter : (g f : PyObjectRef) → truth false ≡ g → ((t : Reading) → property_abstract (plain t w) args (bindings t kw) [] ≡ Asks (plain t w) (ReadObjects [] ∷ (ReadObjects (f ∷ []) ∷ [])) (whether f)) → ((t : Reading) → Reads t w → task_of t task ≡ whether f) → Does (GetterOf Property d) args (λ t. bindings t kw) (λ t u. property_abstract u args (bindings t kw) []) w w (Ask task (AfterSetter g))
  unfolding detail_job_say
  asks-setter g f missing says asked = λ t q. (
    q,
    subst (λ s. Steps (detail_stands t) t (λ u. detail_job_say u (ToNative (GetterOf Property d) args (bindings t kw))) s (Ask task (AfterSetter g)) w) (sym (says t)) (
      asked t q,
      refl,
      λ v r more. ap (λ h. joined v (or_false r) h more) missing,
    ),
  )

  -- where there is neither, two that are missing are joined
  pub asks-both : (asked : PlainTask) → ((t : Reading) → property_abstract (plain t w) args (bindings t kw) [] ≡ Asks (plain t w) (ReadObjects [] ∷ (ReadObjects [] ∷ [])) asked) → ((t : Reading) → task_of t task ≡ asked) → Does (GetterOf Property d) args (λ t. bindings t kw) (λ t u. property_abstract u args (bindings t kw) []) w w (Ask task AfterBoth)
  unfolding detail_job_say
  asks-both asked says is = λ t q. (
    q,
    subst (λ s. Steps (detail_stands t) t (λ u. detail_job_say u (ToNative (GetterOf Property d) args (bindings t kw))) s (Ask task AfterBoth) w) (sym (says t)) (
      is t,
      refl,
      λ v r more. refl,
    ),
  )
