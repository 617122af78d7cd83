-- The native that tells the qualified name of a member.
use Rattle.proto_attr.proofs.Below.{List, [], refl, sym, subst, ap, NativeEntry, PyObjectRef, PyStrInterned, Ask, Task, known_text, PlainTask, PlainWorld, Bindings, Answered, Asks, DoGetAttr, ReadObjects, ToAttribute, ToNative, Row, World, Reading, Reads, bindings, plain, task_of, Steps, AfterClass, Does, detail_stands, detail_job_say, details_native_say, member_name, member_qualname}
use Rattle.std.proofs.Common.{◌≡◌, ◌∷◌}
use Rattle.py_node.specs.declared.known.Known.TheVariants as known

-- the class of the member is asked for its own name
pub name-asks : (n : NativeEntry) (args : List PyObjectRef) (kw : List (PyStrInterned × PyObjectRef)) (w : World) (m c : PyObjectRef) (asked : Task) → ((u : PlainWorld) (bs : List PyObjectRef) (kw : Bindings) → details_native_say u n bs kw ≡ member_qualname u bs kw) → ((t : Reading) → member_name (plain t w) args (bindings t kw) ≡ Asks (plain t w) (ReadObjects (m ∷ []) ∷ []) (ToAttribute (DoGetAttr c (known_text known.Qualname)))) → ((t : Reading) → Reads t w → task_of t asked ≡ ToAttribute (DoGetAttr c (known_text known.Qualname))) → Does n args (λ t. bindings t kw) (λ t u. member_name u args (bindings t kw)) w w (Ask asked (AfterClass m))
unfolding detail_job_say
name-asks n args kw w m c asked own says task = λ t q. (
  q,
  subst (λ s. Steps (detail_stands t) t (λ u. detail_job_say u (ToNative n args (bindings t kw))) s (Ask asked (AfterClass m)) w) (sym (says t))
      (task t q, refl, λ u r more. ap (λ (y : Row). y (ReadObjects (m ∷ []) ∷ (Answered r ∷ more))) (own u args (bindings t kw))),
)
