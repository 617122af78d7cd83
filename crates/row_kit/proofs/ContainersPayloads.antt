-- What objects hold that are of no kind, and entries and nodes one by one.
use Rattle.row_kit.proofs.Below.{List, [], length, Some, refl, All-append, PyObjectRef, Payload, entries_in, Held, Reading, datum, AreNodes, Holds, items_in}
use Rattle.std.proofs.Common.{◌≡◌, ◌+◌, ◌<◌, ◌++◌}
use Rattle.py_node.specs.declared.payload.Payload.TheVariants as payload

-- what is no dict has no entries
pub no-entries : (t : Reading) (p : Payload) → ((es : _) → p ≡ payload.Dict es → ⊥) → entries_in (Some (datum t p)) ≡ []
no-entries t payload.Object h = refl
no-entries t (payload.Class c) h = refl
no-entries t (payload.Number z) h = refl
no-entries t (payload.Text s) h = refl
no-entries t (payload.Tuple rs) h = refl
no-entries t (payload.List rs) h = refl
no-entries t (payload.Dict es) h = absurd (h es refl)
no-entries t (payload.Function f) h = refl
no-entries t (payload.Method m) h = refl
no-entries t (payload.NativeFunction f) h = refl
no-entries t (payload.BuiltinMethod m) h = refl
no-entries t (payload.MethodDescriptor m) h = refl
no-entries t (payload.GetSet g) h = refl
no-entries t (payload.ClassMethod r) h = refl
no-entries t (payload.StaticMethod r) h = refl
no-entries t (payload.Member m) h = refl
no-entries t (payload.Property p) h = refl
no-entries t (payload.Super s) h = refl
no-entries t (payload.Iterator i) h = refl
no-entries t (payload.Slice s) h = refl

-- what is no tuple and no list has no items
pub no-items : (t : Reading) (p : Payload) → ((rs : _) → p ≡ payload.Tuple rs → ⊥) → ((rs : _) → p ≡ payload.List rs → ⊥) → items_in (Some (datum t p)) ≡ []
no-items t payload.Object h k = refl
no-items t (payload.Class c) h k = refl
no-items t (payload.Number z) h k = refl
no-items t (payload.Text s) h k = refl
no-items t (payload.Tuple rs) h k = absurd (h rs refl)
no-items t (payload.List rs) h k = absurd (k rs refl)
no-items t (payload.Dict es) h k = refl
no-items t (payload.Function f) h k = refl
no-items t (payload.Method m) h k = refl
no-items t (payload.NativeFunction f) h k = refl
no-items t (payload.BuiltinMethod m) h k = refl
no-items t (payload.MethodDescriptor m) h k = refl
no-items t (payload.GetSet g) h k = refl
no-items t (payload.ClassMethod r) h k = refl
no-items t (payload.StaticMethod r) h k = refl
no-items t (payload.Member m) h k = refl
no-items t (payload.Property p) h k = refl
no-items t (payload.Super s) h k = refl
no-items t (payload.Iterator i) h k = refl
no-items t (payload.Slice s) h k = refl

-- nodes of two lists
pub nodes-append : (w : Held) (rs ss : List PyObjectRef) → Holds w (AreNodes rs) → Holds w (AreNodes ss) → Holds w (AreNodes (rs ++ ss))
unfolding Holds
nodes-append w rs ss h k = All-append (λ (r : PyObjectRef). r.0 < length w.nodes) rs ss h k
