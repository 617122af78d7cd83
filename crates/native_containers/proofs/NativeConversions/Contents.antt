-- What containers hold, as their parts.
use Rattle.native_containers.proofs.Below.{[], length, map, Some, refl, All-nil, All-cons, All-head, All-tail, PyObjectRef, Payload, Entries, Held, Reading, datum, AreNodes, Holds, flattened, parts_in}
use Rattle.std.proofs.Common.{◌≡◌, ◌<◌, ◌∷◌}
use Rattle.py_node.specs.declared.payload.Payload.TheVariants as payload

-- what is no container has no parts
pub no-parts : (t : Reading) (p : Payload) → ((rs : _) → p ≡ payload.Tuple rs → ⊥) → ((rs : _) → p ≡ payload.List rs → ⊥) → ((es : _) → p ≡ payload.Dict es → ⊥) → parts_in (Some (datum t p)) ≡ []
no-parts t payload.Object h k l = refl
no-parts t (payload.Class c) h k l = refl
no-parts t (payload.Number z) h k l = refl
no-parts t (payload.Text s) h k l = refl
no-parts t (payload.Tuple rs) h k l = absurd (h rs refl)
no-parts t (payload.List rs) h k l = absurd (k rs refl)
no-parts t (payload.Dict es) h k l = absurd (l es refl)
no-parts t (payload.Function f) h k l = refl
no-parts t (payload.Method m) h k l = refl
no-parts t (payload.NativeFunction f) h k l = refl
no-parts t (payload.BuiltinMethod m) h k l = refl
no-parts t (payload.MethodDescriptor m) h k l = refl
no-parts t (payload.GetSet g) h k l = refl
no-parts t (payload.ClassMethod r) h k l = refl
no-parts t (payload.StaticMethod r) h k l = refl
no-parts t (payload.Member m) h k l = refl
no-parts t (payload.Property p) h k l = refl
no-parts t (payload.Super s) h k l = refl
no-parts t (payload.Iterator i) h k l = refl
no-parts t (payload.Slice s) h k l = refl

-- the keys and the values of a dict are objects
pub flat-nodes : (w : Held) (es : Entries) → Holds w (AreNodes (map (λ e. e.0) es)) → Holds w (AreNodes (map (λ e. e.1) es)) → Holds w (AreNodes (flattened es))
unfolding Holds
flat-nodes w [] h k = All-nil (λ (r : PyObjectRef). r.0 < length w.nodes)
flat-nodes w (e ∷ es) h k =
    let P : PyObjectRef → Type 0 = λ r. r.0 < length w.nodes in
    let rest = flat-nodes w es (All-tail P e.0 (map (λ e. e.0) es) h) (All-tail P e.1 (map (λ e. e.1) es) k) in
    All-cons P e.0 (e.1 ∷ flattened es) (All-head P e.0 (map (λ e. e.0) es) h) (All-cons P e.1 (flattened es) (All-head P e.1 (map (λ e. e.1) es) k) rest)
