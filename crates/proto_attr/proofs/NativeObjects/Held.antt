-- The objects of an object's class hold what the object does.
use Rattle.proto_attr.proofs.Below.{ℕ, Option, Some, None, refl, ap, sym, ◌∙◌, slice_get, option_map, BuiltIn, Payload, PyObjectRef, Datum, Node, home, held_by, IsSound, datum_at, Held, Reading, datum, plain, IsOf, Holding, Holds, home_of, by_line, line-seen}
use Rattle.std.proofs.Common.{◌≡◌}
use Rattle.py_node.specs.declared.payload.Payload.TheVariants as payload
use Rattle.plain_machine.specs.World.{class_at}

held-read : (t : Reading) (w : Held) (c : ℕ) → held_by (plain t w).classes c ≡ held_by w.classes c
held-read t w c = ap by_line (line-seen w w refl t c)

home-read : (t : Reading) (p : Payload) → home (datum t p) ≡ home_of p
home-read t payload.Object = refl
home-read t (payload.Class c) = refl
home-read t (payload.Number z) = refl
home-read t (payload.Text s) = refl
home-read t (payload.Tuple rs) = refl
home-read t (payload.List rs) = refl
home-read t (payload.Dict es) = refl
home-read t (payload.Function f) = refl
home-read t (payload.Method m) = refl
home-read t (payload.NativeFunction f) = refl
home-read t (payload.BuiltinMethod m) = refl
home-read t (payload.MethodDescriptor m) = refl
home-read t (payload.GetSet g) = refl
home-read t (payload.ClassMethod r) = refl
home-read t (payload.StaticMethod r) = refl
home-read t (payload.Member m) = refl
home-read t (payload.Property p) = refl
home-read t (payload.Super s) = refl
home-read t (payload.Iterator i) = refl
home-read t (payload.Slice s) = refl

same-home : (w : Held) (o : PyObjectRef) (a b : BuiltIn) → Holds w (Holding o a) → Holds w (Holding o b) → a ≡ b
unfolding Holds
same-home w o a b h k = cc

pub class-of : (t : Reading) (w : Held) (o : PyObjectRef) (b : BuiltIn) (c : ℕ) (p : Payload) → IsSound (plain t w) → class_at (plain t w) o ≡ Some c → datum_at (plain t w) o ≡ Some (datum t p) → Holds w (Holding o (home_of p)) → Holds w (Holding o b) → Holds w (IsOf c b)
unfolding Holds
class-of t w o b c p s k e h i = go (slice_get (plain t w).nodes o.0) refl k e
  where
    go : (n : Option Node) → slice_get (plain t w).nodes o.0 ≡ n → option_map (λ n. n.class) n ≡ Some c → option_map (λ n. n.datum) n ≡ Some (datum t p) → held_by w.classes c ≡ Some b
    go None e k f = cc
    go (Some n) e k f =
        let like = (s.nodes o.0 n e).like in
        let one : n.class ≡ c = cc in
        let two : n.datum ≡ datum t p = cc in
        sym (held-read t w c) ∙ ap (held_by (plain t w).classes) (sym one) ∙ like ∙ ap (λ x. Some (home x)) two ∙ ap Some (home-read t p ∙ same-home w o (home_of p) b h i)
