-- The parts of a property that keywords give.
use Rattle.proto_attr.proofs.Below.{ℕ, zero, suc, true, false, cond, eqb, List, [], length, get_or, drop, refl, arith, slice_get, fixed_none, PropertyNative, PyProperty, PyObjectRef, PyStrInterned, Held, Reading, bindings, spelled, AllHold, AreNodes, Holds, IsName, IsNode, of_binding, of_each, of_node_ref, of_option, of_optional, of_property, all-append, all-first, all-rest, bare, or_old, part_set, placed, with_part, with_parts}
use Rattle.std.proofs.Common.{◌≡◌, ◌+◌, ◌<◌, ◌≤◌, ◌∷◌}
use Rattle.std.specs.Prelude.{Option, Some, None}
use Rattle.py_node.specs.declared.entry.PropertyNative.TheVariants as property

abbrev Bound : Type 0
Bound = List (PyStrInterned × PyObjectRef)

-- one keyword more
pub parts-next : (t : Reading) (p : PyProperty) (kw : Bound) (i : ℕ) (d : PyStrInterned × PyObjectRef) → i < length kw → with_parts (Some p) (bindings t (drop i kw)) ≡ with_parts (with_part p (spelled t (get_or kw i d).0) (get_or kw i d).1) (bindings t (drop (suc i) kw))
parts-next t p [] i d l = absurd (omega arith)
parts-next t p (k ∷ kw) zero d l = refl
parts-next t p (k ∷ kw) (suc i) d l = parts-next t p kw i d (omega arith)

-- all
pub parts-end : (t : Reading) (p : PyProperty) (kw : Bound) (i : ℕ) → length kw ≤ i → with_parts (Some p) (bindings t (drop i kw)) ≡ Some p
parts-end t p [] zero l = refl
parts-end t p [] (suc i) l = refl
parts-end t p (k ∷ kw) zero l = absurd (omega arith)
parts-end t p (k ∷ kw) (suc i) l = parts-end t p kw i (omega arith)

-- a keyword is a name with an object
pub keyword-holds : (w : Held) (kw : Bound) (i : ℕ) (d : PyStrInterned × PyObjectRef) → i < length kw → AllHold w (of_each of_binding kw) → Holds w (IsName (get_or kw i d).0) × Holds w (IsNode (get_or kw i d).1)
keyword-holds w [] i d l h = absurd (omega arith)
keyword-holds w (k ∷ kw) zero d l h = (h.0, h.1.0)
keyword-holds w (k ∷ kw) (suc i) d l h = keyword-holds w kw i d (omega arith) h.1.1

-- None counts as absent, and the other parts are objects still
pub parts-hold : (w : Held) (a b c d e a' b' c' d' e' : Option PyObjectRef) → ((w : Held) → AllHold w (of_option of_node_ref a) → AllHold w (of_option of_node_ref a')) → ((w : Held) → AllHold w (of_option of_node_ref b) → AllHold w (of_option of_node_ref b')) → ((w : Held) → AllHold w (of_option of_node_ref c) → AllHold w (of_option of_node_ref c')) → ((w : Held) → AllHold w (of_option of_node_ref d) → AllHold w (of_option of_node_ref d')) → ((w : Held) → AllHold w (of_option of_node_ref e) → AllHold w (of_option of_node_ref e')) → AllHold w (of_optional (a ∷ b ∷ c ∷ d ∷ e ∷ [])) → AllHold w (of_optional (a' ∷ b' ∷ c' ∷ d' ∷ e' ∷ []))
parts-hold w a b c d e a' b' c' d' e' f g h i j k =
    let k1 = all-rest w (of_option of_node_ref a) _ k in
    let k2 = all-rest w (of_option of_node_ref b) _ k1 in
    let k3 = all-rest w (of_option of_node_ref c) _ k2 in
    let k4 = all-rest w (of_option of_node_ref d) _ k3 in
    all-append w (of_option of_node_ref a') _ (f w (all-first w (of_option of_node_ref a) _ k))
    (all-append w (of_option of_node_ref b') _ (g w (all-first w (of_option of_node_ref b) _ k1))
    (all-append w (of_option of_node_ref c') _ (h w (all-first w (of_option of_node_ref c) _ k2))
    (all-append w (of_option of_node_ref d') _ (i w (all-first w (of_option of_node_ref d) _ k3))
    (all-append w (of_option of_node_ref e') _ (j w (all-first w (of_option of_node_ref e) _ k4)) tt))))

-- the parts are objects if they are there
pub each-holds : (w : Held) (a b c d e : Option PyObjectRef) → AllHold w (of_option of_node_ref a) → AllHold w (of_option of_node_ref b) → AllHold w (of_option of_node_ref c) → AllHold w (of_option of_node_ref d) → AllHold w (of_option of_node_ref e) → AllHold w (of_optional (a ∷ b ∷ c ∷ d ∷ e ∷ []))
each-holds w a b c d e f g h i j =
    all-append w (of_option of_node_ref a) _ f
    (all-append w (of_option of_node_ref b) _ g
    (all-append w (of_option of_node_ref c) _ h
    (all-append w (of_option of_node_ref d) _ i
    (all-append w (of_option of_node_ref e) [] j tt))))

-- an argument by its place
got-holds : (w : Held) (rs : List PyObjectRef) (i : ℕ) → Holds w (AreNodes rs) → AllHold w (of_option of_node_ref (slice_get rs i))
unfolding Holds
got-holds w [] zero h = tt
got-holds w [] (suc i) h = tt
got-holds w (r ∷ rs) zero h = (h 0 r (omega arith), tt)
got-holds w (r ∷ rs) (suc i) h = got-holds w rs i (λ j d l. h (suc j) d (omega arith))

pub placed-hold : (w : Held) (args : List PyObjectRef) → Holds w (AreNodes args) → AllHold w (of_property (placed args))
placed-hold w args h =
    each-holds w (slice_get args 1) (slice_get args 2) (slice_get args 3) (slice_get args 4) (slice_get args 5) (got-holds w args 1 h) (got-holds w args 2 h) (got-holds w args 3 h) (got-holds w args 4 h) (got-holds w args 5 h)

pub name-holds : (w : Held) (p : PyProperty) → AllHold w (of_property p) → AllHold w (of_option of_node_ref p.name)
name-holds w p h =
    let h1 = all-rest w (of_option of_node_ref p.fget) _ h in
    let h2 = all-rest w (of_option of_node_ref p.fset) _ h1 in
    let h3 = all-rest w (of_option of_node_ref p.fdel) _ h2 in
    let h4 = all-rest w (of_option of_node_ref p.doc) _ h3 in
    all-first w (of_option of_node_ref p.name) [] h4

-- a part, or the old one
old-holds : (w : Held) (r : PyObjectRef) (old : Option PyObjectRef) → Holds w (IsNode r) → AllHold w (of_option of_node_ref old) → AllHold w (of_option of_node_ref (or_old r old))
old-holds w r old h k =
    elim (eqb r.0 fixed_none) as (λ b. AllHold w (of_option of_node_ref (cond b old (Some r)))) [ true ↦ k | false ↦ (h, tt) ]

pub set-holds : (w : Held) (n : PropertyNative) (p : PyProperty) (r : PyObjectRef) → AllHold w (of_property p) → Holds w (IsNode r) → AllHold w (of_property (part_set n (bare p) r))
set-holds w n p r h k =
    let h1 = all-rest w (of_option of_node_ref p.fget) _ h in
    let h2 = all-rest w (of_option of_node_ref p.fset) _ h1 in
    go (all-first w (of_option of_node_ref p.fget) _ h) (all-first w (of_option of_node_ref p.fset) _ h1) (all-first w (of_option of_node_ref p.fdel) _ h2) n
  where
    same : AllHold w (of_option of_node_ref p.fget) → AllHold w (of_option of_node_ref p.fset) → AllHold w (of_option of_node_ref p.fdel) → AllHold w (of_property (bare p))
    same get set del = each-holds w p.fget p.fset p.fdel None None get set del tt tt

    go : AllHold w (of_option of_node_ref p.fget) → AllHold w (of_option of_node_ref p.fset) → AllHold w (of_option of_node_ref p.fdel) → (n : PropertyNative) → AllHold w (of_property (part_set n (bare p) r))
    go get set del property.Init = same get set del
    go get set del property.Get = same get set del
    go get set del property.Set = same get set del
    go get set del property.Delete = same get set del
    go get set del property.SetName = same get set del
    go get set del property.Getter = each-holds w (or_old r p.fget) p.fset p.fdel None None (old-holds w r p.fget k get) set del tt tt
    go get set del property.Setter = each-holds w p.fget (or_old r p.fset) p.fdel None None get (old-holds w r p.fset k set) del tt tt
    go get set del property.Deleter = each-holds w p.fget p.fset (or_old r p.fdel) None None get set (old-holds w r p.fdel k del) tt tt
