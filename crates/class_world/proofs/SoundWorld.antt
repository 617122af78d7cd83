-- A world whose claims hold stands for a sound plain world.
use Rattle.class_world.proofs.Below.{ℕ, zero, suc, List, [], length, get_or, map, Option, Some, None, refl, sym, ap, ◌∙◌, subst, arith, slice_get, is_some, is_none, option_map, option_and_then, All, length-map, PyObjectRef, PyStrInterned, PyTypeRef, Dict, Function, Str, Node as StoredNode, Payload, value_of, AreNamesDistinct, Classes, is_class, has_flag, rekeyed, renamed, AreSound, has_dict, has_dict-renamed, sound-renamed, at-renamed, lin-renamed, is_place-renamed, AClass, is_text, datum_at, class_number, home, optional_class, optional, all_optional, super_object, super_start, nodes_in, classes_in, is_offset, read_offset, set_offset, offsets_in, Key, key_of, key_at, keys_in, AreKeys, AreApart, IsSoundNode, IsSoundScope, IsSound, Scope as HeldScope, Held, Reading, bindings, datum, node_of, scope_of, spelled, plain, Holding, Standing, KeysDiffer, key_in, held_key, class_in, held_class, params_in, held_params, has_value, AreFilled, Holds, AllHold, Sound, home_of, home_at, of_option, of_class_ref, of_node_ref, of_name_ref, of_optional, of_start, of_dict_ref, of_payload, of_node, of_binding, of_scope, of_class, of_dict, of_each}
use Rattle.std.proofs.Common.{◌≡◌, ◌<◌, ◌^◌, ◌∷◌, ◌++◌}
use Rattle.std.specs.Prelude.{◌&&◌, true}
use Rattle.py_node.specs.declared.payload.Payload.TheVariants as payload
use Rattle.plain_machine.specs.Plain.{Node}
use Rattle.plain_machine.specs.Sound.{params_in as params_of}
use Rattle.class_world.proofs.Claims.{all-first, all-rest, each-get}
use Rattle.class_world.proofs.Homes.{by_line}
use Rattle.class_world.proofs.MemberPlaces.{member-is}
use Rattle.class_world.proofs.Apart.{apart-read}
use Rattle.class_world.proofs.Counts.{offset-seen}
use Rattle.class_world.proofs.Bound.{value-read}

module _ {A : Type 0} (P : A → Type 0) where
  none : All P []
  none = λ i d l. absurd (omega arith)

  more : (x : A) (xs : List A) → P x → All P xs → All P (x ∷ xs)
  more x xs p h zero d l = p
  more x xs p h (suc i) d l = h i d (omega arith)

home-read : (t : Reading) (p : Payload) → home (datum t p) ≡ home_of p
home-read t payload.Object = refl
home-read t (payload.Class c) = refl
home-read t (payload.Number z) = refl
home-read t (payload.Text s) = refl
home-read t (payload.Tuple rs) = refl
home-read t (payload.List rs) = refl
home-read t (payload.Dict es) = refl
home-read t (payload.Function f) = refl
home-read t (payload.Method m) = refl
home-read t (payload.NativeFunction f) = refl
home-read t (payload.BuiltinMethod m) = refl
home-read t (payload.MethodDescriptor m) = refl
home-read t (payload.GetSet g) = refl
home-read t (payload.ClassMethod r) = refl
home-read t (payload.StaticMethod r) = refl
home-read t (payload.Member m) = refl
home-read t (payload.Property p) = refl
home-read t (payload.Super s) = refl
home-read t (payload.Iterator i) = refl
home-read t (payload.Slice s) = refl

home_at-read : (t : Reading) (ks : Classes PyStrInterned) (ns : List StoredNode) (n : ℕ) → option_map home (option_map (λ (x : Node). x.datum) (slice_get (map (node_of t ks) ns) n)) ≡ home_at ns n
home_at-read t ks [] n = refl
home_at-read t ks (x ∷ ns) zero = ap Some (home-read t x.payload)
home_at-read t ks (x ∷ ns) (suc n) = home_at-read t ks ns n

key-read : (t : Reading) (p : Payload) → key_of (datum t p) ≡ key_in p
key-read t payload.Object = refl
key-read t (payload.Class c) = refl
key-read t (payload.Number z) = refl
key-read t (payload.Text s) = refl
key-read t (payload.Tuple rs) = refl
key-read t (payload.List rs) = refl
key-read t (payload.Dict es) = refl
key-read t (payload.Function f) = refl
key-read t (payload.Method m) = refl
key-read t (payload.NativeFunction f) = refl
key-read t (payload.BuiltinMethod m) = refl
key-read t (payload.MethodDescriptor m) = refl
key-read t (payload.GetSet g) = refl
key-read t (payload.ClassMethod r) = refl
key-read t (payload.StaticMethod r) = refl
key-read t (payload.Member m) = refl
key-read t (payload.Property p) = refl
key-read t (payload.Super s) = refl
key-read t (payload.Iterator i) = refl
key-read t (payload.Slice s) = refl

key_at-stored : (t : Reading) (ks : Classes PyStrInterned) (ns : List StoredNode) (n : ℕ) → option_and_then key_of (option_map (λ (x : Node). x.datum) (slice_get (map (node_of t ks) ns) n)) ≡ held_key ns (record { 0 = n })
key_at-stored t ks [] n = refl
key_at-stored t ks (x ∷ ns) zero = key-read t x.payload
key_at-stored t ks (x ∷ ns) (suc n) = key_at-stored t ks ns n

pub key_at-read : (t : Reading) (w : Held) (r : PyObjectRef) → key_at (plain t w) r ≡ held_key w.nodes r
unfolding plain
key_at-read t w r = key_at-stored t w.classes w.nodes r.0

-- keys are the same in both worlds
pub keys-read : (t : Reading) (w : Held) (rs : List PyObjectRef) → AreKeys (held_key w.nodes) rs → AreKeys (key_at (plain t w)) rs
keys-read t w rs h = record {
  known = λ i r e. ap is_some (key_at-read t w r) ∙ h.known i r e;
  apart = λ i j r s e f q. h.apart i j r s e f (sym (key_at-read t w r) ∙ q ∙ key_at-read t w s);
}

pub keys-stored : (t : Reading) (w : Held) (rs : List PyObjectRef) → AreKeys (key_at (plain t w)) rs → Holds w (KeysDiffer rs)
unfolding Holds
keys-stored t w rs h = record {
  known = λ i r e. ap is_some (sym (key_at-read t w r)) ∙ h.known i r e;
  apart = λ i j r s e f q. h.apart i j r s e f (key_at-read t w r ∙ q ∙ sym (key_at-read t w s));
}

no-keys : (at : PyObjectRef → Option Key) → AreKeys at []
no-keys at = record { known = λ i r e. cc; apart = λ i j r s e f q. cc }

pub no-keys-differ : (w : Held) → Holds w (KeysDiffer [])
unfolding Holds
no-keys-differ w = no-keys (held_key w.nodes)

-- a text alone is a key
text-is-key : (o : Option StoredNode) → option_map (λ (x : StoredNode). home_of x.payload) o ≡ Some Str → is_some (option_and_then (λ (x : StoredNode). key_in x.payload) o) ≡ true
text-is-key None e = cc
text-is-key (Some x) e = go x.payload e
  where
    go : (p : Payload) → Some (home_of p) ≡ Some Str → is_some (key_in p) ≡ true
    go payload.Object e = cc
    go (payload.Class c) e = cc
    go (payload.Number z) e = cc
    go (payload.Text s) e = refl
    go (payload.Tuple rs) e = cc
    go (payload.List rs) e = cc
    go (payload.Dict es) e = cc
    go (payload.Function f) e = cc
    go (payload.Method m) e = cc
    go (payload.NativeFunction f) e = cc
    go (payload.BuiltinMethod m) e = cc
    go (payload.MethodDescriptor m) e = cc
    go (payload.GetSet g) e = cc
    go (payload.ClassMethod r) e = cc
    go (payload.StaticMethod r) e = cc
    go (payload.Member m) e = cc
    go (payload.Property p) e = cc
    go (payload.Super s) e = cc
    go (payload.Iterator i) e = cc
    go (payload.Slice s) e = cc

pub one-key-differs : (w : Held) (r : PyObjectRef) → Holds w (Holding r Str) → Holds w (KeysDiffer (r ∷ []))
unfolding Holds
one-key-differs w r h = record { known = known; apart = apart }
  where
    known : (i : ℕ) (s : PyObjectRef) → slice_get (r ∷ []) i ≡ Some s → is_some (held_key w.nodes s) ≡ true
    known zero s e = let same : r ≡ s = cc in subst (λ s. is_some (held_key w.nodes s) ≡ true) same (text-is-key (slice_get w.nodes r.0) h)
    known (suc i) s e = cc

    apart : (i j : ℕ) (a b : PyObjectRef) → slice_get (r ∷ []) i ≡ Some a → slice_get (r ∷ []) j ≡ Some b → held_key w.nodes a ≡ held_key w.nodes b → i ≡ j
    apart zero zero a b e f q = refl
    apart zero (suc j) a b e f q = cc
    apart (suc i) j a b e f q = cc

-- a node of the plain world is one that is stored
stored-at : (t : Reading) (ks : Classes PyStrInterned) (ns : List StoredNode) (i : ℕ) (n : Node) → slice_get (map (node_of t ks) ns) i ≡ Some n → (x : StoredNode) × (slice_get ns i ≡ Some x) × (node_of t ks x ≡ n)
stored-at t ks [] i n e = cc
stored-at t ks (x ∷ ns) zero n e = (x, refl, cc)
stored-at t ks (x ∷ ns) (suc i) n e = stored-at t ks ns i n e

abbrev Below : ℕ → List PyObjectRef → Type 0
Below n rs = All (λ r. r.0 < n) rs

joined : (n : ℕ) (rs ss : List PyObjectRef) → Below n rs → Below n ss → Below n (rs ++ ss)
joined n [] ss h k = k
joined n (r ∷ rs) ss h k = more (λ r. r.0 < n) r (rs ++ ss) (h 0 r (omega arith)) (joined n rs ss (λ i d l. h (suc i) d (omega arith)) k)

module _ (w : Held) (t : Reading) where
  optional-there : (o : Option PyObjectRef) → AllHold w (of_option of_node_ref o) → Below (length w.nodes) (optional o)
  unfolding Holds
  optional-there None h = none (λ r. r.0 < length w.nodes)
  optional-there (Some r) h = more (λ r. r.0 < length w.nodes) r [] h.0 (none (λ r. r.0 < length w.nodes))

  optional_class-there : (o : Option PyTypeRef) → AllHold w (of_option of_class_ref o) → All (λ c. is_class w.classes c ≡ true) (optional_class (option_map (λ c. c.0) o))
  unfolding Holds
  optional_class-there None h = none (λ c. is_class w.classes c ≡ true)
  optional_class-there (Some c) h = more (λ c. is_class w.classes c ≡ true) c.0 [] h.0 (none (λ c. is_class w.classes c ≡ true))

  all_optional-there : (os : List (Option PyObjectRef)) → AllHold w (of_optional os) → Below (length w.nodes) (all_optional os)
  all_optional-there [] h = none (λ r. r.0 < length w.nodes)
  all_optional-there (o ∷ os) h =
      joined (length w.nodes) (optional o) (all_optional os) (optional-there o (all-first w (of_option of_node_ref o) (of_optional os) h)) (all_optional-there os (all-rest w (of_option of_node_ref o) (of_optional os) h))

  -- what `super` is bound to
  bound_object-there : (o : Option (PyObjectRef × PyTypeRef)) → AllHold w (of_option of_start o) → Below (length w.nodes) (optional (super_object (option_map (λ b. (b.0, b.1.0)) o)))
  unfolding Holds
  bound_object-there None h = none (λ r. r.0 < length w.nodes)
  bound_object-there (Some b) h = more (λ r. r.0 < length w.nodes) b.0 [] h.0 (none (λ r. r.0 < length w.nodes))

  bound_class-there : (o : Option (PyObjectRef × PyTypeRef)) → AllHold w (of_option of_start o) → All (λ c. is_class w.classes c ≡ true) (optional_class (super_start (option_map (λ b. (b.0, b.1.0)) o)))
  unfolding Holds
  bound_class-there None h = none (λ c. is_class w.classes c ≡ true)
  bound_class-there (Some b) h = more (λ c. is_class w.classes c ≡ true) b.1.0 [] h.1.0 (none (λ c. is_class w.classes c ≡ true))

  nodes-there : (p : Payload) → AllHold w (of_payload p) → Below (length w.nodes) (nodes_in (datum t p))
  unfolding Holds
  nodes-there payload.Object h = none (λ r. r.0 < length w.nodes)
  nodes-there (payload.Class c) h = none (λ r. r.0 < length w.nodes)
  nodes-there (payload.Number z) h = none (λ r. r.0 < length w.nodes)
  nodes-there (payload.Text s) h = none (λ r. r.0 < length w.nodes)
  nodes-there (payload.Tuple rs) h = h.0
  nodes-there (payload.List rs) h = h.0
  nodes-there (payload.Dict es) h = joined (length w.nodes) (map (λ e. e.0) es.items) (map (λ e. e.1) es.items) h.1.0 h.1.1.0
  nodes-there (payload.Function f) h = none (λ r. r.0 < length w.nodes)
  nodes-there (payload.Method m) h = more (λ r. r.0 < length w.nodes) m.target (m.func ∷ []) h.0 (more (λ r. r.0 < length w.nodes) m.func [] h.1.0 (none (λ r. r.0 < length w.nodes)))
  nodes-there (payload.NativeFunction f) h = optional-there f.target (all-first w (of_option of_node_ref f.target) (of_option of_name_ref f.doc) h.1)
  nodes-there (payload.BuiltinMethod m) h = more (λ r. r.0 < length w.nodes) m.target [] h.1.0 (none (λ r. r.0 < length w.nodes))
  nodes-there (payload.MethodDescriptor m) h = none (λ r. r.0 < length w.nodes)
  nodes-there (payload.GetSet g) h = none (λ r. r.0 < length w.nodes)
  nodes-there (payload.ClassMethod r) h = more (λ r. r.0 < length w.nodes) r [] h.0 (none (λ r. r.0 < length w.nodes))
  nodes-there (payload.StaticMethod r) h = more (λ r. r.0 < length w.nodes) r [] h.0 (none (λ r. r.0 < length w.nodes))
  nodes-there (payload.Member m) h = none (λ r. r.0 < length w.nodes)
  nodes-there (payload.Property p) h = all_optional-there (p.value.fget ∷ p.value.fset ∷ p.value.fdel ∷ p.value.doc ∷ p.value.name ∷ []) h
  nodes-there (payload.Super s) h = bound_object-there s.obj h.1
  nodes-there (payload.Iterator i) h = more (λ r. r.0 < length w.nodes) i.object [] h.0 (none (λ r. r.0 < length w.nodes))
  nodes-there (payload.Slice s) h = all_optional-there (s.start ∷ s.stop ∷ s.step ∷ []) h

  classes-there : (p : Payload) → AllHold w (of_payload p) → All (λ c. is_class w.classes c ≡ true) (classes_in (datum t p))
  unfolding Holds
  classes-there payload.Object h = none (λ c. is_class w.classes c ≡ true)
  classes-there (payload.Class c) h = more (λ c. is_class w.classes c ≡ true) c.0 [] h.0 (none (λ c. is_class w.classes c ≡ true))
  classes-there (payload.Number z) h = none (λ c. is_class w.classes c ≡ true)
  classes-there (payload.Text s) h = none (λ c. is_class w.classes c ≡ true)
  classes-there (payload.Tuple rs) h = none (λ c. is_class w.classes c ≡ true)
  classes-there (payload.List rs) h = none (λ c. is_class w.classes c ≡ true)
  classes-there (payload.Dict es) h = none (λ c. is_class w.classes c ≡ true)
  classes-there (payload.Function f) h = optional_class-there f.value.class h.1.1.1
  classes-there (payload.Method m) h = none (λ c. is_class w.classes c ≡ true)
  classes-there (payload.NativeFunction f) h = none (λ c. is_class w.classes c ≡ true)
  classes-there (payload.BuiltinMethod m) h = more (λ c. is_class w.classes c ≡ true) m.class.0 [] h.1.1.0 (none (λ c. is_class w.classes c ≡ true))
  classes-there (payload.MethodDescriptor m) h = more (λ c. is_class w.classes c ≡ true) m.class.0 [] h.0 (none (λ c. is_class w.classes c ≡ true))
  classes-there (payload.GetSet g) h = more (λ c. is_class w.classes c ≡ true) g.class.0 [] h.0 (none (λ c. is_class w.classes c ≡ true))
  classes-there (payload.ClassMethod r) h = none (λ c. is_class w.classes c ≡ true)
  classes-there (payload.StaticMethod r) h = none (λ c. is_class w.classes c ≡ true)
  classes-there (payload.Member m) h = more (λ c. is_class w.classes c ≡ true) m.value.class.0 [] h.0 (none (λ c. is_class w.classes c ≡ true))
  classes-there (payload.Property p) h = none (λ c. is_class w.classes c ≡ true)
  classes-there (payload.Super s) h = more (λ c. is_class w.classes c ≡ true) s.typ.0 (optional_class (super_start (option_map (λ b. (b.0, b.1.0)) s.obj))) h.0 (bound_class-there s.obj h.1)
  classes-there (payload.Iterator i) h = none (λ c. is_class w.classes c ≡ true)
  classes-there (payload.Slice s) h = none (λ c. is_class w.classes c ≡ true)

  offsets-there : (p : Payload) → AllHold w (of_payload p) → All (λ p. is_offset w.classes p.0 p.1 ≡ true) (offsets_in (datum t p))
  unfolding Holds
  offsets-there payload.Object h = none (λ p. is_offset w.classes p.0 p.1 ≡ true)
  offsets-there (payload.Class c) h = none (λ p. is_offset w.classes p.0 p.1 ≡ true)
  offsets-there (payload.Number z) h = none (λ p. is_offset w.classes p.0 p.1 ≡ true)
  offsets-there (payload.Text s) h = none (λ p. is_offset w.classes p.0 p.1 ≡ true)
  offsets-there (payload.Tuple rs) h = none (λ p. is_offset w.classes p.0 p.1 ≡ true)
  offsets-there (payload.List rs) h = none (λ p. is_offset w.classes p.0 p.1 ≡ true)
  offsets-there (payload.Dict es) h = none (λ p. is_offset w.classes p.0 p.1 ≡ true)
  offsets-there (payload.Function f) h = none (λ p. is_offset w.classes p.0 p.1 ≡ true)
  offsets-there (payload.Method m) h = none (λ p. is_offset w.classes p.0 p.1 ≡ true)
  offsets-there (payload.NativeFunction f) h = none (λ p. is_offset w.classes p.0 p.1 ≡ true)
  offsets-there (payload.BuiltinMethod m) h = none (λ p. is_offset w.classes p.0 p.1 ≡ true)
  offsets-there (payload.MethodDescriptor m) h = none (λ p. is_offset w.classes p.0 p.1 ≡ true)
  offsets-there (payload.GetSet g) h = none (λ p. is_offset w.classes p.0 p.1 ≡ true)
  offsets-there (payload.ClassMethod r) h = none (λ p. is_offset w.classes p.0 p.1 ≡ true)
  offsets-there (payload.StaticMethod r) h = none (λ p. is_offset w.classes p.0 p.1 ≡ true)
  offsets-there (payload.Member m) h = more (λ p. is_offset w.classes p.0 p.1 ≡ true) (m.value.class.0, read_offset m.value.getter) ((m.value.class.0, set_offset m.value.setter) ∷ []) h.1.1.0 (more (λ p. is_offset w.classes p.0 p.1 ≡ true) (m.value.class.0, set_offset m.value.setter) [] h.1.1.1.0 (none (λ p. is_offset w.classes p.0 p.1 ≡ true)))
  offsets-there (payload.Property p) h = none (λ p. is_offset w.classes p.0 p.1 ≡ true)
  offsets-there (payload.Super s) h = none (λ p. is_offset w.classes p.0 p.1 ≡ true)
  offsets-there (payload.Iterator i) h = none (λ p. is_offset w.classes p.0 p.1 ≡ true)
  offsets-there (payload.Slice s) h = none (λ p. is_offset w.classes p.0 p.1 ≡ true)

  keys-there : (p : Payload) → AllHold w (of_payload p) → AreKeys (key_at (plain t w)) (keys_in (datum t p))
  unfolding Holds
  keys-there payload.Object h = no-keys (key_at (plain t w))
  keys-there (payload.Class c) h = no-keys (key_at (plain t w))
  keys-there (payload.Number z) h = no-keys (key_at (plain t w))
  keys-there (payload.Text s) h = no-keys (key_at (plain t w))
  keys-there (payload.Tuple rs) h = no-keys (key_at (plain t w))
  keys-there (payload.List rs) h = no-keys (key_at (plain t w))
  keys-there (payload.Dict es) h = keys-read t w (map (λ e. e.0) es.items) h.1.1.1.0
  keys-there (payload.Function f) h = no-keys (key_at (plain t w))
  keys-there (payload.Method m) h = no-keys (key_at (plain t w))
  keys-there (payload.NativeFunction f) h = no-keys (key_at (plain t w))
  keys-there (payload.BuiltinMethod m) h = no-keys (key_at (plain t w))
  keys-there (payload.MethodDescriptor m) h = no-keys (key_at (plain t w))
  keys-there (payload.GetSet g) h = no-keys (key_at (plain t w))
  keys-there (payload.ClassMethod r) h = no-keys (key_at (plain t w))
  keys-there (payload.StaticMethod r) h = no-keys (key_at (plain t w))
  keys-there (payload.Member m) h = no-keys (key_at (plain t w))
  keys-there (payload.Property p) h = no-keys (key_at (plain t w))
  keys-there (payload.Super s) h = no-keys (key_at (plain t w))
  keys-there (payload.Iterator i) h = no-keys (key_at (plain t w))
  keys-there (payload.Slice s) h = no-keys (key_at (plain t w))

  bound-there : (bs : List (PyStrInterned × PyObjectRef)) → AllHold w (of_each of_binding bs) → All (λ b. b.1.0 < length w.nodes) (bindings t bs)
  unfolding Holds
  bound-there [] h = none (λ b. b.1.0 < length w.nodes)
  bound-there (b ∷ bs) h = more (λ b. b.1.0 < length w.nodes) (spelled t b.0, b.1) (bindings t bs) h.1.0 (bound-there bs h.1.1)

  -- a function, by its parameters
  function-home : (p : Payload) (vars : List (PyStrInterned × PyObjectRef)) → AreFilled vars (params_in p) → home_of p ≡ Function
  function-home payload.Object vars h = absurd h
  function-home (payload.Class c) vars h = absurd h
  function-home (payload.Number z) vars h = absurd h
  function-home (payload.Text s) vars h = absurd h
  function-home (payload.Tuple rs) vars h = absurd h
  function-home (payload.List rs) vars h = absurd h
  function-home (payload.Dict es) vars h = absurd h
  function-home (payload.Function f) vars h = refl
  function-home (payload.Method m) vars h = absurd h
  function-home (payload.NativeFunction f) vars h = absurd h
  function-home (payload.BuiltinMethod m) vars h = absurd h
  function-home (payload.MethodDescriptor m) vars h = absurd h
  function-home (payload.GetSet g) vars h = absurd h
  function-home (payload.ClassMethod r) vars h = absurd h
  function-home (payload.StaticMethod r) vars h = absurd h
  function-home (payload.Member m) vars h = absurd h
  function-home (payload.Property p) vars h = absurd h
  function-home (payload.Super s) vars h = absurd h
  function-home (payload.Iterator i) vars h = absurd h
  function-home (payload.Slice s) vars h = absurd h

  function-there : (ns : List StoredNode) (n : ℕ) (vars : List (PyStrInterned × PyObjectRef)) → AreFilled vars (held_params ns (record { 0 = n })) → home_at ns n ≡ Some Function
  function-there [] n vars h = absurd h
  function-there (x ∷ ns) zero vars h = ap Some (function-home x.payload vars h)
  function-there (x ∷ ns) (suc n) vars h = function-there ns n vars h

  -- each parameter has a value by its text
  filled-texts : (vars : List (PyStrInterned × PyObjectRef)) (ps : List PyStrInterned) → All (λ x. has_value vars x ≡ true) ps → All (λ x. is_some (value_of (λ y. is_text y x) (bindings t vars)) ≡ true) (map (spelled t) ps)
  filled-texts vars [] h = none (λ x. is_some (value_of (λ y. is_text y x) (bindings t vars)) ≡ true)
  filled-texts vars (x ∷ ps) h =
      more (λ x. is_some (value_of (λ y. is_text y x) (bindings t vars)) ≡ true) (spelled t x) (map (spelled t) ps) (ap is_some (value-read t vars x) ∙ h 0 x (omega arith)) (filled-texts vars ps (λ i d l. h (suc i) d (omega arith)))

  filled-in : (p : Payload) (vars : List (PyStrInterned × PyObjectRef)) → AreFilled vars (params_in p) → All (λ x. is_some (value_of (λ y. is_text y x) (bindings t vars)) ≡ true) (params_of (Some (datum t p)))
  filled-in payload.Object vars h = absurd h
  filled-in (payload.Class c) vars h = absurd h
  filled-in (payload.Number z) vars h = absurd h
  filled-in (payload.Text s) vars h = absurd h
  filled-in (payload.Tuple rs) vars h = absurd h
  filled-in (payload.List rs) vars h = absurd h
  filled-in (payload.Dict es) vars h = absurd h
  filled-in (payload.Function f) vars h = filled-texts vars f.value.params.items h
  filled-in (payload.Method m) vars h = absurd h
  filled-in (payload.NativeFunction f) vars h = absurd h
  filled-in (payload.BuiltinMethod m) vars h = absurd h
  filled-in (payload.MethodDescriptor m) vars h = absurd h
  filled-in (payload.GetSet g) vars h = absurd h
  filled-in (payload.ClassMethod r) vars h = absurd h
  filled-in (payload.StaticMethod r) vars h = absurd h
  filled-in (payload.Member m) vars h = absurd h
  filled-in (payload.Property p) vars h = absurd h
  filled-in (payload.Super s) vars h = absurd h
  filled-in (payload.Iterator i) vars h = absurd h
  filled-in (payload.Slice s) vars h = absurd h

  filled-there : (ns : List StoredNode) (n : ℕ) (vars : List (PyStrInterned × PyObjectRef)) → AreFilled vars (held_params ns (record { 0 = n })) → All (λ x. is_some (value_of (λ y. is_text y x) (bindings t vars)) ≡ true) (params_of (option_map (λ (x : Node). x.datum) (slice_get (map (node_of t w.classes) ns) n)))
  filled-there [] n vars h = absurd h
  filled-there (x ∷ ns) zero vars h = filled-in x.payload vars h
  filled-there (x ∷ ns) (suc n) vars h = filled-there ns n vars h

  scope-is : (s : HeldScope) → AllHold w (of_scope s) → AreNamesDistinct s.vars → IsSoundScope (plain t w) (scope_of t s)
  unfolding Holds plain
  scope-is s h a = record {
    func = home_at-read t w.classes w.nodes s.func.0 ∙ function-there w.nodes s.func.0 s.vars h.1.0;
    params = filled-there w.nodes s.func.0 s.vars h.1.0;
    vars = subst (λ n. All (λ b. b.1.0 < n) (bindings t s.vars)) (sym (length-map w.nodes (node_of t w.classes))) (bound-there s.vars h.1.1);
    apart = apart-read t s.vars a;
  }

  scopes-are : (ss : List HeldScope) → AllHold w (of_each of_scope ss) → All (λ (s : HeldScope). AreNamesDistinct s.vars) ss → All (IsSoundScope (plain t w)) (map (scope_of t) ss)
  scopes-are [] h a = none (IsSoundScope (plain t w))
  scopes-are (s ∷ ss) h a =
      more (IsSoundScope (plain t w)) (scope_of t s) (map (scope_of t) ss)
      (scope-is s (all-first w (of_scope s) (of_each of_scope ss) h) (a 0 s (omega arith)))
      (scopes-are ss (all-rest w (of_scope s) (of_each of_scope ss) h) (λ i d l. a (suc i) d (omega arith)))

  class-read : (p : Payload) (c : ℕ) → class_in p ≡ Some c → datum t p ≡ AClass c
  class-read payload.Object c e = cc
  class-read (payload.Class d) c e = let same : d.0 ≡ c = cc in ap AClass same
  class-read (payload.Number z) c e = cc
  class-read (payload.Text s) c e = cc
  class-read (payload.Tuple rs) c e = cc
  class-read (payload.List rs) c e = cc
  class-read (payload.Dict es) c e = cc
  class-read (payload.Function f) c e = cc
  class-read (payload.Method m) c e = cc
  class-read (payload.NativeFunction f) c e = cc
  class-read (payload.BuiltinMethod m) c e = cc
  class-read (payload.MethodDescriptor m) c e = cc
  class-read (payload.GetSet g) c e = cc
  class-read (payload.ClassMethod r) c e = cc
  class-read (payload.StaticMethod r) c e = cc
  class-read (payload.Member m) c e = cc
  class-read (payload.Property p) c e = cc
  class-read (payload.Super s) c e = cc
  class-read (payload.Iterator i) c e = cc
  class-read (payload.Slice s) c e = cc

  stands-at : (ns : List StoredNode) (n c : ℕ) → held_class ns (record { 0 = n }) ≡ Some c → option_map (λ (x : Node). x.datum) (slice_get (map (node_of t w.classes) ns) n) ≡ Some (AClass c)
  stands-at [] n c e = cc
  stands-at (x ∷ ns) zero c e = ap Some (class-read x.payload c e)
  stands-at (x ∷ ns) (suc n) c e = stands-at ns n c e

  class-back : (p : Payload) (c : ℕ) → Some (datum t p) ≡ Some (AClass c) → class_in p ≡ Some c
  class-back payload.Object c e = cc
  class-back (payload.Class d) c e = let same : d.0 ≡ c = cc in ap Some same
  class-back (payload.Number z) c e = cc
  class-back (payload.Text s) c e = cc
  class-back (payload.Tuple rs) c e = cc
  class-back (payload.List rs) c e = cc
  class-back (payload.Dict es) c e = cc
  class-back (payload.Function f) c e = cc
  class-back (payload.Method m) c e = cc
  class-back (payload.NativeFunction f) c e = cc
  class-back (payload.BuiltinMethod m) c e = cc
  class-back (payload.MethodDescriptor m) c e = cc
  class-back (payload.GetSet g) c e = cc
  class-back (payload.ClassMethod r) c e = cc
  class-back (payload.StaticMethod r) c e = cc
  class-back (payload.Member m) c e = cc
  class-back (payload.Property p) c e = cc
  class-back (payload.Super s) c e = cc
  class-back (payload.Iterator i) c e = cc
  class-back (payload.Slice s) c e = cc

  no-class-read : (p : Payload) → is_none (class_number (Some (datum t p))) ≡ is_none (class_in p)
  no-class-read payload.Object = refl
  no-class-read (payload.Class d) = refl
  no-class-read (payload.Number z) = refl
  no-class-read (payload.Text s) = refl
  no-class-read (payload.Tuple rs) = refl
  no-class-read (payload.List rs) = refl
  no-class-read (payload.Dict es) = refl
  no-class-read (payload.Function f) = refl
  no-class-read (payload.Method m) = refl
  no-class-read (payload.NativeFunction f) = refl
  no-class-read (payload.BuiltinMethod m) = refl
  no-class-read (payload.MethodDescriptor m) = refl
  no-class-read (payload.GetSet g) = refl
  no-class-read (payload.ClassMethod r) = refl
  no-class-read (payload.StaticMethod r) = refl
  no-class-read (payload.Member m) = refl
  no-class-read (payload.Property p) = refl
  no-class-read (payload.Super s) = refl
  no-class-read (payload.Iterator i) = refl
  no-class-read (payload.Slice s) = refl

  held-back : (ns : List StoredNode) (n c : ℕ) → option_map (λ (x : Node). x.datum) (slice_get (map (node_of t w.classes) ns) n) ≡ Some (AClass c) → held_class ns (record { 0 = n }) ≡ Some c
  held-back [] n c e = cc
  held-back (x ∷ ns) zero c e = class-back x.payload c e
  held-back (x ∷ ns) (suc n) c e = held-back ns n c e

  class-itself : ((n c : ℕ) → held_class w.nodes (record { 0 = n }) ≡ Some c → n ≡ c) → (n c : ℕ) → datum_at (plain t w) (record { 0 = n }) ≡ Some (AClass c) → n ≡ c
  unfolding plain
  class-itself h n c e = h n c (held-back w.nodes n c e)

  there-read : (c : ℕ) → is_class (renamed (spelled t) w.classes) c ≡ is_class w.classes c
  there-read c = at-renamed (spelled t) is_some is_some refl (λ k. refl) w.classes c

  class-stands : ((c : ℕ) → is_class w.classes c ≡ true → Holds w (Standing c (record { 0 = c }))) → (c : ℕ) → is_class (renamed (spelled t) w.classes) c ≡ true → datum_at (plain t w) (record { 0 = c }) ≡ Some (AClass c)
  unfolding Holds plain
  class-stands h c e = stands-at w.nodes c c (h c (sym (there-read c) ∙ e))

  -- as many classes are there for the texts
  all-read : (cs : List ℕ) → All (λ c. is_class w.classes c ≡ true) cs → All (λ c. is_class (renamed (spelled t) w.classes) c ≡ true) cs
  all-read cs h = λ i d l. there-read (get_or cs i d) ∙ h i d l

  offsets-read : (ps : List (ℕ × Option ℕ)) → All (λ p. is_offset w.classes p.0 p.1 ≡ true) ps → All (λ p. is_offset (plain t w).classes p.0 p.1 ≡ true) ps
  offsets-read ps h = λ i d l. offset-seen w w refl t (get_or ps i d).0 (get_or ps i d).1 ∙ h i d l

  attrs-there : (n : ℕ) → length w.nodes ≡ n → (ks : Classes PyStrInterned) → AllHold w (of_each of_class ks) → All (λ k. AreNamesDistinct k.attrs) ks → All (λ k. All (λ a. a.1.0 < n) k.attrs × AreApart k.attrs) (renamed (spelled t) ks)
  attrs-there n e [] h a = none (λ k. All (λ a. a.1.0 < n) k.attrs × AreApart k.attrs)
  attrs-there n e (k ∷ ks) h a =
      let here = all-first w (of_class k) (of_each of_class ks) h in
      let bound = subst (λ n. All (λ a. a.1.0 < n) (bindings t k.attrs)) e (bound-there k.attrs (all-rest w (of_dict (has_flag (2 ^ 40) k)) _ here.1.1)) in
      more (λ k. All (λ a. a.1.0 < n) k.attrs × AreApart k.attrs) (rekeyed (spelled t) k) (renamed (spelled t) ks) (bound, apart-read t k.attrs (a 0 k (omega arith)))
      (attrs-there n e ks (all-rest w (of_class k) (of_each of_class ks) h) (λ i d l. a (suc i) d (omega arith)))

  dict-is : (x : StoredNode) (r : PyObjectRef) → AllHold w (of_option of_dict_ref x.dict) → x.dict ≡ Some r → option_map home (datum_at (plain t w) r) ≡ Some Dict
  unfolding Holds plain
  dict-is x r h e = home_at-read t w.classes w.nodes r.0 ∙ (subst (λ o. AllHold w (of_option of_dict_ref o)) e h).1.0

  node-is : (x : StoredNode) → AllHold w (of_node x) → IsSoundNode (plain t w) (node_of t w.classes x)
  unfolding Holds plain
  node-is x h =
      let dict = of_option of_dict_ref x.dict in
      let held = all-rest w dict (of_payload x.payload) h.1.1.1.1 in
      record {
        class = there-read x.class.0 ∙ h.0;
        like = ap by_line (lin-renamed (spelled t) w.classes x.class.0) ∙ h.1.0 ∙ ap Some (sym (home-read t x.payload));
        given = h.1.1.1.0.1 ∙ ap (λ b. b && has_dict w.classes x.class.0) (sym (no-class-read x.payload)) ∙ ap (λ b. is_none (class_number (Some (datum t x.payload))) && b) (sym (has_dict-renamed (spelled t) w.classes x.class.0));
        dict = λ r e. dict-is x r (all-first w dict (of_payload x.payload) h.1.1.1.1) e;
        members = λ c i r e. let m = member-is w x.class.0 c i r x.members h.1.1.0 e in (is_place-renamed (spelled t) w.classes x.class.0 c i ∙ m.0, subst (λ n. r.0 < n) (sym (length-map w.nodes (node_of t w.classes))) m.1);
        nodes = subst (λ n. Below n (nodes_in (datum t x.payload))) (sym (length-map w.nodes (node_of t w.classes))) (nodes-there x.payload held);
        keys = keys-there x.payload held;
        classes = all-read (classes_in (datum t x.payload)) (classes-there x.payload held);
        offsets = offsets-read (offsets_in (datum t x.payload)) (offsets-there x.payload held);
      }

  world-is : Sound w → AreSound w.classes → All (λ k. AreNamesDistinct k.attrs) w.classes → IsSound (plain t w)
  unfolding plain
  world-is s k a =
      let size = sym (length-map w.nodes (node_of t w.classes)) in
      record {
        classes = sound-renamed (spelled t) w.classes k;
        nodes = λ i n e.
            let r = stored-at t w.classes w.nodes i n e in
            subst (λ n. IsSoundNode (plain t w) n) r.2 (node-is r.0 (each-get w of_node w.nodes i r.0 r.1 s.nodes));
        standing = class-stands s.standing;
        itself = class-itself s.itself;
        attrs = attrs-there (length (map (node_of t w.classes) w.nodes)) size w.classes s.classes a;
        vars = subst (λ n. All (λ b. b.1.0 < n) (bindings t w.vars)) size (bound-there w.vars s.vars);
        apart = apart-read t w.vars s.apart;
        scopes = scopes-are w.scopes s.scopes s.scopes_apart;
      }

pub world-sound : (w now : Held) → w ≡ now → Sound w → AreSound w.classes → All (λ k. AreNamesDistinct k.attrs) w.classes → (t : Reading) → IsSound (plain t now)
world-sound w now v s k a t = subst (λ u. IsSound (plain t u)) v (world-is w t s k a)
