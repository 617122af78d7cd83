-- Objects whose contents change, in a world.
use Rattle.class_world.proofs.Below.{ℕ, zero, suc, false, List, [], length, map, get_or, Some, None, refl, sym, ap, ◌∙◌, subst, arith, slice_set, is_some, option_map, PyObjectRef, BuiltIn, Node as StoredNode, Payload, PyProperty, PyStrInterned, Classes, AProperty, with_datum_in, with_datum, keeps-itself, Held, Reading, datum, node_of, plain, IsNode, IsOf, GetsDict, Holding, home_of, is_lasting, class_in, with_payload, Holds, AllHold, Grows, Sound, of_option, of_dict_ref, of_payload, of_property, of_node, with_parts}
use Rattle.std.proofs.Common.{◌≡◌, ◌<◌, ◌∷◌}
use Rattle.py_node.specs.declared.payload.Payload.TheVariants as payload
use Rattle.py_node.specs.declared.built_in.BuiltIn.TheVariants as built_in
use Rattle.plain_machine.specs.Plain.{Node}
use Rattle.class_world.proofs.Claims.{opened-one, all-grow, all-append, all-first, each-get, got}
use Rattle.class_world.proofs.Growth.{Lasting, lasting, like-itself, grows, grows-lasts}
use Rattle.class_world.proofs.Changes.{fixed-grow, built_in-grow}
use Rattle.class_world.proofs.Defined.{set-length, each-set, stays-set, class-set}

-- what tells nothing for ever but its kind
abbrev bare : BuiltIn → Lasting
bare b = record { home = b; key = None; class = None; params = None }

lasts-bare : (p : Payload) → is_lasting (home_of p) ≡ false → lasting p ≡ bare (home_of p)
lasts-bare payload.Object e = refl
lasts-bare (payload.Class d) e = cc
lasts-bare (payload.Number z) e = cc
lasts-bare (payload.Text s) e = cc
lasts-bare (payload.Tuple rs) e = refl
lasts-bare (payload.List rs) e = refl
lasts-bare (payload.Dict es) e = refl
lasts-bare (payload.Function f) e = cc
lasts-bare (payload.Method m) e = refl
lasts-bare (payload.NativeFunction f) e = refl
lasts-bare (payload.BuiltinMethod m) e = refl
lasts-bare (payload.MethodDescriptor m) e = refl
lasts-bare (payload.GetSet g) e = refl
lasts-bare (payload.ClassMethod r) e = refl
lasts-bare (payload.StaticMethod r) e = refl
lasts-bare (payload.Member m) e = refl
lasts-bare (payload.Property p) e = refl
lasts-bare (payload.Super s) e = refl
lasts-bare (payload.Iterator i) e = refl
lasts-bare (payload.Slice s) e = refl

module _ (w now : Held) (r : PyObjectRef) (n : StoredNode) (p : Payload) where
  abbrev pub changed : Held
  changed = record w { nodes = slice_set w.nodes r.0 (with_payload n p) }

  -- an object of the same kind as the new contents
  pub record IsThere : Type 0 where
    pub below : r.0 < length w.nodes
    pub home : home_of n.payload ≡ home_of p

  pub there : w ≡ now → Holds now (IsNode r) → Holds now (Holding r (home_of p)) → n ≡ get_or w.nodes r.0 n → IsThere
  unfolding Holds
  there v h k e =
      let here = opened-one w now (IsNode r) v h in
      let at = got w.nodes r.0 n here e in
      let home : Some (home_of n.payload) ≡ Some (home_of p) = sym (ap (option_map (λ (x : StoredNode). home_of x.payload)) at) ∙ opened-one w now (Holding r (home_of p)) v k in
      record { below = here; home = cc }

  same-lasting : is_lasting (home_of p) ≡ false → home_of n.payload ≡ home_of p → lasting p ≡ lasting n.payload
  same-lasting k h = lasts-bare p k ∙ sym (ap bare h) ∙ sym (lasts-bare n.payload (ap is_lasting h ∙ k))

  pub payload-grows : n ≡ get_or w.nodes r.0 n → is_lasting (home_of p) ≡ false → home_of n.payload ≡ home_of p → Grows w changed
  payload-grows e k h =
      let l = set-length w.nodes r.0 (with_payload n p) in
      grows w changed (keeps-itself w.log) refl refl (λ m x h. h) (omega arith) (λ m f h. h) (omega arith) (record { stays = stays-set w.classes w.nodes r.0 n (with_payload n p) e (same-lasting k h) (λ h. refl) }) (like-itself w.classes)

  pub payload-sound : n ≡ get_or w.nodes r.0 n → is_lasting (home_of p) ≡ false → IsThere → AllHold w (of_payload p) → Sound w → Sound changed
  payload-sound e k i h s =
      let more = payload-grows e k i.home in
      let go = all-grow w changed more in
      let q = same-lasting k i.home in
      let all = each-get w of_node w.nodes r.0 n (got w.nodes r.0 n i.below e) s.nodes in
      let like = subst (λ b. Holds w (IsOf n.class.0 b)) i.home all.1.0 in
      let dict = all-first w (of_option of_dict_ref n.dict) _ all.1.1.1.1 in
      let gets : Holds w (GetsDict (class_in p) n.class.0 (is_some n.dict)) = subst (λ o. Holds w (GetsDict o n.class.0 (is_some n.dict))) (ap (λ (l : Lasting). l.class) (sym q)) all.1.1.1.0 in
      let there : AllHold w (of_node (with_payload n p)) = (all.0, (like, (all.1.1.0, (gets, all-append w (of_option of_dict_ref n.dict) _ dict h)))) in
      let same : class_in p ≡ class_in n.payload = ap (λ (l : Lasting). l.class) q in
      record { forms = go _ s.forms; below = s.below; nodes = go _ (each-set w of_node w.nodes r.0 (with_payload n p) s.nodes there); classes = go _ s.classes; vars = go _ s.vars; scopes = go _ s.scopes; fixed = fixed-grow w changed s.fixed (grows-lasts w changed more); built_in = built_in-grow w changed s.built_in (grows-lasts w changed more); own = λ b. more.still _ (s.own b); flags = λ b. more.still _ (s.flags b); of_none = more.still _ s.of_none; unmarked = s.unmarked; standing = λ c e. more.still _ (s.standing c e); itself = λ m c q. s.itself m c (class-set w.nodes r.0 n (with_payload n p) e same m c q); apart = s.apart; scopes_apart = s.scopes_apart; known = s.known; logged = s.logged }

  nodes-read : (t : Reading) (ks : Classes PyStrInterned) (ns : List StoredNode) (i : ℕ) → i < length ns → n ≡ get_or ns i n → map (node_of t ks) (slice_set ns i (with_payload n p)) ≡ with_datum_in (λ m. datum t p) (map (node_of t ks) ns) i
  nodes-read t ks [] i l e = absurd (omega arith)
  nodes-read t ks (m ∷ ns) zero l e = ap (λ (n : StoredNode). record (node_of t ks n) { datum = datum t p } ∷ map (node_of t ks) ns) e
  nodes-read t ks (m ∷ ns) (suc i) l e = ap (λ ms. node_of t ks m ∷ ms) (nodes-read t ks ns i (omega arith) e)

  pub payload-read : w ≡ now → r.0 < length w.nodes → n ≡ get_or w.nodes r.0 n → (t : Reading) → plain t changed ≡ with_datum (plain t now) r (datum t p)
  unfolding plain
  payload-read v l e t =
      subst (λ u. plain t changed ≡ with_datum (plain t u) r (datum t p)) v
      (ap (λ (ns : List Node). record (plain t w) { nodes = ns }) (nodes-read t w.classes w.nodes r.0 l e))

-- a property with other parts is one, and holds them
pub record IsProperty (v : PyProperty) (p : Payload) : Type 0 where
  pub home : home_of (with_parts v p) ≡ built_in.Property
  pub claims : of_payload (with_parts v p) ≡ of_property v
  pub read : (t : Reading) → datum t (with_parts v p) ≡ AProperty v

pub is-property : (v : PyProperty) (p : Payload) → home_of p ≡ built_in.Property → IsProperty v p
is-property v (payload.Property p) h = record { home = refl; claims = refl; read = λ t. refl }
is-property v _ h = cc

pub record IsPropertyThere (w now : Held) (r : PyObjectRef) (n : StoredNode) (v : PyProperty) : Type 0 where
  pub there : IsThere w now r n (with_parts v n.payload)
  pub lasts : is_lasting (home_of (with_parts v n.payload)) ≡ false
  pub claims : of_payload (with_parts v n.payload) ≡ of_property v
  pub read : (t : Reading) → datum t (with_parts v n.payload) ≡ AProperty v

pub property-there : (w now : Held) (r : PyObjectRef) (n : StoredNode) (v : PyProperty) → w ≡ now → Holds now (IsNode r) → Holds now (Holding r built_in.Property) → n ≡ get_or w.nodes r.0 n → IsPropertyThere w now r n v
unfolding Holds
property-there w now r n v e h k i =
    let here = opened-one w now (IsNode r) e h in
    let at = got w.nodes r.0 n here i in
    let some : Some (home_of n.payload) ≡ Some built_in.Property = sym (ap (option_map (λ (x : StoredNode). home_of x.payload)) at) ∙ opened-one w now (Holding r built_in.Property) e k in
    let home : home_of n.payload ≡ built_in.Property = cc some in
    let is = is-property v n.payload home in
    record { there = record { below = here; home = home ∙ sym is.home }; lasts = ap is_lasting is.home; claims = is.claims; read = is.read }
