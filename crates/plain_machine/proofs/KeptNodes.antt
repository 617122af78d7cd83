-- A new node and each change of a node keep a sound world sound.
use Rattle.plain_machine.proofs.Below.{ℕ, zero, suc, Bool, true, false, cond, eqb, List, [], length, Option, Some, None, inl, inr, refl, sym, ap, subst, ◌∙◌, nat_lt, slice_get, is_some, is_none, option_map, eqb-true, and_parts, All-nil, PyObjectRef, Dict, TypeType, Int, Str, class_at as class_numbered, is_class, is_along, layout, member_count, is_place, the_dict, Datum, AnObject, AClass, ANumber, AText, ATuple, AList, ADict, AFunction, AMethod, ANativeFunction, ABuiltinMethod, AMethodDescriptor, AGetSet, AClassMethod, AStaticMethod, AMember, AProperty, ASuper, AnIterator, ASlice, no_members, Node, PlainWorld, ref, node_at, datum_at, has_dict, push_node, with_node_changed, class_number, with_place, with_object_changed, MakeNode, SetClass, SetMember, SetDict, SetDatum, apply, CanMakeNode, CanSetMember, CanSetDict, CanSetDatum, CanSetClass, home, held_by, nodes_in, classes_in, is_offset, offsets_in, keys_in, Key, key_of, AreKeys, params_in, IsSoundNode, IsSound}
use Rattle.std.proofs.Common.{◌≡◌, ◌<◌, ◌⊎◌, ◌&&◌, ◌∷◌}
use Rattle.plain_machine.specs.World.{class_at}
use Rattle.plain_machine.proofs.NearestByLayout.{held-by_layout}
use Rattle.plain_machine.proofs.Lasting.{Lasting, lasting, Lasts, like-itself, lasts-on, stands, standing-still, nodes-still, classes-still, offsets-still, keys-still, sound_node-still, bound-still, scopes-still, attrs-still}
use Rattle.plain_machine.proofs.Pushed.{get-end, get-pushed, holder, pushed, push-lasts, push-kept}

module _ (f : Node → Node) where
  abbrev IsEither : ℕ → ℕ → Node → Node → Type 0
  IsEither r i x y = (y ≡ x) ⊎ ((i ≡ r) × (y ≡ f x))

  either-past : (r i : ℕ) (x y : Node) → IsEither r i x y → IsEither (suc r) (suc i) x y
  either-past r i x y (inl q) = inl q
  either-past r i x y (inr q) = inr (ap suc q.0, q.1)

  -- a node that stands there afterwards was there, or is the changed one
  changed-from : (ns : List Node) (r i : ℕ) (y : Node) → slice_get (with_node_changed f ns r) i ≡ Some y → (x : Node) × (slice_get ns i ≡ Some x) × IsEither r i x y
  changed-from [] r i y e = cc
  changed-from (n ∷ ns) zero zero y e = (n, refl, inr (refl, cc))
  changed-from (n ∷ ns) zero (suc i) y e = (y, e, inl refl)
  changed-from (n ∷ ns) (suc r) zero y e = (n, refl, inl (cc))
  changed-from (n ∷ ns) (suc r) (suc i) y e = let h = changed-from ns r i y e in (h.0, h.1, either-past r i h.0 y h.2)

  changed-to : (ns : List Node) (r i : ℕ) (x : Node) → slice_get ns i ≡ Some x → (y : Node) × (slice_get (with_node_changed f ns r) i ≡ Some y) × IsEither r i x y
  changed-to [] r i x e = cc
  changed-to (n ∷ ns) zero zero x e = (f n, refl, inr (refl, let same : n ≡ x = cc in ap f same))
  changed-to (n ∷ ns) zero (suc i) x e = (x, e, inl refl)
  changed-to (n ∷ ns) (suc r) zero x e = (n, refl, inl (cc))
  changed-to (n ∷ ns) (suc r) (suc i) x e = let h = changed-to ns r i x e in (h.0, h.1, either-past r i x h.0 h.2)

-- a node that tells what it told and is sound again keeps the world sound
module _ (w : PlainWorld) (f : Node → Node) (r : PyObjectRef) (s : IsSound w) (tells : (x : Node) → node_at w r ≡ Some x → lasting (f x).datum ≡ lasting x.datum) (sound : (x : Node) → node_at w r ≡ Some x → IsSoundNode w x → IsSoundNode w (f x)) where
  abbrev changed : PlainWorld
  changed = with_object_changed w f r

  here : (i : ℕ) (x : Node) → slice_get w.nodes i ≡ Some x → i ≡ r.0 → node_at w r ≡ Some x
  here i x e q = subst (λ i. slice_get w.nodes i ≡ Some x) q e

  told : (i : ℕ) (x y : Node) → slice_get w.nodes i ≡ Some x → IsEither f r.0 i x y → lasting y.datum ≡ lasting x.datum
  told i x y e (inl q) = ap (λ (n : Node). lasting n.datum) q
  told i x y e (inr q) = ap (λ (n : Node). lasting n.datum) q.1 ∙ tells x (here i x e q.0)

  again : (i : ℕ) (x y : Node) → slice_get w.nodes i ≡ Some x → IsEither f r.0 i x y → IsSoundNode w y
  again i x y e (inl q) = subst (IsSoundNode w) (sym q) (s.nodes i x e)
  again i x y e (inr q) = subst (IsSoundNode w) (sym q.1) (sound x (here i x e q.0) (s.nodes i x e))

  lasts : Lasts w changed
  lasts = record {
    stays = λ n x e. let h = changed-to f w.nodes r.0 n x e in (h.0, h.1, told n x h.0 e h.2);
    like = like-itself w.classes;
  }

  changed-kept : IsSound changed
  changed-kept = record {
    classes = s.classes;
    nodes = λ i y e. let h = changed-from f w.nodes r.0 i y e in sound_node-still w changed lasts y (again i h.0 y h.1 h.2);
    standing = λ c l. standing-still w changed lasts c (s.standing c l);
    itself = λ n c e.
        let p = holder (slice_get changed.nodes n) (AClass c) e in
        let h = changed-from f w.nodes r.0 n p.0 p.1 in
        let class : class_number (Some h.0.datum) ≡ Some c = sym (ap (λ (l : Lasting). l.class) (told n h.0 p.0 h.1 h.2)) ∙ ap (λ d. class_number (Some d)) p.2 in
        s.itself n c (ap (option_map (λ (n : Node). n.datum)) h.1 ∙ stands (Some h.0.datum) c class);
    attrs = attrs-still w changed lasts w.classes s.attrs;
    vars = bound-still w changed lasts w.vars s.vars;
    apart = s.apart;
    scopes = scopes-still w changed lasts w.scopes s.scopes;
  }

-- what is read of the object's class, read of the node
of-class : {B : Type 0} (w : PlainWorld) (r : PyObjectRef) (x : Node) (f : ℕ → B) (b : B) → node_at w r ≡ Some x → option_map f (class_at w r) ≡ Some b → f x.class ≡ b
of-class {B} w r x f b e h = let q : Some (f x.class) ≡ Some b = ap (λ (o : Option Node). option_map f (option_map (λ (n : Node). n.class) o)) (sym e) ∙ h in cc

-- a place of an object
module _ (w : PlainWorld) (r : PyObjectRef) (p : ℕ × ℕ) (x : Node) (e : node_at w r ≡ Some x) where
  set-place : (v : Option PyObjectRef) → CanSetMember w r p v → (o : PyObjectRef) → v ≡ Some o → (is_place w.classes x.class p.0 p.1 ≡ true) × (o.0 < length w.nodes)
  set-place None a o q = cc
  set-place (Some u) a o q =
      let same : u ≡ o = cc in
      (of-class w r x (λ c. is_place w.classes c p.0 p.1) true e a.0, subst (λ (o : PyObjectRef). o.0 < length w.nodes) same a.1)

  set-members : (v : Option PyObjectRef) → CanSetMember w r p v → IsSoundNode w x → (c i : ℕ) (o : PyObjectRef) → with_place x.members p.0 p.1 v c i ≡ Some o → (is_place w.classes x.class c i ≡ true) × (o.0 < length w.nodes)
  set-members v a h c i o q = go (eqb c p.0 && eqb i p.1) refl q
    where
      go : (b : Bool) → (eqb c p.0 && eqb i p.1) ≡ b → cond b v (x.members c i) ≡ Some o → (is_place w.classes x.class c i ≡ true) × (o.0 < length w.nodes)
      go false k q = h.members c i o q
      go true k q =
          let k = and_parts (eqb c p.0) (eqb i p.1) k in
          let m = set-place v a o q in
          (ap (λ c. is_place w.classes x.class c i) (eqb-true c p.0 k.0) ∙ ap (λ i. is_place w.classes x.class p.0 i) (eqb-true i p.1 k.1) ∙ m.0, m.1)

pub member-kept : (w : PlainWorld) (r : PyObjectRef) (p : ℕ × ℕ) (v : Option PyObjectRef) → CanSetMember w r p v → IsSound w → IsSound (apply w (SetMember r p v))
member-kept w r p v a s =
    changed-kept w (λ n. record n { members = with_place n.members p.0 p.1 v }) r s (λ x e. refl) (λ x e h. record { class = h.class; like = h.like; given = h.given; dict = h.dict; members = set-members w r p x e v a h; nodes = h.nodes; keys = h.keys; classes = h.classes; offsets = h.offsets })

pub dict-kept : (w : PlainWorld) (r d : PyObjectRef) → CanSetDict w r d → IsSound w → IsSound (apply w (SetDict r d))
dict-kept w r d a s =
    changed-kept w (λ n. record n { dict = Some d }) r s (λ x e. refl) (λ x e h. record {
      class = h.class;
      like = h.like;
      given = sym (had x e) ∙ h.given;
      dict = λ o q. let same : d ≡ o = cc in subst (λ o. option_map home (datum_at w o) ≡ Some Dict) same a.dict;
      members = h.members;
      nodes = h.nodes;
      keys = h.keys;
      classes = h.classes;
      offsets = h.offsets;
    })
  where
    had : (x : Node) → node_at w r ≡ Some x → is_some x.dict ≡ true
    had x e = let q : Some (is_some x.dict) ≡ Some true = ap (option_map (λ (n : Node). is_some n.dict)) (sym e) ∙ a.had in cc

-- a class with the same layout has the same places
pub class-kept : (w : PlainWorld) (r : PyObjectRef) (c : ℕ) → CanSetClass w r c → IsSound w → IsSound (apply w (SetClass r c))
class-kept w r c a s =
    changed-kept w (λ n. record n { class = c }) r s (λ x e. refl) (λ x e h. record {
      class = a.class;
      like = sym (held-by_layout w.classes w.classes x.class c (of-class w r x (layout w.classes) (layout w.classes c) e a.layout)) ∙ h.like;
      given = h.given ∙ ap (λ b. is_none (class_number (Some x.datum)) && b) (of-class w r x (has_dict w) (has_dict w c) e a.dict);
      dict = h.dict;
      members = λ d i o q. let m = h.members d i o q in (ap (λ l. is_along d l && nat_lt i (member_count (class_numbered w.classes d))) (sym (of-class w r x (layout w.classes) (layout w.classes c) e a.layout)) ∙ m.0, m.1);
      nodes = h.nodes;
      keys = h.keys;
      classes = h.classes;
      offsets = h.offsets;
    })

-- numbers and texts alone are keys
no-key : (d : Datum) → (home d ≡ Int → ⊥) → (home d ≡ Str → ⊥) → key_of d ≡ None
no-key AnObject n t = refl
no-key (AClass c) n t = refl
no-key (ANumber z) n t = absurd (n refl)
no-key (AText x) n t = absurd (t refl)
no-key (ATuple rs) n t = refl
no-key (AList rs) n t = refl
no-key (ADict es) n t = refl
no-key (AFunction x ps rest b c) n t = refl
no-key (AMethod r f) n t = refl
no-key (ANativeFunction x m r doc) n t = refl
no-key (ABuiltinMethod x m r k doc) n t = refl
no-key (AMethodDescriptor c x m flags doc) n t = refl
no-key (AGetSet c x get set) n t = refl
no-key (AClassMethod r) n t = refl
no-key (AStaticMethod r) n t = refl
no-key (AMember d x kind get set q doc) n t = refl
no-key (AProperty p) n t = refl
no-key (ASuper d o) n t = refl
no-key (AnIterator i) n t = refl
no-key (ASlice s) n t = refl

no-class : (d : Datum) → (home d ≡ TypeType → ⊥) → class_number (Some d) ≡ None
no-class AnObject n = refl
no-class (AClass c) n = absurd (n refl)
no-class (ANumber z) n = refl
no-class (AText x) n = refl
no-class (ATuple rs) n = refl
no-class (AList rs) n = refl
no-class (ADict es) n = refl
no-class (AFunction x ps rest b c) n = refl
no-class (AMethod r f) n = refl
no-class (ANativeFunction x m r doc) n = refl
no-class (ABuiltinMethod x m r k doc) n = refl
no-class (AMethodDescriptor c x m flags doc) n = refl
no-class (AGetSet c x get set) n = refl
no-class (AClassMethod r) n = refl
no-class (AStaticMethod r) n = refl
no-class (AMember d x kind get set q doc) n = refl
no-class (AProperty p) n = refl
no-class (ASuper d o) n = refl
no-class (AnIterator i) n = refl
no-class (ASlice s) n = refl

-- what an object holds
module _ (w : PlainWorld) (r : PyObjectRef) (d : Datum) (a : CanSetDatum w r d) (x : Node) (e : node_at w r ≡ Some x) where
  same-home : home x.datum ≡ home d
  same-home = let q : Some (home x.datum) ≡ Some (home d) = ap (λ (o : Option Node). option_map home (option_map (λ (n : Node). n.datum) o)) (sym e) ∙ a.like in cc

  same-params : params_in (Some d) ≡ params_in (Some x.datum)
  same-params = a.params ∙ ap (λ (o : Option Node). params_in (option_map (λ (n : Node). n.datum) o)) e

  set-tells : lasting d ≡ lasting x.datum
  set-tells =
      let h = same-home in
      let key : key_of d ≡ key_of x.datum = no-key d a.number a.text ∙ sym (no-key x.datum (λ q. a.number (sym h ∙ q)) (λ q. a.text (sym h ∙ q))) in
      let class : class_number (Some d) ≡ class_number (Some x.datum) = no-class d a.holds.class ∙ sym (no-class x.datum (λ q. a.holds.class (sym h ∙ q))) in
      let params = same-params in
      cc (h, key, class, params)

pub datum-kept : (w : PlainWorld) (r : PyObjectRef) (d : Datum) → CanSetDatum w r d → IsSound w → IsSound (apply w (SetDatum r d))
datum-kept w r d a s =
    changed-kept w (λ n. record n { datum = d }) r s (set-tells w r d a) (λ x e h. record {
      class = h.class;
      like = h.like ∙ ap Some (same-home w r d a x e);
      given = h.given ∙ sym (ap (λ o. is_none o && has_dict w x.class) (ap (λ (l : Lasting). l.class) (set-tells w r d a x e)));
      dict = h.dict;
      members = h.members;
      nodes = a.holds.nodes;
      keys = a.holds.keys;
      classes = a.holds.classes;
      offsets = a.holds.offsets;
    })

pub no-keys : (at : PyObjectRef → Option Key) → AreKeys at []
no-keys at = record { known = λ i r e. cc; apart = λ i j r s e f q. cc }

-- a new object
module _ (w : PlainWorld) (c : ℕ) (d : Datum) (a : CanMakeNode w c d) (s : IsSound w) where
  abbrev made : Option PyObjectRef → Node
  made dict = record { class = c; dict = dict; members = no_members; datum = d }

  made-sound : (u : PlainWorld) → Lasts w u → (dict : Option PyObjectRef) → has_dict w c ≡ is_some dict → ((r : PyObjectRef) → dict ≡ Some r → option_map home (datum_at u r) ≡ Some Dict) → IsSoundNode u (made dict)
  made-sound u g dict gives h = record {
    class = g.like.there c a.class;
    like = g.like.held c (home d) a.like;
    given = sym (ap (λ o. is_none o && has_dict u c) (no-class d a.holds.class) ∙ g.like.dicts c a.class ∙ gives);
    dict = h;
    members = λ e i r q. cc;
    nodes = nodes-still w u g (nodes_in d) a.holds.nodes;
    keys = keys-still w u g (keys_in d) a.holds.keys;
    classes = classes-still w u g (classes_in d) a.holds.classes;
    offsets = offsets-still w u g (offsets_in d) a.holds.offsets;
  }

  -- it is no class
  plain : (n : ℕ) (e : ℕ) → d ≡ AClass e → n ≡ e
  plain n e q = absurd (a.holds.class (ap home q))

  abbrev alone : PlainWorld
  alone = pushed w (made None) w.classes

  alone-kept : has_dict w c ≡ false → IsSound alone
  alone-kept none =
      let g = push-lasts w (made None) w.classes (like-itself w.classes) in
      push-kept w (made None) w.classes s (like-itself w.classes) s.classes (made-sound alone g None none (λ r q. cc)) (λ k l. standing-still w alone g k (s.standing k l)) (plain (length w.nodes)) (attrs-still w alone g w.classes s.attrs)

  -- the dict that comes first
  abbrev empty : Node
  empty = record { class = the_dict; dict = None; members = no_members; datum = ADict [] }

  abbrev dicted : PlainWorld
  dicted = pushed w empty w.classes

  module _ (gives : has_dict w c ≡ true) (dicts : (is_class w.classes the_dict ≡ true) × (held_by w.classes the_dict ≡ Some Dict) × (has_dict w the_dict ≡ false)) where
    first : Lasts w dicted
    first = push-lasts w empty w.classes (like-itself w.classes)

    empty-sound : IsSoundNode dicted empty
    empty-sound = record {
      class = dicts.0;
      like = dicts.1;
      given = sym dicts.2;
      dict = λ r q. cc;
      members = λ e i r q. cc;
      nodes = All-nil (λ (r : PyObjectRef). r.0 < length dicted.nodes);
      keys = no-keys _;
      classes = All-nil (λ c. is_class w.classes c ≡ true);
      offsets = All-nil (λ p. is_offset w.classes p.0 p.1 ≡ true);
    }

    dicted-kept : IsSound dicted
    dicted-kept =
        push-kept w empty w.classes s (like-itself w.classes) s.classes empty-sound (λ k l. standing-still w dicted first k (s.standing k l)) (λ e q. cc) (attrs-still w dicted first w.classes s.attrs)

    abbrev owner : Node
    owner = made (Some (ref (length w.nodes)))

    abbrev both : PlainWorld
    both = pushed dicted owner w.classes

    second : Lasts dicted both
    second = push-lasts dicted owner w.classes (like-itself w.classes)

    its-dict : (r : PyObjectRef) → Some (ref (length w.nodes)) ≡ Some r → option_map home (datum_at both r) ≡ Some Dict
    its-dict r q =
        let same : ref (length w.nodes) ≡ r = cc in
        let there : slice_get both.nodes (length w.nodes) ≡ Some empty = get-pushed dicted.nodes owner (length w.nodes) empty (get-end w.nodes empty) in
        subst (λ r. option_map home (datum_at both r) ≡ Some Dict) same (ap (λ (o : Option Node). option_map home (option_map (λ (n : Node). n.datum) o)) there)

    both-kept : IsSound both
    both-kept =
        let t = dicted-kept in
        push-kept dicted owner w.classes t (like-itself w.classes) t.classes (made-sound both (lasts-on w dicted both first second) (Some (ref (length w.nodes))) gives its-dict) (λ k l. standing-still dicted both second k (t.standing k l)) (plain (length dicted.nodes)) (attrs-still dicted both second w.classes t.attrs)

pub made-kept : (w : PlainWorld) (c : ℕ) (d : Datum) → CanMakeNode w c d → IsSound w → IsSound (apply w (MakeNode c d))
made-kept w c d a s = go (has_dict w c) refl
  where
    go : (b : Bool) → has_dict w c ≡ b → IsSound (cond b (push_node (push_node w the_dict None (ADict [])) c (Some (ref (length w.nodes))) d) (push_node w c None d))
    go true e = both-kept w c d a s e (a.dicts e)
    go false e = alone-kept w c d a s e
