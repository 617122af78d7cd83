-- Worlds of which the second keeps what the first has: what was sound in the first is sound in the second.
use Rattle.plain_machine.proofs.Below.{ℕ, zero, suc, true, List, [], length, Option, Some, None, refl, sym, ap, subst, ◌∙◌, arith, slice_get, is_some, is_none, option_map, option_and_then, All, All-weaker, slice_get_within, PyObjectRef, BuiltIn, Dict, Function, value_of, Text, Class, Classes, is_class, is_place, Datum, AnObject, AClass, ANumber, AText, ATuple, AList, ADict, AFunction, AMethod, ANativeFunction, ABuiltinMethod, AMethodDescriptor, AGetSet, AClassMethod, AStaticMethod, AMember, AProperty, ASuper, AnIterator, ASlice, Node, Bindings, Scope, PlainWorld, is_text, ref, datum_at, class_number, home, held_by, nodes_in, classes_in, is_offset, offsets_in, keys_in, Key, key_of, key_at, AreKeys, AreThere, AreOffsets, AreBound, AreApart, params_in, IsSoundNode, IsSoundScope}
use Rattle.std.proofs.Common.{◌≡◌, ◌<◌, ◌∷◌}
use Rattle.std.specs.Prelude.{◌&&◌}
use Rattle.class_model.specs.Dict.{has_dict}

-- what an object tells for ever: whose like it holds, the key that it is, the class that it stands for, and the parameters of a function
pub record Lasting : Type 0 where
  pub home : BuiltIn
  pub key : Option Key
  pub class : Option ℕ
  pub params : List Text

abbrev pub lasting : Datum → Lasting
lasting d = record { home = home d; key = key_of d; class = class_number (Some d); params = params_in (Some d) }

-- each class is there still, holds the like, has its places, which offsets stand for, and gives a dict as before
pub record Like (old new : Classes Text) : Type 0 where
  pub there : (c : ℕ) → is_class old c ≡ true → is_class new c ≡ true
  pub held : (c : ℕ) (b : BuiltIn) → held_by old c ≡ Some b → held_by new c ≡ Some b
  pub places : (c d i : ℕ) → is_class old c ≡ true → is_place old c d i ≡ true → is_place new c d i ≡ true
  pub offsets : (c : ℕ) (o : Option ℕ) → is_offset old c o ≡ true → is_offset new c o ≡ true
  pub dicts : (c : ℕ) → is_class old c ≡ true → has_dict new c ≡ has_dict old c

-- and each node is there still and tells what it told
pub record Lasts (old new : PlainWorld) : Type 0 where
  pub stays : (n : ℕ) (x : Node) → slice_get old.nodes n ≡ Some x → (y : Node) × (slice_get new.nodes n ≡ Some y) × (lasting y.datum ≡ lasting x.datum)
  pub like : Like old.classes new.classes

pub like-itself : (t : Classes Text) → Like t t
like-itself t = record { there = λ c h. h; held = λ c b h. h; places = λ c d i l h. h; offsets = λ c o h. h; dicts = λ c h. refl }

pub lasts-on : (a b c : PlainWorld) → Lasts a b → Lasts b c → Lasts a c
lasts-on a b c g h = record {
  stays = λ n x e. let y = g.stays n x e in let z = h.stays n y.0 y.1 in (z.0, z.1, z.2 ∙ y.2);
  like = record {
    there = λ k e. h.like.there k (g.like.there k e);
    held = λ k q e. h.like.held k q (g.like.held k q e);
    places = λ k d i l e. h.like.places k d i (g.like.there k l) (g.like.places k d i l e);
    offsets = λ k o e. h.like.offsets k o (g.like.offsets k o e);
    dicts = λ k l. h.like.dicts k (g.like.there k l) ∙ g.like.dicts k l;
  };
}

-- a list has an element at each place below its length
known-at : {A : Type 0} (xs : List A) (n : ℕ) → n < length xs → (x : A) × (slice_get xs n ≡ Some x)
known-at [] n h = absurd (omega arith)
known-at (x ∷ xs) zero h = (x, refl)
known-at (x ∷ xs) (suc n) h = known-at xs n (omega arith)

pub known : {A : Type 0} (o : Option A) → is_some o ≡ true → (x : A) × (o ≡ Some x)
known None e = cc
known (Some x) e = (x, refl)

-- the class that an object stands for is what it holds
tells : (d : Datum) (c : ℕ) → class_number (Some d) ≡ Some c → d ≡ AClass c
tells AnObject c e = cc
tells (AClass d) c e = let same : d ≡ c = cc in ap AClass same
tells (ANumber z) c e = cc
tells (AText x) c e = cc
tells (ATuple rs) c e = cc
tells (AList rs) c e = cc
tells (ADict es) c e = cc
tells (AFunction x ps rest b d) c e = cc
tells (AMethod r f) c e = cc
tells (ANativeFunction x n r doc) c e = cc
tells (ABuiltinMethod x n r k doc) c e = cc
tells (AMethodDescriptor d x n flags doc) c e = cc
tells (AGetSet d x get set) c e = cc
tells (AClassMethod r) c e = cc
tells (AStaticMethod r) c e = cc
tells (AMember d x kind get set q doc) c e = cc
tells (AProperty p) c e = cc
tells (ASuper d o) c e = cc
tells (AnIterator i) c e = cc
tells (ASlice s) c e = cc

pub stands : (o : Option Datum) (c : ℕ) → class_number o ≡ Some c → o ≡ Some (AClass c)
stands None c e = cc
stands (Some d) c e = ap Some (tells d c e)

module _ (old new : PlainWorld) (g : Lasts old new) where
  -- what is read of an object, and follows from what it tells for ever, is read still
  still-read : {B : Type 0} (f : Lasting → Option B) (of : Option Datum → Option B) → of None ≡ None → ((d : Datum) → of (Some d) ≡ f (lasting d)) → (r : PyObjectRef) (b : B) → of (datum_at old r) ≡ Some b → of (datum_at new r) ≡ Some b
  still-read {B} f of nothing read r b h = go (slice_get old.nodes r.0) refl h
    where
      go : (o : Option Node) → slice_get old.nodes r.0 ≡ o → of (option_map (λ (x : Node). x.datum) o) ≡ Some b → of (datum_at new r) ≡ Some b
      go None e h = let absent : None ≡ Some b = sym nothing ∙ h in cc absent
      go (Some x) e h =
          let y = g.stays r.0 x e in
          ap (λ o. of (option_map (λ (x : Node). x.datum) o)) y.1 ∙ read y.0.datum ∙ ap f y.2 ∙ sym (read x.datum) ∙ h

  pub home-still : (r : PyObjectRef) (b : BuiltIn) → option_map home (datum_at old r) ≡ Some b → option_map home (datum_at new r) ≡ Some b
  home-still = still-read (λ l. Some l.home) (option_map home) refl (λ d. refl)

  key-still : (r : PyObjectRef) (k : Key) → key_at old r ≡ Some k → key_at new r ≡ Some k
  key-still = still-read (λ l. l.key) (option_and_then key_of) refl (λ d. refl)

  -- a node that stands for a class stands for it still
  pub standing-still : (c : ℕ) → datum_at old (ref c) ≡ Some (AClass c) → datum_at new (ref c) ≡ Some (AClass c)
  standing-still c e =
      stands (datum_at new (ref c)) c (still-read (λ l. l.class) class_number refl (λ d. refl) (ref c) c (ap class_number e))

  params-still : (r : PyObjectRef) (b : BuiltIn) → option_map home (datum_at old r) ≡ Some b → params_in (datum_at new r) ≡ params_in (datum_at old r)
  params-still r b h = go (slice_get old.nodes r.0) refl h
    where
      go : (o : Option Node) → slice_get old.nodes r.0 ≡ o → option_map home (option_map (λ (x : Node). x.datum) o) ≡ Some b → params_in (datum_at new r) ≡ params_in (datum_at old r)
      go None e h = cc
      go (Some x) e h =
          let y = g.stays r.0 x e in
          let read : Option Node → List Text = λ o. params_in (option_map (λ (x : Node). x.datum) o) in
          ap read y.1 ∙ ap (λ (l : Lasting). l.params) y.2 ∙ sym (ap read e)

  pub node-still : (n : ℕ) → n < length old.nodes → n < length new.nodes
  node-still n h =
      let x = known-at old.nodes n h in
      let y = g.stays n x.0 x.1 in
      slice_get_within new.nodes n y.0 y.1

  pub nodes-still : (rs : List PyObjectRef) → AreThere old rs → AreThere new rs
  nodes-still = All-weaker (λ r. r.0 < length old.nodes) (λ r. r.0 < length new.nodes) (λ r h. node-still r.0 h)

  pub classes-still : (cs : List ℕ) → All (λ c. is_class old.classes c ≡ true) cs → All (λ c. is_class new.classes c ≡ true) cs
  classes-still = All-weaker (λ c. is_class old.classes c ≡ true) (λ c. is_class new.classes c ≡ true) (λ c h. g.like.there c h)

  pub offsets-still : (ps : List (ℕ × Option ℕ)) → AreOffsets old ps → AreOffsets new ps
  offsets-still = All-weaker (λ p. is_offset old.classes p.0 p.1 ≡ true) (λ p. is_offset new.classes p.0 p.1 ≡ true) (λ p h. g.like.offsets p.0 p.1 h)

  pub bound-still : (bs : Bindings) → AreBound old bs → AreBound new bs
  bound-still = All-weaker (λ b. b.1.0 < length old.nodes) (λ b. b.1.0 < length new.nodes) (λ b h. node-still b.1.0 h)

  pub keys-still : (rs : List PyObjectRef) → AreKeys (key_at old) rs → AreKeys (key_at new) rs
  keys-still rs h = record {
    known = λ i r e. let a = known (key_at old r) (h.known i r e) in ap is_some (key-still r a.0 a.1);
    apart = λ i j r s e f q.
        let a = known (key_at old r) (h.known i r e) in
        let b = known (key_at old s) (h.known j s f) in
        let same : key_at old r ≡ key_at old s = let p = key-still r a.0 a.1 in let x = key-still s b.0 b.1 in cc (a.1, b.1, p, x, q) in
        h.apart i j r s e f same;
  }

  pub sound_node-still : (n : Node) → IsSoundNode old n → IsSoundNode new n
  sound_node-still n h = record {
    class = g.like.there n.class h.class;
    like = g.like.held n.class (home n.datum) h.like;
    given = h.given ∙ sym (ap (λ b. is_none (class_number (Some n.datum)) && b) (g.like.dicts n.class h.class));
    dict = λ r e. home-still r Dict (h.dict r e);
    members = λ c i r e. let m = h.members c i r e in (g.like.places n.class c i h.class m.0, node-still r.0 m.1);
    nodes = nodes-still (nodes_in n.datum) h.nodes;
    keys = keys-still (keys_in n.datum) h.keys;
    classes = classes-still (classes_in n.datum) h.classes;
    offsets = offsets-still (offsets_in n.datum) h.offsets;
  }

  pub sound_scope-still : (s : Scope) → IsSoundScope old s → IsSoundScope new s
  sound_scope-still s h = record {
    func = home-still s.func Function h.func;
    params = subst (λ ps. All (λ x. is_some (value_of (λ y. is_text y x) s.vars) ≡ true) ps) (sym (params-still s.func Function h.func)) h.params;
    vars = bound-still s.vars h.vars;
    apart = h.apart;
  }

  pub scopes-still : (ss : List Scope) → All (IsSoundScope old) ss → All (IsSoundScope new) ss
  scopes-still = All-weaker (IsSoundScope old) (IsSoundScope new) sound_scope-still

  pub attrs-still : (ks : Classes Text) → All (λ k. AreBound old k.attrs × AreApart k.attrs) ks → All (λ k. AreBound new k.attrs × AreApart k.attrs) ks
  attrs-still =
      All-weaker (λ (k : Class Text). AreBound old k.attrs × AreApart k.attrs) (λ (k : Class Text). AreBound new k.attrs × AreApart k.attrs) (λ k h. (bound-still k.attrs h.0, h.1))
