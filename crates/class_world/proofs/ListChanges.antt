-- Lists whose items change, in a world.
use Rattle.class_world.proofs.Below.{ℕ, zero, suc, false, List, [], length, get_or, take, drop, Some, Result, Ok, Err, OnOk, OnErr, refl, sym, ap, ◌∙◌, subst, slice_get, slice_set, option_map, remove, splice, Vec, All-append, All-drop, All-set, All-take, PyObjectRef, Node as StoredNode, Payload, AList, Datum, with_datum, with_datum_in, datum_at, Held, HasItems, HasOtherItems, items_in, items_of, Reading, datum, plain, IsNode, AreNodes, Holding, home_of, is_lasting, with_payload, Holds, AllHold, Grows, Sound, of_option, of_dict_ref, of_payload, of_node}
use Rattle.std.proofs.Common.{◌≡◌, ◌<◌, ◌≤◌, ◌∷◌, ◌++◌}
use Rattle.py_node.specs.declared.built_in.BuiltIn.TheVariants as built_in
use Rattle.py_node.specs.declared.payload.Payload.TheVariants as payload
use Rattle.plain_machine.specs.Plain.{Node}
use Rattle.class_world.proofs.Claims.{opened-one, all-rest, each-get, got}
use Rattle.class_world.proofs.Growth.{grows-seen}
use Rattle.class_world.proofs.Look.{node-read}
use Rattle.class_world.proofs.PayloadChanges.{payload-grows, payload-sound, payload-read}

abbrev Items : Type 0
Items = List PyObjectRef

-- what holds what lists hold
record IsList (p : Payload) : Type 0 where
  kept : Vec PyObjectRef
  is : p ≡ payload.List kept

listed : (p : Payload) → home_of p ≡ built_in.List → IsList p
listed payload.Object e = cc
listed (payload.Class d) e = cc
listed (payload.Number z) e = cc
listed (payload.Text s) e = cc
listed (payload.Tuple rs) e = cc
listed (payload.List rs) e = record { kept = rs; is = refl }
listed (payload.Dict es) e = cc
listed (payload.Function f) e = cc
listed (payload.Method m) e = cc
listed (payload.NativeFunction f) e = cc
listed (payload.BuiltinMethod m) e = cc
listed (payload.MethodDescriptor m) e = cc
listed (payload.GetSet g) e = cc
listed (payload.ClassMethod r) e = cc
listed (payload.StaticMethod r) e = cc
listed (payload.Member m) e = cc
listed (payload.Property p) e = cc
listed (payload.Super s) e = cc
listed (payload.Iterator i) e = cc
listed (payload.Slice s) e = cc

has-listed : (xs : Items) (p : Payload) → HasItems p xs → IsList p
has-listed xs payload.Object h = absurd h
has-listed xs (payload.Class d) h = absurd h
has-listed xs (payload.Number z) h = absurd h
has-listed xs (payload.Text s) h = absurd h
has-listed xs (payload.Tuple rs) h = absurd h
has-listed xs (payload.List rs) h = record { kept = rs; is = refl }
has-listed xs (payload.Dict es) h = absurd h
has-listed xs (payload.Function f) h = absurd h
has-listed xs (payload.Method m) h = absurd h
has-listed xs (payload.NativeFunction f) h = absurd h
has-listed xs (payload.BuiltinMethod m) h = absurd h
has-listed xs (payload.MethodDescriptor m) h = absurd h
has-listed xs (payload.GetSet g) h = absurd h
has-listed xs (payload.ClassMethod r) h = absurd h
has-listed xs (payload.StaticMethod r) h = absurd h
has-listed xs (payload.Member m) h = absurd h
has-listed xs (payload.Property p) h = absurd h
has-listed xs (payload.Super s) h = absurd h
has-listed xs (payload.Iterator i) h = absurd h
has-listed xs (payload.Slice s) h = absurd h

-- its items
has-items : (xs : Items) (p : Payload) (l : IsList p) → HasItems p xs → l.kept.items ≡ xs
has-items xs p l h = subst (λ p. HasItems p xs) l.is h

list-holds : (w : Held) (p : Payload) → IsList p → AllHold w (of_payload p) → Holds w (AreNodes (items_of p))
list-holds w p l h =
    let kept : Holds w (AreNodes l.kept.items) = (subst (λ p. AllHold w (of_payload p)) l.is h).0 in
    subst (λ p. Holds w (AreNodes (items_of p))) (sym l.is) kept

-- a node that holds what it held
same-datum : (ns : List Node) (i : ℕ) (d : Datum) → option_map (λ (n : Node). n.datum) (slice_get ns i) ≡ Some d → with_datum_in (λ m. d) ns i ≡ ns
same-datum [] i d e = refl
same-datum (n ∷ ns) zero d e = let same : d ≡ n.datum = cc in ap (λ d. record n { datum = d } ∷ ns) same
same-datum (n ∷ ns) (suc i) d e = ap (λ ms. n ∷ ms) (same-datum ns i d e)

module _ (w now : Held) (r : PyObjectRef) (n : StoredNode) (v : w ≡ now) where
  -- a list by its number
  record IsListThere : Type 0 where
    below : r.0 < length w.nodes
    home : home_of n.payload ≡ built_in.List
    reads : (t : Reading) → datum_at (plain t now) r ≡ Some (AList (items_of n.payload))
    holds : Holds w (AreNodes (items_of n.payload))

  list-there : Sound w → Holds now (IsNode r) → Holds now (Holding r built_in.List) → n ≡ get_or w.nodes r.0 n → IsListThere
  unfolding Holds
  list-there s h k e =
      let here = opened-one w now (IsNode r) v h in
      let at = got w.nodes r.0 n here e in
      let all = each-get w of_node w.nodes r.0 n at s.nodes in
      let home : Some (home_of n.payload) ≡ Some built_in.List = sym (ap (option_map (λ (x : StoredNode). home_of x.payload)) at) ∙ opened-one w now (Holding r built_in.List) v k in
      let kind : home_of n.payload ≡ built_in.List = cc in
      let l = listed n.payload kind in
      record {
        below = here;
        home = kind;
        reads = λ t.
            ap (option_map (λ (x : Node). x.datum)) (node-read w now r n v at t)
            ∙ ap (λ p. Some (datum t p)) l.is
            ∙ ap (λ p. Some (AList (items_of p))) (sym l.is);
        holds = list-holds w n.payload l (all-rest w (of_option of_dict_ref n.dict) _ all.1.1.1.1);
      }

-- nodes with others, without one, and with one at a place
module _ (w : Held) (rs : Items) (h : Holds w (AreNodes rs)) where
  both-nodes : (ss : Items) → Holds w (AreNodes ss) → Holds w (AreNodes (rs ++ ss))
  unfolding Holds
  both-nodes ss k = All-append (λ (r : PyObjectRef). r.0 < length w.nodes) rs ss h k

  set-nodes : (i : ℕ) (r : PyObjectRef) → Holds w (IsNode r) → Holds w (AreNodes (slice_set rs i r))
  unfolding Holds
  set-nodes i r k = All-set (λ (r : PyObjectRef). r.0 < length w.nodes) rs i r k h

  spliced-nodes : (start stop : ℕ) (ss : Items) → Holds w (AreNodes ss) → Holds w (AreNodes (splice rs start stop ss))
  unfolding Holds
  spliced-nodes start stop ss k =
      All-append (λ (r : PyObjectRef). r.0 < length w.nodes) (take start rs) (ss ++ drop stop rs) (All-take (λ (r : PyObjectRef). r.0 < length w.nodes) start rs h)
      (All-append (λ (r : PyObjectRef). r.0 < length w.nodes) ss (drop stop rs) k (All-drop (λ (r : PyObjectRef). r.0 < length w.nodes) stop rs h))

  without-nodes : (i : ℕ) → Holds w (AreNodes (remove rs i))
  unfolding Holds
  without-nodes i =
      All-append (λ (r : PyObjectRef). r.0 < length w.nodes) (take i rs) (drop (suc i) rs) (All-take (λ (r : PyObjectRef). r.0 < length w.nodes) i rs h)
      (All-drop (λ (r : PyObjectRef). r.0 < length w.nodes) (suc i) rs h)

-- a list that is there, at a node that changes
module _ (w now : Held) (r : PyObjectRef) (n new : StoredNode) (v : w ≡ now) (s : Sound w) (h : Holds now (IsNode r)) (k : Holds now (Holding r built_in.List)) (e : n ≡ get_or w.nodes r.0 n) where
  abbrev pub changed : Held
  changed = record w { nodes = slice_set w.nodes r.0 new }

  abbrev pub its : Reading → Items
  its t = items_in (datum_at (plain t now) r)

  there : IsListThere w now r n v
  there = list-there w now r n v s h k e

  pub kind-there : home_of n.payload ≡ built_in.List
  kind-there = there.home

  items-read : (t : Reading) → its t ≡ items_of n.payload
  items-read t = ap items_in (there.reads t)

  pub place-there : (i : ℕ) (t : Reading) → i < length (its t) → i < length (items_of n.payload)
  place-there i t l = subst (λ rs. i < length rs) (items-read t) l

  pub end-there : (i : ℕ) (t : Reading) → i ≤ length (its t) → i ≤ length (items_of n.payload)
  end-there i t l = subst (λ rs. i ≤ length rs) (items-read t) l

  same-node : (xs : Items) → HasOtherItems n new xs → with_payload n new.payload ≡ new
  same-node xs o =
      let class = sym o.0 in
      let dict = sym o.1 in
      let members = sym o.2 in
      λ i. record { class = class i; dict = dict i; members = members i; payload = new.payload }

  -- the world, with these items in the list
  record Has (xs : Items) : Type 0 where
    sound : Sound changed
    grows : Grows now changed
    reads : (t : Reading) → plain t changed ≡ with_datum (plain t now) r (AList xs)

  has : (xs : Items) → HasOtherItems n new xs → Holds w (AreNodes xs) → Has xs
  has xs o m =
      let p = new.payload in
      let l = has-listed xs p o.3 in
      let items = has-items xs p l o.3 in
      let kind : home_of p ≡ built_in.List = ap home_of l.is in
      let lasting : is_lasting (home_of p) ≡ false = ap is_lasting kind in
      let home : home_of n.payload ≡ home_of p = there.home ∙ sym kind in
      let kept : AllHold w (of_payload (payload.List l.kept)) = (subst (λ xs. Holds w (AreNodes xs)) (sym items) m, tt) in
      let holds : AllHold w (of_payload p) = subst (λ p. AllHold w (of_payload p)) (sym l.is) kept in
      let same = same-node xs o in
      let held : AList l.kept.items ≡ AList xs = ap AList items in
      record {
        sound = subst (λ m. Sound (record w { nodes = slice_set w.nodes r.0 m })) same (payload-sound w now r n p e lasting (record { below = there.below; home = home }) holds s);
        grows = subst (λ m. Grows now (record w { nodes = slice_set w.nodes r.0 m })) same (grows-seen w _ _ v (payload-grows w now r n p e lasting home));
        reads = λ t.
            ap (λ m. plain t (record w { nodes = slice_set w.nodes r.0 m })) (sym same)
            ∙ payload-read w now r n p v there.below e t
            ∙ ap (with_datum (plain t now) r) (ap (datum t) l.is ∙ held);
      }

  has-same : Has (items_of n.payload) → (t : Reading) → plain t changed ≡ plain t now
  has-same c t =
      c.reads t
      ∙ ap (λ (ns : List Node). record (plain t now) { nodes = ns }) (same-datum (plain t now).nodes r.0 (AList (items_of n.payload)) (there.reads t))

  -- the world, with what a change makes of the items
  pub record Changes (change : Items → Items) : Type 0 where
    pub sound : Sound changed
    pub grows : Grows now changed
    pub reads : (t : Reading) → plain t changed ≡ with_datum (plain t now) r (AList (change (its t)))

  changes : (change : Items → Items) → HasOtherItems n new (change (items_of n.payload)) → Holds w (AreNodes (change (items_of n.payload))) → Changes change
  changes change o m =
      let c = has (change (items_of n.payload)) o m in
      record { sound = c.sound; grows = c.grows; reads = λ t. c.reads t ∙ ap (λ rs. with_datum (plain t now) r (AList (change rs))) (sym (items-read t)) }

  -- the same, or where memory ran out the world as it was
  pub record MayChange {A E : Type 0} (res : Result A E) (change : Items → Items) : Type 0 where
    pub sound : Sound changed
    pub grows : Grows now changed
    pub ok : OnOk res ((t : Reading) → plain t changed ≡ with_datum (plain t now) r (AList (change (its t))))
    pub err : OnErr res ((t : Reading) → plain t changed ≡ plain t now)

  may-change : {A E : Type 0} (res : Result A E) (change : Items → Items) → OnOk res (HasOtherItems n new (change (items_of n.payload))) → OnErr res (HasOtherItems n new (items_of n.payload)) → Holds w (AreNodes (change (items_of n.payload))) → MayChange res change
  may-change (Ok a) change o x m =
      let c = changes change o m in
      record { sound = c.sound; grows = c.grows; ok = c.reads; err = tt }
  may-change (Err y) change o x m =
      let c = has (items_of n.payload) x there.holds in
      record { sound = c.sound; grows = c.grows; ok = tt; err = has-same c }

  -- the changes one by one

  pub pushed : {A E : Type 0} (res : Result A E) (more : Items) → OnOk res (HasOtherItems n new (items_of n.payload ++ more)) → OnErr res (HasOtherItems n new (items_of n.payload)) → Holds now (AreNodes more) → MayChange res (λ rs. rs ++ more)
  pushed res more o x m =
      may-change res (λ rs. rs ++ more) o x (both-nodes w (items_of n.payload) there.holds more (opened-one w now (AreNodes more) v m))

  pub spliced : {A E : Type 0} (res : Result A E) (start stop : ℕ) (others : Items) → OnOk res (HasOtherItems n new (splice (items_of n.payload) start stop others)) → OnErr res (HasOtherItems n new (items_of n.payload)) → Holds now (AreNodes others) → MayChange res (λ rs. splice rs start stop others)
  spliced res start stop others o x m =
      may-change res (λ rs. splice rs start stop others) o x (spliced-nodes w (items_of n.payload) there.holds start stop others (opened-one w now (AreNodes others) v m))

  pub item-set : (i : ℕ) (x : PyObjectRef) → HasOtherItems n new (slice_set (items_of n.payload) i x) → Holds now (IsNode x) → Changes (λ rs. slice_set rs i x)
  item-set i x o m = changes (λ rs. slice_set rs i x) o (set-nodes w (items_of n.payload) there.holds i x (opened-one w now (IsNode x) v m))

  pub item-taken : (i : ℕ) → HasOtherItems n new (remove (items_of n.payload) i) → Changes (λ rs. remove rs i)
  item-taken i o = changes (λ rs. remove rs i) o (without-nodes w (items_of n.payload) there.holds i)
